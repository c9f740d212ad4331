use Rattle.std.proofs.Common.{rules, tests, arith, sym, ◌∙◌}
use Rattle.std.proofs.lemmas.Grind.{common_steps}
use Rattle.std.specs.Prelude.{◌==◌}
use Rattle.std.proofs.lemmas.Iterator.{YieldsList-from_slice}
use Rattle.std.proofs.lemmas.Iterator.Search.{position_from_yields_List}
use Rattle.edd_script.proofs.LineEnds.{to_its_end, whole_line}
use Rattle.edd_script.proofs.lines.first_line.Goals as goal

pub returns-in-Some-clause-sound : goal.returns-in-Some-clause-sound
returns-in-Some-clause-sound c =
    let text = c.args.text.now in
    let found = position_from_yields_List (λ b. b == 10) _ _ _ c.position.ensures.ran
    (YieldsList-from_slice text c.iter.ensures.rest) (λ x b q k. search (rules, tests)) in
    to_its_end text c.in-Some.place (grind (arith, common_steps)) (sym c.in-Some.is ∙ found)
    ∙ grind (arith, common_steps)

pub returns-in-None-clause-sound : goal.returns-in-None-clause-sound
returns-in-None-clause-sound c =
    let text = c.args.text.now in
    let found = position_from_yields_List (λ b. b == 10) _ _ _ c.position.ensures.ran
    (YieldsList-from_slice text c.iter.ensures.rest) (λ x b q k. search (rules, tests)) in
    whole_line text (grind (arith, common_steps)) (sym c.in-None.is ∙ found)
