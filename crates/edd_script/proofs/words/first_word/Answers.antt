use Rattle.std.proofs.Common.{◌<◌, length, arith, sym, ◌∙◌, ap}
use Rattle.std.proofs.lemmas.Grind.{common_steps}
use Rattle.edd_script.proofs.WordStarts.{behind_word, last_word}
use Rattle.edd_script.proofs.words.first_word.Goals as goal

pub returns-then-not-is_empty-clause-sound : goal.returns-then-not-is_empty-clause-sound
returns-then-not-is_empty-clause-sound c =
    let cut = c.in-Some.ensures.byte (omega arith) (λ w o h. h) in
    let some : 0 < length c.in-Some.word.now = grind (arith, common_steps) in
    sym c.loop-word.invariant.1
    ∙ behind_word c.loop-word.rest.now c.in-Some.word.now c.in-Some.behind.now cut.2
    (ap (λ x. x.now) (sym c.in-Some.word-is) ∙ cut.0) cut.1 some

pub returns-else-is_empty-clause-sound : goal.returns-else-is_empty-clause-sound
returns-else-is_empty-clause-sound c =
    let uncut = c.in_default.ensures.byte (omega arith) (λ w o h. h) in
    let some : 0 < length c.loop-word.rest.now = grind (arith, common_steps) in
    sym c.loop-word.invariant.1 ∙ last_word c.loop-word.rest.now uncut some
