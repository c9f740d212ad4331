use Rattle.std.proofs.Common.{List, sym, ap, ◌∙◌, ◌+◌, arith, map, drop}
use Rattle.std.specs.Prelude.{option_map}
use Rattle.std.specs.Borrow.{Bor}
use Rattle.std.proofs.lemmas.List.{length-map}
use Rattle.edd_syntax.specs.declared.cond.Cond.{Cond}
use Rattle.edd_syntax.specs.declared.reference.Target.{Target}
use Rattle.edd_syntax.specs.Conditional as pure
use Rattle.edd_syntax.specs.Conditional.{arms_from}
use Rattle.edd_syntax.specs.ItemView.{numbered_arm, numbered_conds}
use Rattle.edd_attrs.specs.Writing.{default_of}
use Rattle.edd_attrs.proofs.Conditionals.{found_here, not_here}
use Rattle.edd_attrs.proofs.Loops.{dropped, viewed_at}
use Rattle.edd_attrs.proofs.conditions.default_among.Goals as goal

pub loop-arm-preserved : goal.loop-arm-preserved
loop-arm-preserved g c =
    let at = dropped (map (numbered_arm g.V.Element.view) c.args.arms.now) c.loop-arm.arm-index
    (omega (arith, length-map c.args.arms.now (numbered_arm g.V.Element.view)))
    (viewed_at (numbered_arm g.V.Element.view) c.args.arms.now c.loop-arm.arm-index (omega arith)
    c.arm-item.is) in
    let e = sym (ap (option_map (λ (body : Bor (List (Cond Target g.row.V.Denot))). numbered_conds
    g.V.Element.view body.now)) c.in_default.is) ∙ c.default_in.ensures in
    sym (not_here (numbered_arm g.V.Element.view c.arm-item.result)
    (arms_from (drop (c.loop-arm.arm-index + 1)
    (map (numbered_arm g.V.Element.view) c.args.arms.now))) e)
    ∙ ap (λ (xs : List (pure.Arm Target g.V.Element.Meant)). default_of (arms_from xs)) (sym at)
    ∙ c.loop-arm.invariant

pub returns-in-Some : goal.returns-in-Some
returns-in-Some g c =
    let at = dropped (map (numbered_arm g.V.Element.view) c.args.arms.now) c.loop-arm.arm-index
    (omega (arith, length-map c.args.arms.now (numbered_arm g.V.Element.view)))
    (viewed_at (numbered_arm g.V.Element.view) c.args.arms.now c.loop-arm.arm-index (omega arith)
    c.arm-item.is) in
    let e = sym (ap (option_map (λ (body : Bor (List (Cond Target g.row.V.Denot))). numbered_conds
    g.V.Element.view body.now)) c.in-Some.is) ∙ c.default_in.ensures in
    found_here (numbered_arm g.V.Element.view c.arm-item.result) (arms_from
    (drop (c.loop-arm.arm-index + 1) (map (numbered_arm g.V.Element.view) c.args.arms.now))) e
    ∙ ap (λ (xs : List (pure.Arm Target g.V.Element.Meant)). default_of (arms_from xs)) (sym at)
    ∙ c.loop-arm.invariant
