use Rattle.std.proofs.Common.{◌≡◌, ◌+◌, ◌<◌, ℕ, List, [], ◌∷◌, arith, sym, ap, ◌∙◌, ◌++◌, length, map, take, append_assoc, length-append}
use Rattle.std.proofs.lemmas.List.{length-map, take_all}
use Rattle.edd_syntax.specs.ItemView.{numbered_arm}
use Rattle.edd_attrs.specs.Writing.{header, headers, hole_of, holes_of}
use Rattle.edd_attrs.proofs.Arms.{holes_taken}
use Rattle.edd_attrs.proofs.Loops.{flat_take, viewed_at}
use Rattle.edd_attrs.proofs.conditions.open_cases.Goals as goal

pub loop-arm-preserved : goal.loop-arm-preserved
loop-arm-preserved g c =
    let view = numbered_arm g.V.Element.view in
    let arms = map view c.args.arms.now in
    let i = c.loop-arm.arm-index in
    let arm = view c.arm-item.result in
    let start = c.args.code.now in
    let below : i < length arms = omega (arith, length-map c.args.arms.now view) in
    let at = viewed_at view c.args.arms.now i (omega arith) c.arm-item.is in
    let place : length c.loop-arm.code ≡ length start + length (headers (take i arms)) =
    ap length c.loop-arm.invariant.code ∙ length-append start (headers (take i arms)) in
    record {
      code = c.in_ok-open_arm.ensures.code
          ∙ ap (λ (code : List ℕ). code ++ header arm) c.loop-arm.invariant.code
          ∙ append_assoc start (headers (take i arms)) (header arm)
          ∙ ap (λ (code : List ℕ). start ++ code) (sym (flat_take header arms i arm below at));
      holes = c.in_ok-push.ensures.items
          ∙ ap (λ hs. hs ++ c.in_ok-open_arm.field-0 ∷ []) c.loop-arm.invariant.holes
          ∙ ap (λ h. holes_of (length start) (take i arms) ++ h ∷ []) (c.in_ok-open_arm.ensures.hole
          ∙ ap (λ p. hole_of p arm) place)
          ∙ sym (holes_taken (length start) i arms arm below at);
    }

pub returns-clause-code : goal.returns-clause-code
returns-clause-code g c =
    c.loop-arm.invariant.code ∙ ap (λ xs. c.args.code.now ++ headers xs)
    (take_all c.loop-arm.arm-index (map (numbered_arm g.V.Element.view) c.args.arms.now)
    (omega (arith, length-map c.args.arms.now (numbered_arm g.V.Element.view))))

pub returns-clause-holes : goal.returns-clause-holes
returns-clause-holes g c =
    c.loop-arm.invariant.holes ∙ ap (holes_of (length c.args.code.now))
    (take_all c.loop-arm.arm-index (map (numbered_arm g.V.Element.view) c.args.arms.now)
    (omega (arith, length-map c.args.arms.now (numbered_arm g.V.Element.view))))
