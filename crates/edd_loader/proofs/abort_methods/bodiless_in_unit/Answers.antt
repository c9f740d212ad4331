use Rattle.std.proofs.Common.{arith, sym, ◌∙◌}
use Rattle.edd_image.specs.Contents.{contents_in}
use Rattle.edd_instructions.specs.Units.{Placed}
use Rattle.edd_instructions.specs.Validity.{adds_with_body}
use Rattle.edd_loader.proofs.AddedMethods.{adds_from_start}
use Rattle.edd_unit_rules.proofs.Walks.{all_goes, all_fails, all_done}
use Rattle.edd_loader.proofs.abort_methods.bodiless_in_unit.Goals as goal

pub loop-instruction-init : goal.loop-instruction-init
loop-instruction-init c = record {
  inside = omega arith;
  same = adds_from_start c.args.bytes.now c.args.unit.now;
}

pub returns-then-not-adds_with_body : goal.returns-then-not-adds_with_body
returns-then-not-adds_with_body c =
    sym (all_fails (λ (x : Placed). adds_with_body (contents_in c.args.bytes.now) x.instruction) _ _
    _ _ (sym c.decode.ensures.value ∙ c.in-Some.is)
    (sym c.adds_with_body.ensures ∙ c.if-not-adds_with_body.true)
    c.loop-instruction.invariant.same)

pub loop-instruction-preserved : goal.loop-instruction-preserved
loop-instruction-preserved c = record {
  inside = c.in-Some.ensures.inside.1;
  same = all_goes (λ (x : Placed). adds_with_body (contents_in c.args.bytes.now) x.instruction) _ _
      _ _ (sym c.decode.ensures.value ∙ c.in-Some.is)
      (sym c.adds_with_body.ensures ∙ c.if-not-adds_with_body.false)
      c.loop-instruction.invariant.same;
}

pub returns : goal.returns
returns c =
    sym (all_done (λ (x : Placed). adds_with_body (contents_in c.args.bytes.now) x.instruction) _ _
    _ (sym c.decode.ensures.value ∙ c.in_default.is) c.loop-instruction.invariant.same)
