use Rattle.std.proofs.Common.{ℕ, ◌+◌, ◌*◌, ◌/◌, inl, inr, arith}
use Rattle.std.proofs.lemmas.Bool.{cases_lt}
use Rattle.edd_image.specs.Contents.{element_fields}
use Rattle.edd_loader.specs.Elements.{key_of}
use Rattle.edd_loader.proofs.Halving.{below_middle, past_middle}
use Rattle.edd_loader.proofs.elements.row_with.Goals as goal

pub loop-low-preserved-then-there-key : goal.loop-low-preserved-then-there-key
loop-low-preserved-then-there-key c =
    let f : ℕ → ℕ = λ i. key_of (element_fields c.args.bytes.now (c.args.start + 8 * i)) in
    let middle : ℕ = (c.loop-low.low + c.loop-low.high) / 2 in
    record {
      rises = omega arith;
      ends = c.loop-low.invariant.ends;
      below = below_middle f c.args.count middle c.args.key c.requires.rising (omega arith)
          (omega (arith, c.key_at-there.ensures));
      above = c.loop-low.invariant.above;
    }

pub loop-low-preserved : goal.loop-low-preserved
loop-low-preserved c =
    let f : ℕ → ℕ = λ i. key_of (element_fields c.args.bytes.now (c.args.start + 8 * i)) in
    let middle : ℕ = (c.loop-low.low + c.loop-low.high) / 2 in
    record {
      rises = omega arith;
      ends = omega arith;
      below = c.loop-low.invariant.below;
      above = past_middle f c.args.count middle c.args.key c.requires.rising
          (omega (arith, c.key_at-there.ensures));
    }

pub returns-clause-complete : goal.returns-clause-complete
returns-clause-complete c = λ i lt same. elim (cases_lt i c.loop-low.low) [
  | inl before ↦ omega (arith, c.loop-low.invariant.below i before, same)
  | inr after ↦ omega (arith, c.loop-low.invariant.above i (omega (arith, after)) lt, same)
]
