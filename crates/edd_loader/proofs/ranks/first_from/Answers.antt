use Rattle.std.proofs.Common.{ℕ, ◌+◌, ◌-◌, ◌*◌, ◌/◌, arith}
use Rattle.edd_image.specs.Contents.{attribute_fields}
use Rattle.edd_loader.specs.Ranks.{rank_of}
use Rattle.edd_loader.proofs.Halving.{below_middle, above_middle}
use Rattle.edd_loader.proofs.ranks.first_from.Goals as goal

pub loop-low-preserved-then-rank_at-key : goal.loop-low-preserved-then-rank_at-key
loop-low-preserved-then-rank_at-key c =
    let f : ℕ → ℕ = λ i. rank_of (attribute_fields c.args.bytes.now (c.args.start + 16 * i)) in
    let middle : ℕ = c.loop-low.low + (c.loop-low.high - c.loop-low.low) / 2 in
    record {
      rises = omega arith;
      ends = c.loop-low.invariant.ends;
      below = below_middle f c.args.count middle c.args.key c.requires.rising (omega arith)
          (omega (arith, c.rank_at.ensures));
      above = c.loop-low.invariant.above;
    }

pub loop-low-preserved : goal.loop-low-preserved
loop-low-preserved c =
    let f : ℕ → ℕ = λ i. rank_of (attribute_fields c.args.bytes.now (c.args.start + 16 * i)) in
    let middle : ℕ = c.loop-low.low + (c.loop-low.high - c.loop-low.low) / 2 in
    record {
      rises = omega arith;
      ends = omega arith;
      below = c.loop-low.invariant.below;
      above = above_middle f c.args.count middle c.args.key c.requires.rising
          (omega (arith, c.rank_at.ensures));
    }
