use Rattle.std.proofs.Common.{ℕ, ◌+◌, ◌-◌, ◌*◌, ◌<◌, ◌≤◌}
use Rattle.edd_image.specs.Contents.{attribute_fields}
use Rattle.edd_loader.specs.Ranks.{rank_of}
use Rattle.edd_loader.proofs.ranks.first_from.Given as goal

abbrev pub invariant-loop-low : goal.invariant-loop-low
invariant-loop-low l = record {
  rises : l.low ≤ l.high;
  ends : l.high ≤ l.count;
  below : (i : ℕ) → i < l.low → rank_of (attribute_fields l.bytes (l.start + 16 * i)) < l.key;
  above : (i : ℕ) → l.high ≤ i → i < l.count
      → l.key ≤ rank_of (attribute_fields l.bytes (l.start + 16 * i));
}

abbrev pub decreases-loop-low : goal.decreases-loop-low
decreases-loop-low l = l.high - l.low
