use Rattle.std.proofs.Common.{ℕ, ◌+◌, ◌-◌, ◌*◌, ◌<◌, ◌≤◌}
use Rattle.edd_image.specs.Contents.{element_fields}
use Rattle.edd_loader.specs.Elements.{key_of}
use Rattle.edd_loader.proofs.elements.row_with.Given as goal

abbrev pub invariant-loop-low : goal.invariant-loop-low
invariant-loop-low l = record {
  rises : l.low ≤ l.high;
  ends : l.high ≤ l.count;
  below : (i : ℕ) → i < l.low → key_of (element_fields l.bytes (l.start + 8 * i)) < l.key;
  above : (i : ℕ) → l.high ≤ i → i < l.count
      → l.key < key_of (element_fields l.bytes (l.start + 8 * i));
}

abbrev pub decreases-loop-low : goal.decreases-loop-low
decreases-loop-low l = l.high - l.low
