use Rattle.std.proofs.Common.{◌≡◌, ℕ, ◌+◌, ◌*◌, ◌<◌, length}
use Rattle.edd_image.specs.Contents.{attribute_fields}
use Rattle.edd_display.specs.Written.{IsNoted}
use Rattle.edd_display.proofs.written.note_rows.Given as goal

abbrev pub invariant-loop-index : goal.invariant-loop-index
invariant-loop-index l =
    (length l.all.items ≡ length l.initial.all.items)
    × ((i : ℕ) → i < l.index → IsNoted l.kind l.all.items (attribute_fields l.bytes (l.start + 16 * i)))
