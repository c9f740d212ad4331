use Rattle.std.proofs.Common.{◌≡◌, ◌-◌, length, IsTrue}
use Rattle.edd_strings.proofs.Marks.{IsMarkAt, IsPlainTo}
use Rattle.edd_strings.proofs.Pieces.{IsReadTo}
use Rattle.edd_strings.proofs.codes.first_part.Given as goal

-- no code opens in what was read, no escape stands there while it is plain, and a mark is next
abbrev pub invariant-loop-at : goal.invariant-loop-at
invariant-loop-at l = (l.bytes ≡ l.raw) × IsReadTo l.raw l.at
    × (IsTrue l.is_plain → IsPlainTo l.raw l.at)
    × IsMarkAt l.raw l.at

abbrev pub decreases-loop-at : goal.decreases-loop-at
decreases-loop-at l = length l.bytes - l.at
