use Rattle.std.proofs.Common.{◌≡◌, ◌↔◌, ℕ, ◌<◌, true}
use Rattle.std.specs.Prelude.{IsTrue}
use Rattle.edd_unit_rules.specs.Marks.{is_settled, mark_at}
use Rattle.edd_unit_rules.proofs.marks.are_settled.Given as goal

abbrev pub invariant-loop-place : goal.invariant-loop-place
invariant-loop-place l = IsTrue l.are_settled
    ↔ ((q : ℕ) → q < l.place → is_settled (mark_at l.marks q) ≡ true)
