use Rattle.std.proofs.Common.{◌≡◌}
use Rattle.edd_cases.specs.Renewed.{HaveSeen, kept_of}
use Rattle.edd_cases.proofs.renewing.add_rest.Given as goal

-- what stays is as it was, and all up to this place was added
abbrev pub invariant-loop-place : goal.invariant-loop-place
invariant-loop-place l = (kept_of l.pieces.items ≡ kept_of l.fn.pieces.items)
    × (HaveSeen l.fn.pieces.items l.seen l.fn.added → HaveSeen l.pieces.items l.seen l.place)
