use Rattle.std.proofs.Common.{◌≡◌, ◌++◌, [], drop}
use Rattle.edd_cases.specs.Renewed.{HaveSeen, kept_of, shown_of, staying_of}
use Rattle.edd_cases.proofs.renewing.add_said.Given as goal

abbrev pub invariant-loop-line : goal.invariant-loop-line
invariant-loop-line l = (kept_of l.pieces.items ++ staying_of (drop l.line-index l.lines)
    ≡ kept_of l.fn.pieces.items ++ staying_of l.lines)
    × (shown_of l.fn.pieces.items ≡ [] → HaveSeen l.pieces.items l.seen l.added)
