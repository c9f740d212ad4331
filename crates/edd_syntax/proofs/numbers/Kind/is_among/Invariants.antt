use Rattle.std.proofs.Common.{◌≡◌, drop}
use Rattle.std.specs.List.{list_any}
use Rattle.edd_syntax.specs.Numbers.{same_kind}
use Rattle.edd_syntax.proofs.numbers.Kind.is_among.Given as goal

-- the kinds so far are others
abbrev pub invariant-loop-other : goal.invariant-loop-other
invariant-loop-other l = list_any (same_kind l.self) (drop l.other-index l.kinds)
    ≡ list_any (same_kind l.self) l.kinds
