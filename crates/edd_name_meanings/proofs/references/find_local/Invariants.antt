use Rattle.std.proofs.Common.{◌≡◌, drop}
use Rattle.edd_syntax.specs.Resolution.{look_up}
use Rattle.edd_name_meanings.specs.Meanings.{scope_of}
use Rattle.edd_name_meanings.proofs.references.find_local.Given as goal

-- the locals so far have other names
abbrev pub invariant-loop-local : goal.invariant-loop-local
invariant-loop-local l = look_up l.name (scope_of (drop l.local-index l.scope))
    ≡ look_up l.name (scope_of l.scope)
