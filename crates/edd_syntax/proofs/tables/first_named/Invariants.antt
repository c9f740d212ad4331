use Rattle.std.proofs.Common.{◌≡◌, drop}
use Rattle.edd_syntax.specs.Resolution.{by_name, look_up}
use Rattle.edd_syntax.proofs.tables.first_named.Given as goal

-- the functions so far have other names
abbrev pub invariant-loop-function : goal.invariant-loop-function
invariant-loop-function l = look_up l.name (by_name (drop l.function-index l.functions))
    ≡ look_up l.name (by_name l.functions)
