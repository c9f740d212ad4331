use Rattle.std.proofs.Common.{take}
use Rattle.std.specs.List.{flat_map}
use Rattle.edd_breaches.specs.Told.{Tells}
use Rattle.edd_types.specs.Expressions.{argument_told}
use Rattle.edd_types.proofs.expressions.+expressions.Given as goal

-- what was told of the arguments so far
abbrev pub invariant-tell_arguments-loop-argument : goal.invariant-tell_arguments-loop-argument
invariant-tell_arguments-loop-argument l =
    Tells (flat_map (argument_told l.sought) (take l.argument-index l.arguments)) l.fn.told.items
    l.told.items
