use Rattle.std.proofs.Common.{take}
use Rattle.std.specs.List.{flat_map}
use Rattle.edd_breaches.specs.Told.{Tells}
use Rattle.edd_types.specs.Expressions.{optional_told}
use Rattle.edd_types.proofs.statements.tell_declarators.Given as goal

-- what was told of the declarators so far
abbrev pub invariant-loop-d : goal.invariant-loop-d
invariant-loop-d l =
    Tells (flat_map (λ d. optional_told l.sought d.value) (take l.d-index l.declarators))
    l.fn.told.items l.told.items
