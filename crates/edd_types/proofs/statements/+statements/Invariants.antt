use Rattle.std.proofs.Common.{take}
use Rattle.std.specs.List.{flat_map}
use Rattle.edd_breaches.specs.Told.{Tells}
use Rattle.edd_types.specs.Expressions.{part_told}
use Rattle.edd_types.proofs.statements.+statements.Given as goal

-- what was told of the parts so far
abbrev pub invariant-tell_parts-loop-part : goal.invariant-tell_parts-loop-part
invariant-tell_parts-loop-part l =
    Tells (flat_map (part_told l.sought) (take l.part-index l.parts)) l.fn.told.items l.told.items
