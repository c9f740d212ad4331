use Rattle.std.proofs.Common.{take}
use Rattle.std.specs.List.{flat_map}
use Rattle.edd_breaches.specs.Told.{Tells}
use Rattle.edd_types.specs.Attributes.{type_part_told}
use Rattle.edd_types.proofs.attributes.tell_type_parts.Given as goal

-- what was told of the parts so far
abbrev pub invariant-loop-part : goal.invariant-loop-part
invariant-loop-part l =
    Tells (flat_map (type_part_told l.sought) (take l.part-index l.parts)) l.fn.told.items l.told.items
