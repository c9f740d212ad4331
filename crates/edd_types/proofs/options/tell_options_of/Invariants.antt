use Rattle.std.proofs.Common.{take}
use Rattle.std.specs.List.{flat_map}
use Rattle.edd_breaches.specs.Told.{Tells}
use Rattle.edd_types.specs.Rules.{option_told}
use Rattle.edd_types.proofs.options.tell_options_of.Given as goal

-- what was told of the parts so far
abbrev pub invariant-loop-part : goal.invariant-loop-part
invariant-loop-part l =
    Tells (flat_map (option_told l.kind) (take l.part-index l.parts)) l.fn.told.items l.told.items
