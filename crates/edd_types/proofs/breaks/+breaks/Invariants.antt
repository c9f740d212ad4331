use Rattle.std.proofs.Common.{take}
use Rattle.std.specs.List.{flat_map}
use Rattle.edd_breaches.specs.Told.{Tells}
use Rattle.edd_types.specs.Breaks.{breaks_told_of}
use Rattle.edd_types.proofs.breaks.+breaks.Given as goal

abbrev pub invariant-tell_breaks-loop-part : goal.invariant-tell_breaks-loop-part
invariant-tell_breaks-loop-part l =
    Tells (flat_map (breaks_told_of l.in_loop l.in_switch) (take l.part-index l.parts))
    l.fn.told.items l.told.items
