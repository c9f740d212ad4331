use Rattle.std.proofs.Common.{◌≡◌, drop, map}
use Rattle.edd_port.specs.Refusals.{change_of}
use Rattle.edd_device.specs.Copies.{replied, with_sets}
use Rattle.edd_device.proofs.copying.collect_sets.Given as goal

-- the sets so far are those of the entries so far
abbrev pub invariant-loop-entry : goal.invariant-loop-entry
invariant-loop-entry l = replied l.instrument l.device l.reply l.numbers
    ≡ with_sets (map change_of l.sets.items)
    (replied l.instrument l.device (drop l.entry-index l.reply) l.numbers)
