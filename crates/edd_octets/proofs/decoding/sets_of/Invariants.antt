use Rattle.std.proofs.Common.{◌≡◌, ◌++◌, drop, map}
use Rattle.edd_machine.specs.Types.{types_in}
use Rattle.edd_octets.specs.Coming.{coming}
use Rattle.edd_octets.specs.Decoding.{sets_of}
use Rattle.edd_octets.specs.Messages.{change_of}
use Rattle.edd_octets.proofs.decoding.sets_of.Given as goal

-- the sets so far and those of what is left are all
abbrev pub invariant-loop-one : goal.invariant-loop-one
invariant-loop-one l = map change_of l.sets.items
    ++ sets_of (types_in l.image) l.now.items (map coming (drop l.one-index l.all))
    ≡ sets_of (types_in l.image) l.values (map coming l.all)
