use Rattle.std.proofs.Common.{◌≡◌, drop, map}
use Rattle.edd_machine.specs.Types.{types_in}
use Rattle.edd_octets.specs.Coming.{coming}
use Rattle.edd_octets.specs.Decoding.{misfit}
use Rattle.edd_octets.proofs.decoding.misfit.Given as goal

-- nothing so far misfits
abbrev pub invariant-loop-one : goal.invariant-loop-one
invariant-loop-one l = misfit (types_in l.image) (map coming (drop l.one-index l.all))
    ≡ misfit (types_in l.image) (map coming l.all)
