use Rattle.std.proofs.Common.{◌≡◌, bit_or, drop}
use Rattle.edd_machine.specs.Types.{types_in}
use Rattle.edd_octets.specs.Encoding.{gathered}
use Rattle.edd_octets.proofs.encoding.gathered.Given as goal

-- the bits so far and those of the parts that are left are those of all
abbrev pub invariant-loop-part : goal.invariant-loop-part
invariant-loop-part l = bit_or l.number (gathered (types_in l.image) l.values (drop l.part-index l.parts))
    ≡ gathered (types_in l.image) l.values l.parts
