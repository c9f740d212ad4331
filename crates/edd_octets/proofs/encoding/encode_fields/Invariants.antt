use Rattle.std.proofs.Common.{◌≡◌, ◌++◌, drop, map}
use Rattle.edd_machine.specs.Types.{types_in}
use Rattle.edd_octets.specs.Encoding.{encoded}
use Rattle.edd_octets.specs.Messages.{field_of}
use Rattle.edd_octets.proofs.encoding.encode_fields.Given as goal

-- the octets so far and those of the fields that are left are those of all
abbrev pub invariant-loop-field : goal.invariant-loop-field
invariant-loop-field l = l.octets.items
    ++ encoded (types_in l.image) l.values (map field_of (drop l.field-index l.fields))
    ≡ encoded (types_in l.image) l.values (map field_of l.fields)
