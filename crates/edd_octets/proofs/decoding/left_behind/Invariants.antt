use Rattle.std.proofs.Common.{◌≡◌, ◌+◌, drop, map}
use Rattle.edd_octets.specs.Fields.{length_of}
use Rattle.edd_octets.specs.Messages.{field_of}
use Rattle.edd_octets.proofs.decoding.left_behind.Given as goal

-- the octets of the fields so far are taken
abbrev pub invariant-loop-field : goal.invariant-loop-field
invariant-loop-field l = l.left + length_of (map field_of l.fields)
    ≡ l.count + length_of (map field_of (drop l.field-index l.fields))
