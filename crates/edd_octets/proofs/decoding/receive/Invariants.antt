use Rattle.std.proofs.Common.{◌≡◌, ◌++◌, drop, length, map}
use Rattle.edd_octets.specs.Coming.{coming}
use Rattle.edd_octets.specs.Decoding.{received}
use Rattle.edd_octets.specs.Fields.{length_of}
use Rattle.edd_octets.specs.Messages.{field_of}
use Rattle.edd_octets.proofs.decoding.receive.Given as goal

-- what came so far and what comes with the fields that are left is all
abbrev pub invariant-loop-field : goal.invariant-loop-field
invariant-loop-field l = record {
  long : length l.left ≡ length_of (map field_of (drop l.field-index l.fields));
  came : map coming l.all.items ++ received (map field_of (drop l.field-index l.fields)) l.left
      ≡ received (map field_of l.fields) l.octets;
}
