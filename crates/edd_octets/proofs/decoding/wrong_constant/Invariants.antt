use Rattle.std.proofs.Common.{◌≡◌, ◌+◌, drop, length, map}
use Rattle.edd_octets.specs.Decoding.{wrong_constant}
use Rattle.edd_octets.specs.Fields.{length_of}
use Rattle.edd_octets.specs.Messages.{field_of}
use Rattle.edd_octets.proofs.decoding.wrong_constant.Given as goal

-- no constant so far differs
abbrev pub invariant-loop-field : goal.invariant-loop-field
invariant-loop-field l = record {
  long : length l.left ≡ length_of (map field_of (drop l.field-index l.fields));
  place : l.place + length l.left ≡ length l.octets;
  right : wrong_constant l.place (map field_of (drop l.field-index l.fields)) l.left
      ≡ wrong_constant 0 (map field_of l.fields) l.octets;
}
