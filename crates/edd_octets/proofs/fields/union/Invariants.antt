use Rattle.std.proofs.Common.{◌≡◌, bit_or, drop}
use Rattle.edd_octets.specs.Fields.{union}
use Rattle.edd_octets.proofs.fields.union.Given as goal

-- the bits so far and those of the parts that are left are those of all
abbrev pub invariant-loop-part : goal.invariant-loop-part
invariant-loop-part l = bit_or l.taken (union (drop l.part-index l.parts)) ≡ union l.parts
