-- What came, as the code has it.
use Rattle.edd_octets.specs.declared.decoding.Received as in_code
use Rattle.edd_octets.specs.Decoding.{Received}

-- bits of a variable that came, as the code has them
abbrev pub coming : in_code.Received → Received
coming one = record { variable = one.variable; named = one.named; bits = one.bits }
