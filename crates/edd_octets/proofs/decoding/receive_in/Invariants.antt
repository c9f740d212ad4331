use Rattle.std.proofs.Common.{◌≡◌, ◌++◌, drop, map}
use Rattle.edd_octets.specs.Coming.{coming}
use Rattle.edd_octets.specs.Decoding.{received_in}
use Rattle.edd_octets.proofs.decoding.receive_in.Given as goal

-- what came so far and what comes with the parts that are left is what comes with all
abbrev pub invariant-loop-part : goal.invariant-loop-part
invariant-loop-part l = map coming l.all.items ++ received_in l.number (drop l.part-index l.parts)
    ≡ map coming l.fn.all.items ++ received_in l.number l.parts
