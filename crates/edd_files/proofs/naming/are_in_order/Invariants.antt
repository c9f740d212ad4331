-- What is found in the words that are left is found in all.
use Rattle.std.proofs.Common.{length, map}
use Rattle.std.specs.Prelude.{string_bytes}
use Rattle.edd_files.specs.Saves.{AreInOrder}
use Rattle.edd_files.proofs.naming.are_in_order.Given as goal

abbrev pub invariant-loop-rest : goal.invariant-loop-rest
invariant-loop-rest l = AreInOrder (map string_bytes l.rest) l.fn.first l.fn.second
    → AreInOrder (map string_bytes l.fn.words) l.fn.first l.fn.second

abbrev pub decreases-loop-rest : goal.decreases-loop-rest
decreases-loop-rest l = length l.rest
