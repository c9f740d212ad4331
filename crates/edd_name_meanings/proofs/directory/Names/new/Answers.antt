use Rattle.edd_name_meanings.proofs.Gathering.{at_number}
use Rattle.edd_name_meanings.proofs.directory.Names.new.Goals as goal

pub invariant_of-result : goal.invariant_of-result
invariant_of-result c = record {
  numbered = λ q. c.in_ok-numbers.ensures q;
  collected = at_number _ _ c.in_ok-collections.ensures;
}
