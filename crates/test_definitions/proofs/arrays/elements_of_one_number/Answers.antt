use Rattle.std.proofs.Common.{refl}
use Rattle.edd_syntax.specs.ResolvedTrees.{resolved_by, resolved_unit}
use Rattle.edd_syntax.specs.Statement.{slots_of}
use Rattle.test_definitions.proofs.arrays.elements_of_one_number.Goals as goal

pub returns : goal.returns
unfolding resolved_unit resolved_by slots_of
returns c = record {
  two_of_5 = refl;
  of_5_and_9 = refl;
}
