use Rattle.std.proofs.Common.{refl}
use Rattle.edd_syntax.specs.Evaluation.{call, evaluate}
use Rattle.edd_syntax.specs.Execution.{execute, run, run_listed, turns}
use Rattle.edd_syntax.specs.Statement.{slots_of}
use Rattle.edd_syntax.specs.TwosComplement.{operate, store, wrap}
use Rattle.test_definitions.proofs.aborts.listed_methods.Goals as goal

pub returns : goal.returns
unfolding run run_listed execute turns evaluate call wrap store operate slots_of
returns c = record {
  eighth = refl;
  ninth = refl;
  while_aborting = refl;
  value = refl;
  twice = refl;
}
