use Rattle.std.proofs.Common.{refl}
use Rattle.edd_syntax.specs.Evaluation.{call, evaluate}
use Rattle.edd_syntax.specs.Execution.{execute, run, run_listed, turns}
use Rattle.edd_syntax.specs.Statement.{slots_of}
use Rattle.edd_syntax.specs.TwosComplement.{operate, store, wrap}
use Rattle.test_definitions.proofs.aborts.aborted_methods.Goals as goal

pub returns : goal.returns
unfolding run run_listed execute turns evaluate call wrap store operate slots_of
returns c = record {
  trap_runs_none = refl;
  return_goes_on = refl;
  abort_ends = refl;
  values_stay = refl;
  locals_are_0 = refl;
  out_of_turns_inside = refl;
}
