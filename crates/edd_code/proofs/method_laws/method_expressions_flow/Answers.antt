use Rattle.edd_code.proofs.MethodFlow.{method_runs}
use Rattle.edd_code.proofs.method_laws.method_expressions_flow.Goals as goal

pub returns-clause-flows : goal.returns-clause-flows
returns-clause-flows c = λ number e fit d h. let runs = method_runs number e fit d h in runs.flows

pub returns-clause-leaves : goal.returns-clause-leaves
returns-clause-leaves c = λ number e fit d h. let runs = method_runs number e fit d h in runs.after
