use Rattle.edd_code.proofs.ExpressionFlow.{expression_runs}
use Rattle.edd_code.proofs.expression_laws.expressions_flow.Goals as goal

pub returns-clause-flows : goal.returns-clause-flows
returns-clause-flows c = λ e d h. let runs = expression_runs e d h in runs.flows

pub returns-clause-leaves : goal.returns-clause-leaves
returns-clause-leaves c = λ e d h. let runs = expression_runs e d h in runs.after
