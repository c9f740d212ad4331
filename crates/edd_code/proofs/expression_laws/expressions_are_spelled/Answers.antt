use Rattle.edd_code.proofs.ExpressionSpelling.{is_named, is_spelled}
use Rattle.edd_code.proofs.expression_laws.expressions_are_spelled.Goals as goal

pub returns-clause-spelled : goal.returns-clause-spelled
returns-clause-spelled c = λ counts plain e few few_arrays is.
    is_spelled counts plain few few_arrays e is

pub returns-clause-stands : goal.returns-clause-stands
returns-clause-stands c = λ version counts plain e fits is. is_named version counts plain fits e is
