use Rattle.edd_code.proofs.MethodSpelling.{method_stands}
use Rattle.edd_code.proofs.method_laws.method_expressions_are_spelled.Goals as goal

pub returns : goal.returns
returns c = λ version counts slots number plain is_statement e holds variables arrays methods
    strings
    few fit is known second.
    let stands = method_stands version counts slots holds variables arrays methods strings few
    number
    plain is_statement e fit is known second in
    (stands.spelled, stands.named)
