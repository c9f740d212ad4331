use Rattle.std.proofs.lemmas.Result.{err_from_is_err_and}
use Rattle.edd_compiler.proofs.source.unit_of.Goals as goal

pub returns-in_err-tokens-clause-complete : goal.returns-in_err-tokens-clause-complete
returns-in_err-tokens-clause-complete c unit of =
    let p = err_from_is_err_and c.from_residual.result c.from_residual.ensures.1 in rw (p.1, p.2)
    (c.in_err-tokens.ensures.complete unit of)
