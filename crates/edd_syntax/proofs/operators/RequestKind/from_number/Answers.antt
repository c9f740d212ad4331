use Rattle.edd_syntax.specs.declared.operators.TheConstants.{REQUESTS}
use Rattle.edd_syntax.proofs.KnownByNumber.{by_number}
use Rattle.edd_syntax.proofs.operators.RequestKind.from_number.Goals as goal

pub returns : goal.returns
returns c =
    by_number REQUESTS c.args.number c.numbered.result c.numbered.ensures.none c.numbered.ensures.one
