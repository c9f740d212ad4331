use Rattle.edd_syntax.specs.declared.numbers.TheConstants.{ATTRIBUTES}
use Rattle.edd_syntax.proofs.KnownByNumber.{by_number}
use Rattle.edd_syntax.proofs.numbers.Attr.from_number.Goals as goal

pub returns : goal.returns
returns c =
    by_number ATTRIBUTES c.args.number c.numbered.result c.numbered.ensures.none c.numbered.ensures.one
