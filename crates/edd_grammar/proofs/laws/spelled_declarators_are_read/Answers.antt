use Rattle.edd_grammar.proofs.Declarations.{declarators_again}
use Rattle.edd_grammar.proofs.laws.spelled_declarators_are_read.Goals as goal

pub returns : goal.returns
returns c = λ height_left ds here rest h low. declarators_again height_left ds here rest h low
