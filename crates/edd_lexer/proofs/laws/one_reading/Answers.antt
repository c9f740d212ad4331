use Rattle.edd_lexer.proofs.Texts.{one_list, one_fault, no_list}
use Rattle.edd_lexer.proofs.laws.one_reading.Goals as goal

pub returns-clause-one_list : goal.returns-clause-one_list
returns-clause-one_list c = one_list

pub returns-clause-one_fault : goal.returns-clause-one_fault
returns-clause-one_fault c = one_fault

pub returns-clause-not_both : goal.returns-clause-not_both
returns-clause-not_both c = no_list
