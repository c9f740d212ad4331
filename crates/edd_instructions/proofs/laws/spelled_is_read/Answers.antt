use Rattle.edd_instructions.proofs.Spelled.{stands_where_spelled}
use Rattle.edd_instructions.proofs.laws.spelled_is_read.Goals as goal

pub returns : goal.returns
returns c = λ before after i h. stands_where_spelled before after i h
