use Rattle.edd_instructions.proofs.NextMethods.{next_asks_nothing}
use Rattle.edd_instructions.proofs.laws.abort_methods_ask_nothing.Goals as goal

pub returns : goal.returns
returns c = next_asks_nothing
