use Rattle.edd_grammar.proofs.KeptUnits.{read_item_kept}
use Rattle.edd_grammar.proofs.laws.read_items_are_kept.Goals as goal

pub returns : goal.returns
returns c = λ here i rest e k. read_item_kept here i rest e k
