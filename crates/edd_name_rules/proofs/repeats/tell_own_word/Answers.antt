use Rattle.std.proofs.Common.{sym, ◌∙◌, [], subst}
use Rattle.std.specs.Prelude.{if◌then◌else◌}
use Rattle.edd_breaches.proofs.TellLaws.{tells_none}
use Rattle.edd_breaches.specs.Told.{Tells}
use Rattle.edd_syntax.specs.ItemView.{attribute_of}
use Rattle.edd_syntax.specs.NameRules.{attribute_word}
use Rattle.edd_syntax.specs.TreeView.{path_of}
use Rattle.edd_syntax.specs.Places.{word_at}
use Rattle.edd_duplicates.specs.Names.{word_told}
use Rattle.edd_name_rules.proofs.repeats.tell_own_word.Goals as goal

pub returns-then-is_transaction-clause-told : goal.returns-then-is_transaction-clause-told
returns-then-is_transaction-clause-told c = λ before h.
    subst (λ t. Tells (if t then [] else word_told before
    (attribute_word (attribute_of path_of c.args.attribute.now)) (word_at c.args.attribute.now))
    c.args.told.now.items c.args.told.now.items)
    (sym c.if-is_transaction.true ∙ c.is_transaction.ensures) (tells_none c.args.told.now.items)
