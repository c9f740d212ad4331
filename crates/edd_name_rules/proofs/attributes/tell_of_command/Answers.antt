use Rattle.std.proofs.Common.{[], ◌∷◌, subst}
use Rattle.edd_breaches.specs.Told.{Tells}
use Rattle.edd_syntax.specs.declared.numbers.Attr.TheVariants as attr
use Rattle.edd_syntax.specs.Numbers.{attr_word}
use Rattle.edd_name_rules.specs.RulesTold.{missing_among}
use Rattle.edd_name_rules.proofs.Telling.{more_words}
use Rattle.edd_name_rules.proofs.attributes.tell_of_command.Goals as goal

pub returns : goal.returns
returns c = record {
  told =
      more_words c.args.item.now (attr_word attr.Number) (attr_word attr.Operation)
      (attr_word attr.Transaction ∷ []) c.args.told.now.items c.tell_word.new.told.items
      c.tell_word-3.new.told.items
      (subst (λ w. Tells (missing_among c.args.item.now (w ∷ [])) c.args.told.now.items
      c.tell_word.new.told.items) c.word.ensures c.in_ok-tell_word.ensures.told)
      (more_words c.args.item.now (attr_word attr.Operation) (attr_word attr.Transaction) []
      c.tell_word.new.told.items c.tell_word-2.new.told.items c.tell_word-3.new.told.items
      (subst (λ w. Tells (missing_among c.args.item.now (w ∷ [])) c.tell_word.new.told.items
      c.tell_word-2.new.told.items) c.word-2.ensures c.in_ok-tell_word-2.ensures.told)
      (subst (λ w. Tells (missing_among c.args.item.now (w ∷ [])) c.tell_word-2.new.told.items
      c.tell_word-3.new.told.items) c.word-3.ensures c.in_ok-tell_word-3.ensures.told));
}
