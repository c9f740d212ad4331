use Rattle.edd_loader.proofs.LookupLaws.{name_utf8}
use Rattle.edd_loader.proofs.TextTurns.{zero_tag, words_given, other_tag, key_given}
use Rattle.edd_loader.proofs.texts.text_of_tag.Goals as goal

pub choose-requires : goal.choose-requires
choose-requires c = zero_tag _ _ c.if-tag-eq0.true c.requires

pub as_text-requires : goal.as_text-requires
as_text-requires c = name_utf8 _ (other_tag _ _ c.if-tag-eq0.false c.requires).1

pub returns-then-tag-eq0 : goal.returns-then-tag-eq0
returns-then-tag-eq0 c = words_given _ _ _ _ c.if-tag-eq0.true c.choose.ensures

pub returns-else-tag-eq0 : goal.returns-else-tag-eq0
returns-else-tag-eq0 c = key_given _ _ _ _ c.if-tag-eq0.false
    (other_tag _ _ c.if-tag-eq0.false c.requires).0 c.as_text.ensures
