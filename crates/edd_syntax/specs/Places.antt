-- Where items and attributes are.
use Rattle.edd_syntax.specs.declared.item.Item.{Item}
use Rattle.edd_syntax.specs.declared.item.Attribute.{Attribute}
use Rattle.edd_syntax.specs.declared.item.Attribute.TheVariants as attribute
use Rattle.edd_syntax.specs.declared.numbers.TokenNo.{TokenNo}

-- where the name of an item is
abbrev pub name_at : {R : Type 0} → Item R → TokenNo
name_at i = i.at

-- where the word of an attribute is
abbrev pub word_at : {R : Type 0} → Attribute R → TokenNo
word_at (attribute.OneText at which c) = at
word_at (attribute.Class at words) = at
word_at (attribute.Handling at c) = at
word_at (attribute.Validity at c) = at
word_at (attribute.TypeOf at word parts) = at
word_at (attribute.Number at n) = at
word_at (attribute.Operation at operation) = at
word_at (attribute.Transaction at number parts) = at
word_at (attribute.ResponseCodes at codes) = at
word_at (attribute.Items at entries) = at
word_at (attribute.Members at members) = at
word_at (attribute.Definition at parts) = at
word_at (attribute.Elements at elements) = at
