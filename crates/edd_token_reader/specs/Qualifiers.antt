-- The qualifiers of things as they are read.
use Rattle.std.specs.Prelude.{List, Some}
use Rattle.edd_syntax.specs.declared.item.MenuQualifiers.{MenuQualifiers}
use Rattle.edd_syntax.specs.declared.item.DataQualifiers.{DataQualifiers}
use Rattle.edd_syntax.specs.Text.{Name}
use Rattle.edd_syntax.specs.Token.{Token}
use Rattle.edd_syntax.specs.ItemGrammar.{menu_qualifier_names, menu_qualifiers, data_qualifier_names, data_qualifiers}
use Rattle.edd_grammar.specs.Reading.{◌>>=◌, Read}
use Rattle.edd_grammar.specs.ValueReading.{qualifiers_at}

-- what the names that are read stand for
abbrev pub read_as : {Q : Type 0} → (among : List Name → Q) → Read (List Name) → Read Q
read_as among found = found >>= λ n. Some (among n.0, n.1)

-- the qualifiers of an entry of a menu, in parentheses, or none
unfoldable pub menu_at : List Token → Read MenuQualifiers
menu_at here = read_as menu_qualifiers (qualifiers_at menu_qualifier_names here)

-- the qualifiers of a data item, in parentheses, or none
unfoldable pub data_at : List Token → Read DataQualifiers
data_at here = read_as data_qualifiers (qualifiers_at data_qualifier_names here)
