-- What the code's types and items stand for.
use Rattle.std.specs.Prelude.{List, ◌++◌, map, Some}
use Rattle.edd_syntax.specs.declared.symbols.Keyword.TheVariants as word
use Rattle.edd_syntax.specs.declared.item.Attribute as code_attribute
use Rattle.edd_syntax.specs.declared.reference.Path as path
use Rattle.edd_syntax.specs.Reference.{Path}
use Rattle.edd_syntax.specs.Text.{Name}
use Rattle.edd_syntax.specs.Token.{Token}
use Rattle.edd_syntax.specs.Item.{Attribute}
use Rattle.edd_syntax.specs.TreeView.{path_of}
use Rattle.edd_syntax.specs.ItemView.{type_word_of, type_part_of, attribute_of}
use Rattle.edd_grammar.specs.TypeReading as reading
use Rattle.edd_grammar.specs.Reading.{Read}
use Rattle.edd_grammar.specs.WordReading.{more_names_at}
use Rattle.edd_parser.specs.declared.types.WrittenType as code

-- a type as it is written
abbrev pub written_view : code.WrittenType → reading.WrittenType
written_view t = (type_word_of t.word, map (type_part_of path_of) t.parts.items)

-- an attribute as the pure tree
abbrev pub attribute_view : code_attribute.Attribute path.Path → Attribute Path
attribute_view a = attribute_of path_of a

-- a class whose first names were read
abbrev pub class_read : List Name → List Token → Read (List Name)
class_read before here = Some (before ++ (more_names_at here).0, (more_names_at here).1)
