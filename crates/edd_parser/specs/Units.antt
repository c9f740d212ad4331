-- What the code's items stand for, and reading their words.
use Rattle.std.specs.Prelude.{◌≡◌, List, Option, Some, None, Result, Ok, Err}
use Rattle.edd_syntax.specs.declared.unit.Unit as code_unit
use Rattle.edd_syntax.specs.declared.item.Item as code
use Rattle.edd_syntax.specs.declared.reference.Path as path
use Rattle.edd_syntax.specs.Token.{Token}
use Rattle.edd_syntax.specs.Reference.{Path}
use Rattle.edd_syntax.specs.Item.{ItemKind, Item, Description}
use Rattle.edd_syntax.specs.TreeView.{path_of}
use Rattle.edd_syntax.specs.ItemView.{item_of, identification_of, named_items}
use Rattle.edd_grammar.specs.Reading.{◌>>=◌, Read}
use Rattle.edd_grammar.specs.UnitReading.{item_kind_at, sort_behind}
use Rattle.edd_token_reader.specs.declared.fault.ParseFault.{ParseFault}
use Rattle.edd_token_reader.specs.declared.fault.ParseFault.TheVariants as fault

-- the word of an item
unfoldable pub sort_at : List Token → Read ItemKind
sort_at here = do
  (k, behind) ← item_kind_at here
  sort_behind k behind

-- an item as the pure tree
abbrev pub item_view : code.Item path.Path → Item Path
item_view i = item_of path_of i

-- ---- the unit

-- a unit as the pure description
abbrev pub unit_view : code_unit.Unit → Description Path
unit_view u = record {
  identification = identification_of u.identification;
  items = named_items u.items.items;
}

-- What a call answered is what reading gives, unless memory ran out.
abbrev pub Answers : Result code_unit.Unit ParseFault → Option (Description Path) → Type 0
Answers (Ok u) read = read ≡ Some (unit_view u)
Answers (Err fault.Memory) read = Unit {0}
Answers (Err (fault.Syntax at)) read = read ≡ None
Answers (Err (fault.TooDeep at)) read = read ≡ None
Answers (Err (fault.Unsupported at word)) read = read ≡ None
