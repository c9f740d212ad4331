-- Reading items and the whole unit from left to right.
use Rattle.std.specs.Prelude.{ℕ, suc, List, drop, length, Option, Some, None, if◌then◌else◌}
use Rattle.edd_syntax.specs.declared.numbers.Kind.{Kind}
use Rattle.edd_syntax.specs.declared.numbers.Kind.TheVariants as kind
use Rattle.edd_syntax.specs.declared.symbols.Keyword.{Keyword}
use Rattle.edd_syntax.specs.declared.symbols.Keyword.TheVariants as word
use Rattle.edd_syntax.specs.Token.{Token}
use Rattle.edd_syntax.specs.Reference.{Path}
use Rattle.edd_syntax.specs.Item.{ItemKind, VariableItem, CommandItem, MenuItem, CollectionItem, MethodItem, ArrayItem, kind_of_item, Attribute, Item, Identification, Description}
use Rattle.edd_syntax.specs.Size.{height_limit}
use Rattle.edd_grammar.specs.Reading.{◌>>=◌, Read, at_word, expect_word, name_at}
use Rattle.edd_grammar.specs.ConditionalReading.{skip_comma}
use Rattle.edd_grammar.specs.WordReading.{integer_at, at_end, row_at, closed, braced, row_inside}
use Rattle.edd_grammar.specs.AttributeReading.{own_attribute_at}

-- ---- items

-- the kind whose word is next, of those that members may have
unfoldable pub kind_at : List Token → Read Kind
kind_at here =
    if at_word word.Variable here then Some (kind.Variable, drop 1 here)
    else if at_word word.Command here then Some (kind.Command, drop 1 here)
    else if at_word word.Menu here then Some (kind.Menu, drop 1 here)
    else if at_word word.Collection here then Some (kind.Collection, drop 1 here)
    else if at_word word.Method here then Some (kind.Method, drop 1 here)
    else None

-- the kind of item whose word is next
unfoldable pub item_kind_at : List Token → Read Kind
item_kind_at here = if at_word word.Array here then Some (kind.Array, drop 1 here) else kind_at here

-- after the word of an item: for a collection OF and the kind of its members, for an array OF
-- VARIABLE
unfoldable pub sort_behind : Kind → List Token → Read ItemKind
sort_behind kind.Variable here = Some (VariableItem, here)
sort_behind kind.Command here = Some (CommandItem, here)
sort_behind kind.Menu here = Some (MenuItem, here)
sort_behind kind.Collection here = do
  behind ← expect_word word.Of here
  (of, rest) ← kind_at behind
  Some (CollectionItem of, rest)
sort_behind kind.Method here = Some (MethodItem, here)
sort_behind kind.Array here = do
  behind ← expect_word word.Of here
  rest ← expect_word word.Variable behind
  Some (ArrayItem, rest)

-- the attributes of at most this height of a kind of item, in braces
unfoldable pub attributes_at : Kind → ℕ → List Token → Read (List (Attribute Path))
attributes_at k height_left here = braced (row_inside (closed (own_attribute_at k height_left)))
    here

-- an item whose attributes have at most this height
unfoldable pub item_at : ℕ → List Token → Read (Item Path)
item_at height_left here = do
  (k, behind) ← item_kind_at here
  (sort, from) ← sort_behind k behind
  (name, brace) ← name_at from
  (attributes, rest) ← attributes_at (kind_of_item sort) height_left brace
  Some (record { sort = sort; name = name; attributes = attributes }, rest)

-- ---- the unit

-- `WORD number`
unfoldable pub numbered_at : Keyword → List Token → Read ℕ
numbered_at k here = do
  behind ← expect_word k here
  integer_at behind

-- the four numbers, with a comma after each or none
unfoldable pub identification_at : List Token → Read Identification
identification_at here = do
  (manufacturer, a) ← numbered_at word.Manufacturer here
  (device_type, b) ← numbered_at word.DeviceType (skip_comma a)
  (device_revision, c) ← numbered_at word.DeviceRevision (skip_comma b)
  (dd_revision, d) ← numbered_at word.DdRevision (skip_comma c)
  Some (
    record {
      manufacturer = manufacturer;
      device_type = device_type;
      device_revision = device_revision;
      dd_revision = dd_revision;
    },
    skip_comma d,
  )

-- items up to the end of the text, each with any number of semicolons after it
unfoldable pub items_at : List Token → Read (List (Item Path))
items_at here = row_at at_end (closed (item_at height_limit)) (suc (length here)) here

-- all the tokens are read, and no tree is higher than the limit
unfoldable pub unit_at : List Token → Option (Description Path)
unit_at tokens = do
  (identification, from) ← identification_at tokens
  (items, rest) ← items_at from
  Some (record { identification = identification; items = items })
