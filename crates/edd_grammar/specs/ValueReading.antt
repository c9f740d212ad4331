-- Reading the values of attributes from left to right.
use Rattle.std.specs.Prelude.{ℕ, zero, suc, Bool, true, false, List, [], ◌∷◌, drop, length, Option, Some, None, codes, if◌then◌else◌}
use Rattle.edd_syntax.specs.declared.types.Handling.{Handling}
use Rattle.edd_syntax.specs.declared.types.Handling.TheVariants as handling
use Rattle.edd_syntax.specs.declared.types.Operation.{Operation}
use Rattle.edd_syntax.specs.declared.types.Operation.TheVariants as operation
use Rattle.edd_syntax.specs.declared.operators.Operator.TheVariants as operator
use Rattle.edd_syntax.specs.declared.operators.Comparison.TheVariants as comparison
use Rattle.edd_syntax.specs.declared.symbols.Keyword.TheVariants as word
use Rattle.edd_syntax.specs.declared.symbols.Symbol.TheVariants as sign
use Rattle.edd_syntax.specs.Text as texts
use Rattle.edd_syntax.specs.Text.{Name}
use Rattle.edd_syntax.specs.Token.{Token}
use Rattle.edd_syntax.specs.Reference.{Path}
use Rattle.edd_syntax.specs.Item as item
use Rattle.edd_syntax.specs.Refusal.{is_name_in}
use Rattle.edd_syntax.specs.ItemGrammar.{data_qualifier_names, data_qualifiers, menu_qualifier_names, menu_qualifiers}
use Rattle.edd_grammar.specs.Reading.{◌>>=◌, on_option, Read, at, expect, at_word, name_at, path_at, is_text, text_at}
use Rattle.edd_grammar.specs.ConditionalReading.{label_at, skip_comma}
use Rattle.edd_grammar.specs.WordReading.{integer_at, at_name, expect_name}

-- ---- words

-- after one of READ and WRITE, where the other one may follow `&`
unfoldable pub handling_behind : Handling → Name → List Token → Read Handling
handling_behind one other here =
    if at (sign.Operator operator.And) here then (expect_name other (drop 1 here)
    >>= λ rest. Some (handling.ReadWrite, rest))
    else Some (one, here)

-- READ, WRITE, or both in either order
unfoldable pub handling_at : List Token → Read Handling
handling_at here =
    if at_name (codes "READ") here then handling_behind handling.Read (codes "WRITE") (drop 1 here)
    else if at_name (codes "WRITE") here then handling_behind handling.Write (codes "READ")
    (drop 1 here)
    else None

-- TRUE or FALSE
unfoldable pub truth_at : List Token → Read Bool
truth_at here =
    if at_name (codes "TRUE") here then Some (true, drop 1 here)
    else if at_name (codes "FALSE") here then Some (false, drop 1 here)
    else None

-- READ, WRITE or COMMAND
unfoldable pub operation_at : List Token → Read Operation
operation_at here =
    if at_name (codes "READ") here then Some (operation.Read, drop 1 here)
    else if at_name (codes "WRITE") here then Some (operation.Write, drop 1 here)
    else if at_word word.Command here then Some (operation.Command, drop 1 here)
    else None

-- ---- texts

-- a text, if one is next
unfoldable pub some_text_at : List Token → Read texts.Text
some_text_at here = if is_text here then text_at here else None

-- a text after a comma, or none
unfoldable pub optional_text_at : List Token → Read (Option texts.Text)
optional_text_at here =
    if at sign.Comma here then (some_text_at (drop 1 here) >>= λ t. Some (Some t.0, t.1)) else Some
    (None, here)

-- `{ value, text, help }`
unfoldable pub enumerator_at : List Token → Read item.Enumerator
enumerator_at here = do
  inside ← expect sign.OpenBrace here
  (value, comma) ← label_at inside
  from ← expect sign.Comma comma
  (text, behind) ← some_text_at from
  (help, close) ← optional_text_at behind
  rest ← expect sign.CloseBrace close
  Some (record { value = value; text = text; help = help }, rest)

-- ---- qualifiers

-- a name that is allowed
unfoldable pub allowed_at : (allowed : List Name) → List Token → Read Name
allowed_at allowed here = name_at here >>= λ n. if is_name_in allowed n.0 then Some n else None

-- One or more names that are allowed, with a comma between two of them or none, and the closing
-- parenthesis after them. The number bounds how many there are.
unfoldable pub some_qualifiers : (allowed : List Name) → ℕ → List Token → Read (List Name)
some_qualifiers allowed zero here = None
some_qualifiers allowed (suc n) here = do
  (first, behind) ← allowed_at allowed here
  (others, rest) ← if at sign.CloseParenthesis behind then Some ([], drop 1 behind) else
      some_qualifiers allowed n (skip_comma behind)
  Some (first ∷ others, rest)

-- names in parentheses, or none
unfoldable pub qualifiers_at : (allowed : List Name) → List Token → Read (List Name)
qualifiers_at allowed here =
    if at sign.OpenParenthesis here then some_qualifiers allowed (length here) (drop 1 here) else
    Some ([], here)

-- ---- data items and entries of menus

-- `<mask>`, or none
unfoldable pub mask_at : List Token → Read (Option ℕ)
mask_at here =
    if at (sign.Comparison comparison.Less) here
    then (integer_at (drop 1 here) >>= λ m. expect (sign.Comparison comparison.Greater) m.1
    >>= λ rest. Some (Some m.0, rest))
    else Some (None, here)

-- a variable, its mask or none, and its qualifiers
unfoldable pub data_variable_at : List Token → Read (item.DataItem Path)
data_variable_at here = do
  (variable, from) ← path_at here
  (mask, behind) ← mask_at from
  (names, rest) ← qualifiers_at data_qualifier_names behind
  Some (item.Variable variable mask (data_qualifiers names), rest)

-- an integer as a constant, or a variable
unfoldable pub data_item_at : List Token → Read (item.DataItem Path)
data_item_at here = on_option (integer_at here) (data_variable_at here)
    (λ n. Some (item.Constant n.0, n.1))

-- the path of an item, and its qualifiers
unfoldable pub menu_reference_at : List Token → Read (item.MenuEntry Path)
menu_reference_at here = do
  (to, behind) ← path_at here
  (names, rest) ← qualifiers_at menu_qualifier_names behind
  Some (item.Reference to (menu_qualifiers names), rest)

-- a text, or an item
unfoldable pub menu_entry_at : List Token → Read (item.MenuEntry Path)
menu_entry_at here =
    if is_text here then (text_at here >>= λ t. Some (item.Text t.0, t.1)) else menu_reference_at
    here

-- ---- as values of conditionals, where they have no height of their own

-- READ, WRITE or both
unfoldable pub handling_value : ℕ → List Token → Read Handling
handling_value height_left here = handling_at here

-- TRUE or FALSE
unfoldable pub truth_value : ℕ → List Token → Read Bool
truth_value height_left here = truth_at here

-- an enumerator in its braces
unfoldable pub enumerator_value : ℕ → List Token → Read item.Enumerator
enumerator_value height_left here = enumerator_at here

-- a constant or a variable of a REQUEST or a REPLY
unfoldable pub data_item_value : ℕ → List Token → Read (item.DataItem Path)
data_item_value height_left here = data_item_at here

-- a text or an item of a menu
unfoldable pub menu_entry_value : ℕ → List Token → Read (item.MenuEntry Path)
menu_entry_value height_left here = menu_entry_at here
