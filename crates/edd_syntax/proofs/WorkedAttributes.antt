-- Worked examples of attributes, computed.
use Rattle.std.proofs.Common.{◌≡◌, refl, ℕ, ℤ, pos, List, [], ◌∷◌}
use Rattle.std.specs.Prelude.{true, false, Some, None, Ok, Err, codes}
use Rattle.edd_syntax.specs.declared.numbers.VarNo.{VarNo}
use Rattle.edd_syntax.specs.declared.numbers.Kind.TheVariants as kind
use Rattle.edd_syntax.specs.declared.numbers.TextAttribute.TheVariants as text_attribute
use Rattle.edd_syntax.specs.declared.numbers.ItemNo.{ItemNo}
use Rattle.edd_syntax.specs.declared.numbers.ItemNo.TheVariants as item_no
use Rattle.edd_syntax.specs.declared.numbers.Attr.{Attr}
use Rattle.edd_syntax.specs.declared.numbers.Attr.TheVariants as attr
use Rattle.edd_syntax.specs.declared.numbers.AttrRef.{AttrRef}
use Rattle.edd_syntax.specs.declared.operators.Operator.TheVariants as operator
use Rattle.edd_syntax.specs.declared.operators.Comparison.TheVariants as comparison
use Rattle.edd_syntax.specs.declared.types.VarType.TheVariants as var_type
use Rattle.edd_syntax.specs.declared.types.Operation.TheVariants as operation
use Rattle.edd_syntax.specs.declared.types.ResponseClass.TheVariants as class
use Rattle.edd_syntax.specs.declared.item.MenuQualifiers.{MenuQualifiers}
use Rattle.edd_syntax.specs.declared.item.DataQualifiers.{DataQualifiers}
use Rattle.edd_syntax.specs.declared.answer.Trap.TheVariants as trap
use Rattle.edd_syntax.specs.Text.{Quoted}
use Rattle.edd_syntax.specs.Text as texts
use Rattle.edd_syntax.specs.Reference.{Target, Item}
use Rattle.edd_syntax.specs.Expression.{Expr, Literal, Reference, Binary, Compare}
use Rattle.edd_syntax.specs.Conditional.{Value, If, Select, Conds, Nil, Cons, NoArms, ConsArm, Case, Default}
use Rattle.edd_syntax.specs.Item as item
use Rattle.edd_syntax.specs.Item.{Attribute, Description, TypeOf, Known, Validity, OneText, Items, Transaction, Reply, Request, Constant, Variable}
use Rattle.edd_syntax.specs.TwosComplement.{wrap, operate, compare}
use Rattle.edd_syntax.specs.Words.{Words, Variants, words_of, text_for, pieces, unescape, english}
use Rattle.edd_syntax.specs.Words as words
use Rattle.edd_syntax.specs.AttributeValue.{value, chosen}
use Rattle.edd_syntax.specs.Attributes as read
use Rattle.edd_syntax.specs.Attributes.{NoItem, Gives, read_attribute}

abbrev var_no : ℕ → VarNo
var_no n = record { 0 = n }

abbrev item_variable : ℕ → ItemNo
item_variable n = item_no.Variable (var_no n)

abbrev var : ℕ → Target
var n = Item (item_variable n)

abbrev integer : Attribute Target
integer = TypeOf (Known var_type.Integer None) []

abbrev variable : List ℕ → List (Attribute Target) → item.Item Target
variable name attributes = record {
  sort = item.VariableItem;
  name = name;
  attributes = integer
      ∷ attributes;
}

abbrev of_items : List (item.Item Target) → Description Target
of_items items = record {
  identification = record {
    manufacturer = 1;
    device_type = 2;
    device_revision = 3;
    dd_revision = 4;
  };
  items = items;
}

abbrev at : ItemNo → Attr → AttrRef
at i a = record { item = i; attr = a; sub = 0 }

abbrev plain : MenuQualifiers
plain = record { display_value = false; read_only = false; hidden = false; review = false }

abbrev entry : ℕ → Conds Target (item.MenuEntry Target) → Conds Target (item.MenuEntry Target)
entry n rest = Cons (Value (item.Reference (var n) plain)) rest

abbrev shows : ℕ → read.Record
shows n = read.Entry (item_variable n) plain

-- the variables mode, a and b, and a menu n with these entries
abbrev menu : Conds Target (item.MenuEntry Target) → Description Target
menu entries = of_items (variable (codes "mode") [] ∷ variable (codes "a") []
    ∷ variable (codes "b") [] ∷
    record { sort = item.MenuItem; name = codes "n"; attributes = Items entries ∷ [] } ∷ [])

abbrev the_items : AttrRef
the_items = at (item_no.Menu (record { 0 = 0 })) attr.Items

-- ---- `SELECT (mode) { CASE 1: a, b CASE 2: a }`

abbrev cases : Description Target
cases = menu (Cons (Select (Reference (var 0))
    (ConsArm (Case (pos 1) (entry 1 (entry 2 Nil))) (ConsArm (Case (pos 2) (entry 1 Nil)) NoArms)))
    Nil)

select_takes_equal_case : read_attribute cases the_items (pos 1 ∷ pos 0 ∷ pos 0 ∷ [])
    ≡ Gives (Ok (shows 1 ∷ shows 2 ∷ []))
unfolding read_attribute chosen value wrap
select_takes_equal_case = refl

select_without_case_has_no_entries : read_attribute cases the_items (pos 3 ∷ pos 0 ∷ pos 0 ∷ [])
    ≡ Gives (Ok [])
unfolding read_attribute chosen value wrap
select_without_case_has_no_entries = refl

menu_validity_is_default : read_attribute cases (at (item_no.Menu (record { 0 = 0 })) attr.Validity)
    (pos 3 ∷ pos 0 ∷ pos 0 ∷ []) ≡ Gives (Ok (read.Number (pos 1) ∷ []))
unfolding read_attribute chosen value wrap
menu_validity_is_default = refl

-- ---- `SELECT (mode) { DEFAULT: b CASE 1: a CASE 1: b } a`

abbrev default_first : Description Target
default_first = menu (Cons (Select (Reference (var 0))
    (ConsArm (Default (entry 2 Nil))
    (ConsArm (Case (pos 1) (entry 1 Nil)) (ConsArm (Case (pos 1) (entry 2 Nil)) NoArms))))
    (entry 1 Nil))

first_equal_case_before_default : read_attribute default_first the_items (pos 1 ∷ pos 0 ∷ pos 0
    ∷ []) ≡ Gives (Ok (shows 1 ∷ shows 1 ∷ []))
unfolding read_attribute chosen value wrap
first_equal_case_before_default = refl

default_without_equal_case : read_attribute default_first the_items (pos 2 ∷ pos 0 ∷ pos 0 ∷ [])
    ≡ Gives (Ok (shows 2 ∷ shows 1 ∷ []))
unfolding read_attribute chosen value wrap
default_without_equal_case = refl

-- ---- `VARIABLE v { TYPE INTEGER; VALIDITY IF (condition) { FALSE; } }` with a variable mode

abbrev validity : Expr Target → Description Target
validity condition = of_items
    (variable (codes "v") (Validity (If condition (Cons (Value false) Nil) Nil) ∷ [])
    ∷ variable (codes "mode") [] ∷ [])

abbrev the_validity : AttrRef
the_validity = at (item_variable 0) attr.Validity

abbrev mode_is_1 : Expr Target
mode_is_1 = Compare comparison.Equal (Reference (var 1)) (Literal 1)

false_if_gives_default : read_attribute (validity mode_is_1) the_validity (pos 0 ∷ pos 2 ∷ [])
    ≡ Gives (Ok (read.Number (pos 1) ∷ []))
unfolding read_attribute chosen value wrap compare
false_if_gives_default = refl

true_if_gives_branch : read_attribute (validity mode_is_1) the_validity (pos 0 ∷ pos 1 ∷ [])
    ≡ Gives (Ok (read.Number (pos 0) ∷ []))
unfolding read_attribute chosen value wrap compare
true_if_gives_branch = refl

-- the condition `1 / mode` where mode is 0
condition_traps : read_attribute (validity (Binary operator.Divide (Literal 1) (Reference (var 1))))
    the_validity (pos 0 ∷ pos 0 ∷ []) ≡ Gives (Err trap.DivZero)
unfolding read_attribute chosen value wrap operate
condition_traps = refl

no_such_item : read_attribute cases (at (item_variable 3) attr.Validity) (pos 1 ∷ pos 0 ∷ pos 0
    ∷ []) ≡ NoItem
unfolding read_attribute
no_such_item = refl

-- ---- `VALIDITY IF (u > 0) { TRUE; } ELSE { FALSE; }` of an UNSIGNED_INTEGER u of 4 octets

abbrev own_validity : Description Target
own_validity = of_items (record {
  sort = item.VariableItem;
  name = codes "u";
  attributes = TypeOf (Known var_type.UnsignedInteger (Some 4)) [] ∷
      Validity (If (Compare comparison.Greater (Reference (var 0)) (Literal 0))
      (Cons (Value true) Nil) (Cons (Value false) Nil)) ∷ [];
} ∷ [])

attributes_read_64_bits : read_attribute own_validity the_validity (pos 4294967295 ∷ [])
    ≡ Gives (Ok (read.Number (pos 1) ∷ []))
unfolding read_attribute chosen value wrap compare
attributes_read_64_bits = refl

else_gives_its_branch : read_attribute own_validity the_validity (pos 0 ∷ [])
    ≡ Gives (Ok (read.Number (pos 0) ∷ []))
unfolding read_attribute chosen value wrap compare
else_gives_its_branch = refl

-- ---- `NUMBER 1; OPERATION READ; TRANSACTION { REQUEST { } REPLY { response_code, device_status,
-- 254, v <0x80>, i (INDEX) } }`

abbrev no_qualifiers : DataQualifiers
no_qualifiers = record { info = false; index = false }

abbrev indexed : DataQualifiers
indexed = record { info = false; index = true }

abbrev data_of : ℕ → item.DataItem Target
data_of n = Variable (var n) None no_qualifiers

abbrev replies : Description Target
replies = of_items (variable (codes "response_code") [] ∷ variable (codes "device_status") []
    ∷ variable (codes "v") [] ∷ variable (codes "i") [] ∷ record {
      sort = item.CommandItem;
      name = codes "c";
      attributes = item.Number 1 ∷ item.Operation operation.Read
          ∷ Transaction None (Request Nil
          ∷ Reply (Cons (Value (data_of 0)) (Cons (Value (data_of 1)) (Cons (Value (Constant 254))
          (Cons (Value (Variable (var 2) (Some 128) no_qualifiers))
          (Cons (Value (Variable (var 3) None indexed)) Nil))))) ∷ []) ∷ [];
    } ∷ [])

abbrev values : List ℤ
values = pos 0 ∷ pos 0 ∷ pos 0 ∷ pos 0 ∷ []

abbrev command : Attr → (sub : ℕ) → AttrRef
command a sub = record { item = item_no.Command (record { 0 = 0 }); attr = a; sub = sub }

reply_items : read_attribute replies (command attr.Reply 0) values
    ≡ Gives (Ok (read.DataVar (var_no 0) None no_qualifiers ∷ read.DataVar (var_no 1) None
    no_qualifiers ∷ read.DataConst 254 ∷
    read.DataVar (var_no 2) (Some 128) no_qualifiers ∷ read.DataVar (var_no 3) None indexed ∷ []))
unfolding read_attribute chosen value
reply_items = refl

empty_request : read_attribute replies (command attr.Request 0) values ≡ Gives (Ok [])
unfolding read_attribute chosen value
empty_request = refl

command_number : read_attribute replies (command attr.Number 0) values
    ≡ Gives (Ok (read.Number (pos 1) ∷ []))
unfolding read_attribute
command_number = refl

operation_read : read_attribute replies (command attr.Operation 0) values
    ≡ Gives (Ok (read.Number (pos 1) ∷ []))
unfolding read_attribute
operation_read = refl

no_second_transaction : read_attribute replies (command attr.Reply 1) values ≡ NoItem
unfolding read_attribute
no_second_transaction = refl

-- ---- `TRANSACTION 5 { REQUEST { 1 } REPLY { 2 } } TRANSACTION { REPLY { x } } RESPONSE_CODES { 0,
-- SUCCESS, "ok"; 8, MISC_WARNING, "late" }`

abbrev says : List ℕ → Words
says t = Variants (record { code = english; text = t }) []

abbrev transactions : Description Target
transactions = of_items (variable (codes "x") [] ∷ record {
  sort = item.CommandItem;
  name = codes "c";
  attributes = Transaction (Some 5) (Request (Cons (Value (Constant 1)) Nil)
      ∷ Reply (Cons (Value (Constant 2)) Nil) ∷ []) ∷
      Transaction None (Reply (Cons (Value (data_of 0)) Nil) ∷ []) ∷
      item.ResponseCodes (record { number = 0; class = class.Success; text = Quoted (codes "ok") }
      ∷ record { number = 8; class = class.MiscWarning; text = Quoted (codes "late") } ∷ [])
      ∷ [];
} ∷ [])

first_transaction_number : read_attribute transactions (command attr.Transaction 0) (pos 0 ∷ [])
    ≡ Gives (Ok (read.Number (pos 5) ∷ []))
unfolding read_attribute
first_transaction_number = refl

second_transaction_has_no_number : read_attribute transactions (command attr.Transaction 1)
    (pos 0 ∷ []) ≡ Gives (Ok [])
unfolding read_attribute
second_transaction_has_no_number = refl

missing_request_is_empty : read_attribute transactions (command attr.Request 1) (pos 0 ∷ [])
    ≡ Gives (Ok [])
unfolding read_attribute chosen
missing_request_is_empty = refl

response_codes : read_attribute transactions (command attr.ResponseCodes 0) (pos 0 ∷ [])
    ≡ Gives (Ok (read.Response 0 class.Success (says (codes "ok"))
    ∷ read.Response 8 class.MiscWarning (says (codes "late")) ∷ []))
unfolding read_attribute words_of pieces unescape
response_codes = refl

-- ---- `VARIABLE s { LABEL "|en|A|de|B"; HELP "|en|A|de|C"; TYPE ENUMERATED { { 0, "Off" }, { 1,
-- [on] } } }`

abbrev enumerated : Description Target
enumerated = of_items (record {
  sort = item.VariableItem;
  name = codes "s";
  attributes = OneText text_attribute.Label (Value (Quoted (codes "|en|A|de|B")))
      ∷ item.OneText text_attribute.Help (Value (Quoted (codes "|en|A|de|C"))) ∷
      TypeOf (Known var_type.Enumerated None)
      (item.Element (Value (record { value = pos 0; text = Quoted (codes "Off"); help = None })) ∷
      item.Element (Value (record { value = pos 1; text = texts.Key (codes "on"); help = None }))
      ∷ []) ∷ [];
} ∷ [])

-- the labels differ from the helps in German alone, and stay two strings
abbrev two : List ℕ → List ℕ → Words
two en de = Variants (record { code = codes "en"; text = en })
    (record { code = codes "de"; text = de } ∷ [])

label_of_two_languages : read_attribute enumerated (at (item_variable 0) attr.Label) (pos 0 ∷ [])
    ≡ Gives (Ok (read.Words (two (codes "A") (codes "B")) ∷ []))
unfolding read_attribute chosen words_of pieces unescape
label_of_two_languages = refl

help_of_two_languages : read_attribute enumerated (at (item_variable 0) attr.Help) (pos 0 ∷ [])
    ≡ Gives (Ok (read.Words (two (codes "A") (codes "C")) ∷ []))
unfolding read_attribute chosen words_of pieces unescape
help_of_two_languages = refl

label_in_german : text_for (two (codes "A") (codes "B")) (codes "de") ≡ codes "B"
unfolding text_for
label_in_german = refl

enumerators : read_attribute enumerated (at (item_variable 0) attr.Enumerators) (pos 0 ∷ [])
    ≡ Gives (Ok (read.Enumerator (pos 0) (says (codes "Off")) None
    ∷ read.Enumerator (pos 1) (words.Key (codes "on")) None ∷ []))
unfolding read_attribute chosen words_of pieces unescape
enumerators = refl

handling_is_default : read_attribute enumerated (at (item_variable 0) attr.Handling) (pos 0 ∷ [])
    ≡ Gives (Ok (read.Number (pos 3) ∷ []))
unfolding read_attribute chosen
handling_is_default = refl

-- ---- `COLLECTION OF VARIABLE c { MEMBERS { m, x, "L"; } }`

abbrev collection : Description Target
collection = of_items (variable (codes "x") [] ∷ record {
  sort = item.CollectionItem kind.Variable;
  name = codes "c";
  attributes = item.Members
      (record { name = codes "m"; item = var 0; label = Some (Quoted (codes "L")); help = None }
      ∷ []) ∷ [];
} ∷ [])

members : read_attribute collection (at (item_no.Collection (record { 0 = 0 })) attr.Members)
    (pos 0 ∷ [])
    ≡ Gives (Ok (read.Member (says (codes "m")) (item_variable 0) (Some (says (codes "L"))) None
    ∷ []))
unfolding read_attribute words_of pieces unescape
members = refl
