-- Worked examples of what units, strings and answers keep, and of how nodes are counted.
use Rattle.std.proofs.Common.{◌≡◌, refl, ℕ, ℤ, pos, negsuc, List, [], ◌∷◌}
use Rattle.std.specs.Prelude.{true, false, Some, None, codes}
use Rattle.edd_syntax.specs.declared.numbers.Kind.TheVariants as kind
use Rattle.edd_syntax.specs.declared.numbers.TextAttribute.TheVariants as text_attribute
use Rattle.edd_syntax.specs.declared.types.VarType.TheVariants as var_type
use Rattle.edd_syntax.specs.declared.types.Operation.TheVariants as operation
use Rattle.edd_syntax.specs.declared.types.ResponseClass.TheVariants as class
use Rattle.edd_syntax.specs.Text.{Name, Text, Quoted}
use Rattle.edd_syntax.specs.Reference.{Path}
use Rattle.edd_syntax.specs.Expression.{Expr, Literal, Assign}
use Rattle.edd_syntax.specs.Conditional as cond
use Rattle.edd_syntax.specs.Conditional.{Cond, Value, If}
use Rattle.edd_syntax.specs.Statement.{Break, Part, body_from, Statement, CaseLabel, Switch, Block, Evaluate}
use Rattle.edd_syntax.specs.Item as item
use Rattle.edd_syntax.specs.Item.{Attribute, TypeOf, Known, OneText, Class, Members, Definition}
use Rattle.edd_syntax.specs.Words.{Variants, Key, are_words}
use Rattle.edd_syntax.specs.DeviceValues.{VariableType}
use Rattle.edd_syntax.specs.Answers.{Answer, Go, BadVariable, OutOfRange, answer_fault}
use Rattle.edd_syntax.specs.WellFormed.{is_item, is_path, is_plain}
use Rattle.edd_syntax.specs.Size.{item_nodes}

abbrev named : Name → Path
named n = record { base = n; members = [] }

abbrev item_with : item.ItemKind → List (Attribute Path) → item.Item Path
item_with sort attributes = record { sort = sort; name = codes "i"; attributes = attributes }

abbrev text : Name → Cond Path Text
text t = Value (Quoted t)

abbrev one : Expr Path
one = Literal 1

-- ---- what a unit keeps

abbrev integer : Attribute Path
integer = TypeOf (Known var_type.Integer None) []

variable_with_label : is_item is_path is_plain
    (item_with item.VariableItem (OneText text_attribute.Label (text (codes "a")) ∷ integer ∷ []))
    ≡ true
variable_with_label = refl

-- ITEMS belongs to menus
no_items_in_a_variable : is_item is_path is_plain
    (item_with item.VariableItem (item.Items cond.Nil ∷ [])) ≡ false
no_items_in_a_variable = refl

-- `LABEL IF (1) { "a"; "b"; }`
one_value_in_a_branch : is_item is_path is_plain
    (item_with item.MenuItem
    (OneText text_attribute.Label
    (If one (cond.Cons (text (codes "a")) (cond.Cons (text (codes "b")) cond.Nil)) cond.Nil) ∷ []))
    ≡ false
one_value_in_a_branch = refl

-- `x\q`
escapes_are_escapes : is_item is_path is_plain
    (item_with item.MenuItem (OneText text_attribute.Label (text (120 ∷ 92 ∷ 113 ∷ [])) ∷ []))
    ≡ false
escapes_are_escapes = refl

abbrev body : List (Part Path) → Attribute Path
body parts = Definition (body_from parts)

-- `switch (1) { case 1: break; }`
labels_in_a_switch : is_item is_path is_plain
    (item_with item.MethodItem
    (body (Statement (Switch one (body_from (CaseLabel (pos 1) ∷ Statement Break ∷ []))) ∷ [])
    ∷ [])) ≡ true
labels_in_a_switch = refl

-- `switch (1) { { case 1: break; } }`
no_labels_in_an_inner_block : is_item is_path is_plain
    (item_with item.MethodItem
    (body (Statement (Switch one
    (body_from (Statement (Block (body_from (CaseLabel (pos 1) ∷ Statement Break ∷ []))) ∷ [])))
    ∷ []) ∷ [])) ≡ false
no_labels_in_an_inner_block = refl

-- `MEMBERS { m, c.x; }`
members_name_plain_items : is_item is_path is_plain
    (item_with (item.CollectionItem kind.Variable)
    (Members (record {
      name = codes "m";
      item = record {
        base = codes "c";
        members = codes "x"
            ∷ [];
      };
      label = None;
      help = None;
    } ∷ []) ∷ [])) ≡ false
members_name_plain_items = refl

-- ---- strings

keys_are_names : are_words (Key (codes "1k")) ≡ false
keys_are_names = refl

codes_are_codes : are_words (Variants (record { code = codes "eng"; text = codes "a" }) []) ≡ false
codes_are_codes = refl

-- ---- answers, to a description of one INTEGER variable of one octet

abbrev types : List VariableType
types = record { type = var_type.Integer; size = 1 } ∷ []

abbrev sets : ℕ → ℤ → Answer
sets v z = Go (pos 0) (record { variable = record { 0 = v }; value = z } ∷ [])

value_in_its_range : answer_fault types (sets 0 (negsuc 127)) ≡ None
value_in_its_range = refl

value_out_of_its_range : answer_fault types (sets 0 (pos 128)) ≡ Some OutOfRange
value_out_of_its_range = refl

no_such_variable : answer_fault types (sets 1 (pos 0)) ≡ Some BadVariable
no_such_variable = refl

-- ---- nodes

-- LABEL with its value, CLASS with two words, TYPE with a list of two enumerators: 2 + 3 + 4
nodes_of_a_variable : item_nodes
    (item_with item.VariableItem (OneText text_attribute.Label (text (codes "a"))
    ∷ Class (codes "A" ∷ codes "B" ∷ []) ∷
    TypeOf (Known var_type.Enumerated None)
    (item.Element (Value (record { value = pos 0; text = Quoted (codes "a"); help = None }))
    ∷ item.Element (Value (record { value = pos 1; text = Quoted (codes "b"); help = None }))
    ∷ []) ∷ [])) ≡ 9
nodes_of_a_variable = refl

-- NUMBER, OPERATION, a transaction with a REPLY of one constant, two response codes: 1 + 1 + 3 + 3
nodes_of_a_command : item_nodes
    (item_with item.CommandItem (item.Number 1 ∷ item.Operation operation.Read ∷
    item.Transaction None (item.Reply (cond.Cons (Value (item.Constant 1)) cond.Nil) ∷ []) ∷
    item.ResponseCodes (record { number = 0; class = class.Success; text = Quoted (codes "a") }
    ∷ record { number = 1; class = class.MiscError; text = Quoted (codes "b") } ∷ []) ∷ [])) ≡ 8
nodes_of_a_command = refl

-- MEMBERS with one member, and DEFINITION with `x = 1;`, whose left side is no node: 2 and 4
nodes_of_a_collection : item_nodes
    (item_with (item.CollectionItem kind.Variable)
    (Members (record { name = codes "m"; item = named (codes "x"); label = None; help = None } ∷ [])
    ∷ [])) ≡ 2
nodes_of_a_collection = refl

nodes_of_a_method : item_nodes
    (item_with item.MethodItem (body (Statement (Evaluate (Assign (named (codes "x")) one)) ∷ [])
    ∷ [])) ≡ 4
nodes_of_a_method = refl
