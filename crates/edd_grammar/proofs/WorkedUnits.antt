-- A worked unit with each sort of item, attribute, conditional and statement is spelled by its
-- tokens.
use Rattle.std.proofs.Common.{◌≡◌, Bool, true, false, List, [], ◌∷◌, Option, Some, None, codes, refl, sym, ◌∙◌}
use Rattle.std.specs.Prelude.{pos, neg_ℤ}
use Rattle.edd_syntax.specs.declared.numbers.NumberOption.TheVariants as number_option
use Rattle.edd_syntax.specs.declared.numbers.FormatOption.TheVariants as format_option
use Rattle.edd_syntax.specs.declared.numbers.TextAttribute.TheVariants as text_attribute
use Rattle.edd_syntax.specs.declared.numbers.Kind.TheVariants as kind
use Rattle.edd_syntax.specs.declared.types.VarType.TheVariants as var_type
use Rattle.edd_syntax.specs.declared.types.Handling.TheVariants as handling
use Rattle.edd_syntax.specs.declared.types.Operation.TheVariants as operation
use Rattle.edd_syntax.specs.declared.types.ResponseClass.TheVariants as class
use Rattle.edd_syntax.specs.declared.operators.Operator.TheVariants as operator
use Rattle.edd_syntax.specs.declared.operators.Comparison.TheVariants as comparison
use Rattle.edd_syntax.specs.declared.operators.IncrementOperator.TheVariants.{PostIncrement, PostDecrement}
use Rattle.edd_syntax.specs.declared.symbols.Keyword.TheVariants as word
use Rattle.edd_syntax.specs.declared.symbols.Symbol.TheVariants as sign
use Rattle.edd_syntax.specs.Text.{Name, Quoted, Key}
use Rattle.edd_syntax.specs.Token.{Token, Reserved, Identifier, Integer, String, Sign}
use Rattle.edd_syntax.specs.Reference.{Path}
use Rattle.edd_syntax.specs.Expression as tree
use Rattle.edd_syntax.specs.Expression.{Expr, Literal, Reference, Binary, Compare, Assign, CompoundAssign, Increment, Call, arguments_from}
use Rattle.edd_syntax.specs.Conditional as cond
use Rattle.edd_syntax.specs.Conditional.{Cond, Conds, Value, Select, Case, Default, conds_from, arms_from}
use Rattle.edd_syntax.specs.Statement.{Stmt, Empty, Evaluate, Block, IfElse, While, Do, For, Switch, Break, Continue, Return, Declare, Statement, CaseLabel, DefaultLabel, body_from}
use Rattle.edd_syntax.specs.Item as item
use Rattle.edd_syntax.specs.Item.{Item, Description}
use Rattle.edd_syntax.specs.ItemGrammar.{Spells}
use Rattle.edd_grammar.specs.Reading.{expect, expect_word, path_at, path_behind, key_at, text_at}
use Rattle.edd_grammar.specs.ExpressionReading.{postfix, step_before, argument_at, some_arguments, arguments_at, index_behind, named_at, unary_behind, parentheses_behind, signed_at, operand_at, joined_at, chain, choice_at, assign_at, layer, expr_at}
use Rattle.edd_grammar.specs.ConditionalReading.{condition_at, braces_at, else_at, case_at, default_at, arms_at, if_at, select_at, cond_layer, ended, only, one_at, text_value, expr_value, elements_at, listed, element_at, list_at}
use Rattle.edd_grammar.specs.DeclarationReading.{value_at, declarator_at, some_declarators, declarators_at}
use Rattle.edd_grammar.specs.StatementReading.{declaration_at, case_label_at, part_at, parts_at, body_at, method_else_at, method_if_at, while_at, do_at, optional_at, for_at, switch_at, evaluate_at, simple_at, statement_layer, statement_at, definition_at}
use Rattle.edd_grammar.specs.WordReading.{expect_name, number_at, names_at, row_at, closed, braced, row_inside}
use Rattle.edd_grammar.specs.ValueReading.{handling_behind, handling_at, truth_at, operation_at, some_text_at, optional_text_at, enumerator_at, allowed_at, some_qualifiers, qualifiers_at, mask_at, data_variable_at, data_item_at, menu_reference_at, menu_entry_at, handling_value, truth_value, enumerator_value, data_item_value, menu_entry_value}
use Rattle.edd_grammar.specs.TypeReading.{size_at, format_or_element_at, type_part_at, type_parts_at, behind_other, known_type_at, other_type_at, type_at}
use Rattle.edd_grammar.specs.AttributeReading.{class_at, response_code_at, member_at, array_element_at, transaction_part_at, transaction_at, class_words_at, command_number_at, command_operation_at, list_attribute_at, command_attribute_at, other_attribute_at, attribute_at, own_attribute_at}
use Rattle.edd_grammar.specs.UnitReading.{kind_at, item_kind_at, sort_behind, attributes_at, item_at, numbered_at, identification_at, items_at, unit_at}
use Rattle.edd_grammar.proofs.Units.{unit_sound}

-- ---- tokens

-- `METHOD d { DEFINITION { int a = 1, b;`
-- `for (a = 0; a < 3; a++) { b += a; continue; }`
-- `while (b) if (a) b--; else break;`
-- `do { ; } while (x & 1 == 0);`
-- `switch (a) { case -1: default: f(a, "t"); return; long l; } } }`
abbrev method_tokens : List Token
method_tokens =
    Reserved word.Method ∷ Identifier (codes "d") ∷ Sign sign.OpenBrace ∷ Reserved word.Definition
    ∷ Sign sign.OpenBrace ∷
    Reserved word.Int ∷ Identifier (codes "a") ∷ Sign sign.Equals ∷ Integer 1 ∷ Sign sign.Comma
    ∷ Identifier (codes "b") ∷
    Sign sign.Semicolon ∷
    Reserved word.For ∷ Sign sign.OpenParenthesis ∷ Identifier (codes "a") ∷ Sign sign.Equals
    ∷ Integer 0 ∷
    Sign sign.Semicolon ∷ Identifier (codes "a") ∷ Sign (sign.Comparison comparison.Less)
    ∷ Integer 3 ∷ Sign sign.Semicolon ∷
    Identifier (codes "a") ∷ Sign sign.Increment ∷ Sign sign.CloseParenthesis ∷ Sign sign.OpenBrace
    ∷ Identifier (codes "b") ∷
    Sign (sign.CompoundAssign operator.Add) ∷ Identifier (codes "a") ∷ Sign sign.Semicolon
    ∷ Reserved word.Continue ∷
    Sign sign.Semicolon ∷ Sign sign.CloseBrace ∷
    Reserved word.While ∷ Sign sign.OpenParenthesis ∷ Identifier (codes "b")
    ∷ Sign sign.CloseParenthesis ∷
    Reserved word.MethodIf ∷ Sign sign.OpenParenthesis ∷ Identifier (codes "a")
    ∷ Sign sign.CloseParenthesis ∷
    Identifier (codes "b") ∷ Sign sign.Decrement ∷ Sign sign.Semicolon ∷ Reserved word.MethodElse
    ∷ Reserved word.Break ∷
    Sign sign.Semicolon ∷
    Reserved word.Do ∷ Sign sign.OpenBrace ∷ Sign sign.Semicolon ∷ Sign sign.CloseBrace
    ∷ Reserved word.While ∷
    Sign sign.OpenParenthesis ∷ Identifier (codes "x") ∷ Sign (sign.Operator operator.And)
    ∷ Integer 1 ∷
    Sign (sign.Comparison comparison.Equal) ∷ Integer 0 ∷ Sign sign.CloseParenthesis
    ∷ Sign sign.Semicolon ∷
    Reserved word.Switch ∷ Sign sign.OpenParenthesis ∷ Identifier (codes "a")
    ∷ Sign sign.CloseParenthesis ∷
    Sign sign.OpenBrace ∷ Reserved word.MethodCase ∷ Sign (sign.Operator operator.Subtract)
    ∷ Integer 1 ∷ Sign sign.Colon ∷
    Reserved word.MethodDefault ∷ Sign sign.Colon ∷ Identifier (codes "f")
    ∷ Sign sign.OpenParenthesis ∷
    Identifier (codes "a") ∷ Sign sign.Comma ∷ String (codes "t") ∷ Sign sign.CloseParenthesis
    ∷ Sign sign.Semicolon ∷
    Reserved word.Return ∷ Sign sign.Semicolon ∷ Reserved word.Long ∷ Identifier (codes "l")
    ∷ Sign sign.Semicolon ∷
    Sign sign.CloseBrace ∷ Sign sign.CloseBrace ∷ Sign sign.CloseBrace ∷
    []

-- `MENU u { LABEL "m"; ITEMS { "t", x (READ_ONLY, HIDDEN) c.m IF (x) { y } ELSE IF (y) { z }, "l" }
-- }` `COLLECTION OF VARIABLE c { MEMBERS { m, x; n, y, "l"; o, z, [l], "h"; } }`
abbrev menu_tokens : List Token
menu_tokens =
    Reserved word.Menu ∷ Identifier (codes "u") ∷ Sign sign.OpenBrace ∷ Reserved word.Label
    ∷ String (codes "m") ∷
    Sign sign.Semicolon ∷ Reserved word.Items ∷ Sign sign.OpenBrace ∷ String (codes "t")
    ∷ Sign sign.Comma ∷
    Identifier (codes "x") ∷ Sign sign.OpenParenthesis ∷ Identifier (codes "READ_ONLY")
    ∷ Sign sign.Comma ∷
    Identifier (codes "HIDDEN") ∷ Sign sign.CloseParenthesis ∷ Identifier (codes "c")
    ∷ Sign sign.Dot ∷
    Identifier (codes "m") ∷ Reserved word.If ∷ Sign sign.OpenParenthesis ∷ Identifier (codes "x") ∷
    Sign sign.CloseParenthesis ∷ Sign sign.OpenBrace ∷ Identifier (codes "y") ∷ Sign sign.CloseBrace
    ∷ Reserved word.Else ∷
    Reserved word.If ∷ Sign sign.OpenParenthesis ∷ Identifier (codes "y")
    ∷ Sign sign.CloseParenthesis ∷ Sign sign.OpenBrace ∷
    Identifier (codes "z") ∷ Sign sign.CloseBrace ∷ Sign sign.Comma ∷ String (codes "l")
    ∷ Sign sign.CloseBrace ∷
    Sign sign.CloseBrace ∷
    Reserved word.Collection ∷ Reserved word.Of ∷ Reserved word.Variable ∷ Identifier (codes "c")
    ∷ Sign sign.OpenBrace ∷
    Reserved word.Members ∷ Sign sign.OpenBrace ∷ Identifier (codes "m") ∷ Sign sign.Comma
    ∷ Identifier (codes "x") ∷
    Sign sign.Semicolon ∷ Identifier (codes "n") ∷ Sign sign.Comma ∷ Identifier (codes "y")
    ∷ Sign sign.Comma ∷
    String (codes "l") ∷ Sign sign.Semicolon ∷ Identifier (codes "o") ∷ Sign sign.Comma
    ∷ Identifier (codes "z") ∷
    Sign sign.Comma ∷ Sign sign.OpenBracket ∷ Identifier (codes "l") ∷ Sign sign.CloseBracket
    ∷ Sign sign.Comma ∷
    String (codes "h") ∷ Sign sign.Semicolon ∷ Sign sign.CloseBrace ∷ Sign sign.CloseBrace ∷
    method_tokens

-- `COMMAND r { NUMBER 3; OPERATION COMMAND;`
-- `TRANSACTION 1 { REQUEST { 5, x <255> (INFO INDEX), c.m (INDEX) x };; REPLY { } }`
-- `RESPONSE_CODES { 0, SUCCESS, "ok"; 1, MISC_ERROR, [e], 2, MODE_ERROR, "n" } }`
abbrev command_tokens : List Token
command_tokens =
    Reserved word.Command ∷ Identifier (codes "r") ∷ Sign sign.OpenBrace ∷ Reserved word.Number
    ∷ Integer 3 ∷
    Sign sign.Semicolon ∷ Reserved word.Operation ∷ Reserved word.Command ∷ Sign sign.Semicolon ∷
    Reserved word.Transaction ∷ Integer 1 ∷ Sign sign.OpenBrace ∷ Reserved word.Request
    ∷ Sign sign.OpenBrace ∷ Integer 5 ∷
    Sign sign.Comma ∷ Identifier (codes "x") ∷ Sign (sign.Comparison comparison.Less) ∷ Integer 255
    ∷
    Sign (sign.Comparison comparison.Greater) ∷ Sign sign.OpenParenthesis
    ∷ Identifier (codes "INFO") ∷
    Identifier (codes "INDEX") ∷ Sign sign.CloseParenthesis ∷ Sign sign.Comma
    ∷ Identifier (codes "c") ∷ Sign sign.Dot ∷
    Identifier (codes "m") ∷ Sign sign.OpenParenthesis ∷ Identifier (codes "INDEX")
    ∷ Sign sign.CloseParenthesis ∷
    Identifier (codes "x") ∷ Sign sign.CloseBrace ∷ Sign sign.Semicolon ∷ Sign sign.Semicolon
    ∷ Reserved word.Reply ∷
    Sign sign.OpenBrace ∷ Sign sign.CloseBrace ∷ Sign sign.CloseBrace ∷
    Reserved word.ResponseCodes ∷ Sign sign.OpenBrace ∷ Integer 0 ∷ Sign sign.Comma
    ∷ Identifier (codes "SUCCESS") ∷
    Sign sign.Comma ∷ String (codes "ok") ∷ Sign sign.Semicolon ∷ Integer 1 ∷ Sign sign.Comma ∷
    Identifier (codes "MISC_ERROR") ∷ Sign sign.Comma ∷ Sign sign.OpenBracket
    ∷ Identifier (codes "e") ∷
    Sign sign.CloseBracket ∷ Sign sign.Comma ∷ Integer 2 ∷ Sign sign.Comma
    ∷ Identifier (codes "MODE_ERROR") ∷
    Sign sign.Comma ∷ String (codes "n") ∷ Sign sign.CloseBrace ∷ Sign sign.CloseBrace ∷
    menu_tokens

-- `VARIABLE x {`
-- `CLASS DYNAMIC & INPUT;`
-- `HANDLING WRITE & READ;;`
-- `VALIDITY IF (y) { TRUE; } ELSE IF (c.m == 1) { FALSE; } ELSE { SELECT (y) { CASE -1: TRUE;
-- DEFAULT: FALSE; } }` `TYPE ENUMERATED (1) { DEFAULT_VALUE 1; { 0, "a" }, IF (y) { { 1, "b", [h] }
-- { -2, "c" "d" }, } ELSE IF (z) { } DISPLAY_FORMAT "2d"; }` `}` `VARIABLE f { TYPE FLOAT (4) a {
-- b; { } ; } };`
abbrev variable_tokens : List Token
variable_tokens =
    Reserved word.Variable ∷ Identifier (codes "x") ∷ Sign sign.OpenBrace ∷
    Reserved word.Class ∷ Identifier (codes "DYNAMIC") ∷ Sign (sign.Operator operator.And)
    ∷ Identifier (codes "INPUT") ∷
    Sign sign.Semicolon ∷
    Reserved word.Handling ∷ Identifier (codes "WRITE") ∷ Sign (sign.Operator operator.And)
    ∷ Identifier (codes "READ") ∷
    Sign sign.Semicolon ∷ Sign sign.Semicolon ∷
    Reserved word.Validity ∷ Reserved word.If ∷ Sign sign.OpenParenthesis ∷ Identifier (codes "y") ∷
    Sign sign.CloseParenthesis ∷ Sign sign.OpenBrace ∷ Identifier (codes "TRUE")
    ∷ Sign sign.Semicolon ∷
    Sign sign.CloseBrace ∷ Reserved word.Else ∷ Reserved word.If ∷ Sign sign.OpenParenthesis
    ∷ Identifier (codes "c") ∷
    Sign sign.Dot ∷ Identifier (codes "m") ∷ Sign (sign.Comparison comparison.Equal) ∷ Integer 1 ∷
    Sign sign.CloseParenthesis ∷ Sign sign.OpenBrace ∷ Identifier (codes "FALSE")
    ∷ Sign sign.Semicolon ∷
    Sign sign.CloseBrace ∷ Reserved word.Else ∷ Sign sign.OpenBrace ∷ Reserved word.Select
    ∷ Sign sign.OpenParenthesis ∷
    Identifier (codes "y") ∷ Sign sign.CloseParenthesis ∷ Sign sign.OpenBrace ∷ Reserved word.Case ∷
    Sign (sign.Operator operator.Subtract) ∷ Integer 1 ∷ Sign sign.Colon ∷ Identifier (codes "TRUE")
    ∷ Sign sign.Semicolon ∷
    Reserved word.Default ∷ Sign sign.Colon ∷ Identifier (codes "FALSE") ∷ Sign sign.Semicolon
    ∷ Sign sign.CloseBrace ∷
    Sign sign.CloseBrace ∷
    Reserved word.Type ∷ Identifier (codes "ENUMERATED") ∷ Sign sign.OpenParenthesis ∷ Integer 1 ∷
    Sign sign.CloseParenthesis ∷ Sign sign.OpenBrace ∷ Reserved word.DefaultValue ∷ Integer 1
    ∷ Sign sign.Semicolon ∷
    Sign sign.OpenBrace ∷ Integer 0 ∷ Sign sign.Comma ∷ String (codes "a") ∷ Sign sign.CloseBrace
    ∷ Sign sign.Comma ∷
    Reserved word.If ∷ Sign sign.OpenParenthesis ∷ Identifier (codes "y")
    ∷ Sign sign.CloseParenthesis ∷ Sign sign.OpenBrace ∷
    Sign sign.OpenBrace ∷ Integer 1 ∷ Sign sign.Comma ∷ String (codes "b") ∷ Sign sign.Comma
    ∷ Sign sign.OpenBracket ∷
    Identifier (codes "h") ∷ Sign sign.CloseBracket ∷ Sign sign.CloseBrace ∷ Sign sign.OpenBrace ∷
    Sign (sign.Operator operator.Subtract) ∷ Integer 2 ∷ Sign sign.Comma ∷ String (codes "c")
    ∷ String (codes "d") ∷
    Sign sign.CloseBrace ∷ Sign sign.Comma ∷ Sign sign.CloseBrace ∷ Reserved word.Else
    ∷ Reserved word.If ∷
    Sign sign.OpenParenthesis ∷ Identifier (codes "z") ∷ Sign sign.CloseParenthesis
    ∷ Sign sign.OpenBrace ∷
    Sign sign.CloseBrace ∷ Reserved word.DisplayFormat ∷ String (codes "2d") ∷ Sign sign.Semicolon
    ∷ Sign sign.CloseBrace ∷
    Sign sign.CloseBrace ∷
    Reserved word.Variable ∷ Identifier (codes "f") ∷ Sign sign.OpenBrace ∷ Reserved word.Type
    ∷ Identifier (codes "FLOAT") ∷
    Sign sign.OpenParenthesis ∷ Integer 4 ∷ Sign sign.CloseParenthesis ∷ Identifier (codes "a")
    ∷ Sign sign.OpenBrace ∷
    Identifier (codes "b") ∷ Sign sign.Semicolon ∷ Sign sign.OpenBrace ∷ Sign sign.CloseBrace
    ∷ Sign sign.Semicolon ∷
    Sign sign.CloseBrace ∷ Sign sign.CloseBrace ∷ Sign sign.Semicolon ∷
    command_tokens

-- `MANUFACTURER 1 DEVICE_TYPE 2, DEVICE_REVISION 3 DD_REVISION 4,`
abbrev unit_tokens : List Token
unit_tokens =
    Reserved word.Manufacturer ∷ Integer 1 ∷ Reserved word.DeviceType ∷ Integer 2 ∷ Sign sign.Comma
    ∷
    Reserved word.DeviceRevision ∷ Integer 3 ∷ Reserved word.DdRevision ∷ Integer 4
    ∷ Sign sign.Comma ∷
    variable_tokens

-- ---- the tree

abbrev named : Name → Path
named n = record { base = n; members = [] }

abbrev c_m : Path
c_m = record { base = codes "c"; members = codes "m" ∷ [] }

abbrev ref : Name → Expr Path
ref n = Reference (named n)

-- one element
abbrev one : {V : Type 0} → Cond Path V → Conds Path V
one c = cond.Cons c cond.Nil

abbrev validity : Cond Path Bool
validity =
    cond.If (ref (codes "y")) (one (Value true)) (one (
    cond.If (Compare comparison.Equal (Reference c_m) (Literal 1)) (one (Value false)) (one (
    Select (ref (codes "y"))
    (arms_from (Case (neg_ℤ (pos 1)) (one (Value true)) ∷ Default (one (Value false)) ∷ []))))))

abbrev enumerators : Cond Path item.Enumerator
enumerators =
    cond.If (ref (codes "y")) (conds_from (
    Value (record { value = pos 1; text = Quoted (codes "b"); help = Some (Key (codes "h")) }) ∷
    Value (record { value = neg_ℤ (pos 2); text = Quoted (codes "cd"); help = None }) ∷
    [])) (one (cond.If (ref (codes "z")) cond.Nil cond.Nil))

abbrev variable_x : Item Path
variable_x = record {
  sort = item.VariableItem;
  name = codes "x";
  attributes =
      item.Class (codes "DYNAMIC" ∷ codes "INPUT" ∷ []) ∷
      item.Handling (Value handling.ReadWrite) ∷
      item.Validity validity ∷
      item.TypeOf (item.Known var_type.Enumerated (Some 1)) (
      (item.OneNumber number_option.DefaultValue) (Value (Literal 1)) ∷
      item.Element (Value (record { value = pos 0; text = Quoted (codes "a"); help = None })) ∷
      item.Element enumerators ∷
      (item.OneFormat format_option.DisplayFormat) (Value (Quoted (codes "2d"))) ∷
      []) ∷
      [];
}

abbrev variable_f : Item Path
variable_f = record {
  sort = item.VariableItem;
  name = codes "f";
  attributes = item.TypeOf (item.Other (codes "FLOAT")) [] ∷ [];
}

abbrev requested : Conds Path (item.DataItem Path)
requested = conds_from (
    Value (item.Constant 5) ∷
    Value (item.Variable (named (codes "x")) (Some 255) (record { info = true; index = true })) ∷
    Value (item.Variable c_m None (record { info = false; index = true })) ∷
    Value (item.Variable (named (codes "x")) None (record { info = false; index = false })) ∷
    [])

abbrev command_r : Item Path
command_r = record {
  sort = item.CommandItem;
  name = codes "r";
  attributes =
      item.Number 3 ∷
      item.Operation operation.Command ∷
      item.Transaction (Some 1) (item.Request requested ∷ item.Reply cond.Nil ∷ []) ∷
      item.ResponseCodes (
      record { number = 0; class = class.Success; text = Quoted (codes "ok") } ∷
      record { number = 1; class = class.MiscError; text = Key (codes "e") } ∷
      record { number = 2; class = class.ModeError; text = Quoted (codes "n") } ∷
      []) ∷
      [];
}

abbrev entry : Path → Cond Path (item.MenuEntry Path)
entry to = Value (item.Reference to
    (record { display_value = false; read_only = false; hidden = false; review = false }))

abbrev menu_u : Item Path
menu_u = record {
  sort = item.MenuItem;
  name = codes "u";
  attributes =
      item.OneText text_attribute.Label (Value (Quoted (codes "m"))) ∷
      item.Items (conds_from (
      Value (item.Text (Quoted (codes "t"))) ∷
      Value (item.Reference (named (codes "x"))
      (record { display_value = false; read_only = true; hidden = true; review = false })) ∷
      entry c_m ∷
      cond.If (ref (codes "x")) (one (entry (named (codes "y"))))
      (one (cond.If (ref (codes "y")) (one (entry (named (codes "z")))) cond.Nil)) ∷
      Value (item.Text (Quoted (codes "l"))) ∷
      [])) ∷
      [];
}

abbrev collection_c : Item Path
collection_c = record {
  sort = item.CollectionItem kind.Variable;
  name = codes "c";
  attributes = item.Members (
      record { name = codes "m"; item = named (codes "x"); label = None; help = None } ∷
      record {
        name = codes "n";
        item = named (codes "y");
        label = Some (Quoted (codes "l"));
        help = None;
      } ∷
      record {
        name = codes "o";
        item = named (codes "z");
        label = Some (Key (codes "l"));
        help = Some (Quoted (codes "h"));
      } ∷
      []) ∷ [];
}

abbrev turns : Stmt Path
turns =
    For (Some (Assign (named (codes "a")) (Literal 0)))
    (Some (Compare comparison.Less (ref (codes "a")) (Literal 3)))
    (Some (Increment PostIncrement (named (codes "a"))))
    (Block (body_from (Statement
    (Evaluate (CompoundAssign operator.Add (named (codes "b")) (ref (codes "a"))))
    ∷ Statement Continue ∷ [])))

abbrev called : Expr Path
called = Call (named (codes "f"))
    (arguments_from (tree.Value (ref (codes "a")) ∷ tree.Text (Quoted (codes "t")) ∷ []))

abbrev method_d : Item Path
method_d = record {
  sort = item.MethodItem;
  name = codes "d";
  attributes = item.Definition (body_from (
      Declare (record { place = named (codes "a"); value = Some (Literal 1) }
      ∷ record { place = named (codes "b"); value = None } ∷ []) ∷
      Statement turns ∷
      Statement (While (ref (codes "b"))
      (IfElse (ref (codes "a")) (Evaluate (Increment PostDecrement (named (codes "b")))) Break))
      ∷
      Statement (Do (Block (body_from (Statement Empty ∷ [])))
      (Binary operator.And (ref (codes "x"))
      (Compare comparison.Equal (Literal 1) (Literal 0)))) ∷
      Statement (Switch (ref (codes "a")) (body_from (
      CaseLabel (neg_ℤ (pos 1)) ∷
      DefaultLabel ∷
      Statement (Evaluate called) ∷
      Statement Return ∷
      Declare (record { place = named (codes "l"); value = None } ∷ []) ∷
      []))) ∷
      [])) ∷ [];
}

abbrev the_unit : Description Path
the_unit = record {
  identification = record {
    manufacturer = 1;
    device_type = 2;
    device_revision = 3;
    dd_revision = 4;
  };
  items = variable_x ∷ variable_f ∷ command_r ∷ menu_u ∷ collection_c ∷ method_d ∷ [];
}

-- the unit that some tokens spell
unfoldable pub worked : List Token → Option (Description Path)
unfolding expect expect_word path_at path_behind key_at text_at postfix step_before argument_at
    some_arguments arguments_at index_behind named_at unary_behind parentheses_behind signed_at
    operand_at joined_at chain choice_at assign_at layer expr_at condition_at braces_at else_at
    case_at default_at arms_at if_at select_at cond_layer ended only one_at text_value expr_value
    elements_at listed element_at list_at value_at declarator_at some_declarators declarators_at
    declaration_at case_label_at part_at parts_at body_at method_else_at method_if_at while_at do_at
    optional_at for_at switch_at evaluate_at simple_at statement_layer statement_at definition_at
    expect_name number_at names_at row_at closed braced row_inside handling_behind handling_at
    truth_at operation_at some_text_at optional_text_at enumerator_at allowed_at some_qualifiers
    qualifiers_at mask_at data_variable_at data_item_at menu_reference_at menu_entry_at
    handling_value truth_value enumerator_value data_item_value menu_entry_value size_at
    format_or_element_at type_part_at type_parts_at behind_other known_type_at other_type_at type_at
    class_at response_code_at member_at array_element_at transaction_part_at transaction_at
    class_words_at command_number_at command_operation_at list_attribute_at command_attribute_at
    other_attribute_at attribute_at own_attribute_at kind_at item_kind_at sort_behind attributes_at
    item_at numbered_at identification_at items_at unit_at
worked tokens = unit_at tokens

pub worked_is : (tokens : List Token) → worked tokens ≡ unit_at tokens
unfolding worked
worked_is tokens = refl

unit_is_read : worked unit_tokens ≡ Some the_unit
unfolding worked
unit_is_read = refl

unit_is_spelled : Spells unit_tokens the_unit
unit_is_spelled = unit_sound unit_tokens the_unit (sym (worked_is unit_tokens) ∙ unit_is_read)
