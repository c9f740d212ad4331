-- Worked examples of refusals: for each rule a unit whose first broken rule it is, computed.
use Rattle.std.proofs.Common.{◌≡◌, refl, ap, ℕ, zero, suc, pos, negsuc, List, [], ◌∷◌, ◌++◌}
use Rattle.std.specs.Prelude.{false, Some, None, codes, replicate}
use Rattle.edd_syntax.specs.declared.numbers.NumberOption.TheVariants as number_option
use Rattle.edd_syntax.specs.declared.limits.Limit.TheVariants as limit
use Rattle.edd_syntax.specs.declared.numbers.Kind.TheVariants as kind
use Rattle.edd_syntax.specs.declared.numbers.TextAttribute.TheVariants as text_attribute
use Rattle.edd_syntax.specs.declared.types.VarType.TheVariants as var_type
use Rattle.edd_syntax.specs.declared.types.Operation.TheVariants as operation
use Rattle.edd_syntax.specs.declared.item.DataQualifiers.{DataQualifiers}
use Rattle.edd_syntax.specs.Text.{Name, Quoted}
use Rattle.edd_syntax.specs.Reference.{Path}
use Rattle.edd_syntax.specs.Expression as expr
use Rattle.edd_syntax.specs.Expression.{Expr, Literal, Decimal, Reference, Parentheses, Call, Argument, arguments_from}
use Rattle.edd_syntax.specs.Conditional as cond
use Rattle.edd_syntax.specs.Conditional.{Value, If, Select, NoArms, ConsArm, Case}
use Rattle.edd_syntax.specs.Statement as s
use Rattle.edd_syntax.specs.Statement.{Part, body_from, Declare, Statement, CaseLabel, slots_of}
use Rattle.edd_syntax.specs.Item as item
use Rattle.edd_syntax.specs.Item.{Description, Attribute, TypeOf, Known, Other, OneText, Validity, Members, Definition}
use Rattle.edd_syntax.specs.TwosComplement.{wrap}
use Rattle.edd_syntax.specs.Words.{words_of, pieces, unescape}
use Rattle.edd_syntax.specs.Size.{attribute_height}
use Rattle.edd_syntax.specs.ResolvedTrees.{resolved_unit, resolved_stmt, resolved_by, resolved_cond}
use Rattle.edd_syntax.specs.Refusal.{Refusal, TooMany, DuplicateName, DuplicateAttribute, MissingAttribute, UnknownName, WrongKind, FloatVariable, OtherType, BadSize, Mismatch, FloatValue, BreakOutside, ConstRange, DuplicateCase, first_of}
use Rattle.edd_syntax.specs.NameRules.{too_many, duplicate_names, duplicate_attributes, missing_attributes, wrong_uses}
use Rattle.edd_syntax.specs.Accepted.{refusal, profile_breaches}

-- ---- how the sources are written here

abbrev Source : Type 0
Source = Description Path

abbrev of_items : List (item.Item Path) → Source
of_items items = record {
  identification = record {
    manufacturer = 1;
    device_type = 2;
    device_revision = 3;
    dd_revision = 4;
  };
  items = items;
}

abbrev named : Name → Path
named n = record { base = n; members = [] }

abbrev integer : Attribute Path
integer = TypeOf (Known var_type.Integer None) []

abbrev variable : Name → List (Attribute Path) → item.Item Path
variable name attributes = record { sort = item.VariableItem; name = name; attributes = attributes }

abbrev x : item.Item Path
x = variable (codes "x") (integer ∷ [])

abbrev method : List (Part Path) → item.Item Path
method body = record {
  sort = item.MethodItem;
  name = codes "m";
  attributes = Definition (body_from body) ∷ [];
}

-- a method beside the INTEGER variable x
abbrev with_method : List (Part Path) → Source
with_method body = of_items (x ∷ method body ∷ [])

abbrev declares : Name → Part Path
declares name = Declare (record { place = named name; value = None } ∷ [])

abbrev evaluates : Expr Path → Part Path
evaluates e = Statement (s.Evaluate e)

abbrev sets : Name → Expr Path → Part Path
sets name e = evaluates (expr.Assign (named name) e)

abbrev calls : Name → List (Argument Path) → Expr Path
calls name arguments = Call (named name) (arguments_from arguments)

abbrev label : Name → Attribute Path
label text = OneText text_attribute.Label (Value (Quoted text))

abbrev command : List (item.TransactionPart Path) → item.Item Path
command parts = record {
  sort = item.CommandItem;
  name = codes "c";
  attributes = item.Number 1
      ∷ item.Operation operation.Read ∷ item.Transaction None parts ∷ [];
}

abbrev menu : Path → item.Item Path
menu to = record {
  sort = item.MenuItem;
  name = codes "n";
  attributes = item.Items (cond.Cons
      (Value (item.Reference to
      (record { display_value = false; read_only = false; hidden = false; review = false })))
      cond.Nil) ∷ [];
}

abbrev no_qualifiers : DataQualifiers
no_qualifiers = record { info = false; index = false }

abbrev reply : item.DataItem Path → item.TransactionPart Path
reply d = item.Reply (cond.Cons (Value d) cond.Nil)

-- ---- each rule

nothing_is_broken : refusal (with_method (sets (codes "x") (Literal 1) ∷ [])) ≡ None
unfolding resolved_unit resolved_stmt resolved_by slots_of wrap
nothing_is_broken = refl

-- what there is too much of is refused before all else
too_many_first : (unit : Source) (why : Refusal) → too_many unit ≡ why ∷ []
    → refusal unit ≡ Some why
too_many_first unit why is =
    ap (λ found. first_of ((found
    ++ (duplicate_names unit
    ++ (duplicate_attributes unit ++ (missing_attributes unit ++ wrong_uses unit))))
    ++ profile_breaches (resolved_unit unit))) is

-- 65 declarators in one method
abbrev many_locals : Source
many_locals = of_items (method
    (Declare (replicate 65 (record { place = named (codes "i"); value = None })) ∷ []) ∷ [])

too_many_locals : refusal many_locals ≡ Some (TooMany limit.Locals)
unfolding slots_of
too_many_locals = too_many_first many_locals (TooMany limit.Locals) refl

-- 4097 variables
abbrev many_items : Source
many_items = of_items (replicate 4097 (variable (codes "v") []))

too_many_items : refusal many_items ≡ Some (TooMany limit.Items)
unfolding slots_of
too_many_items = too_many_first many_items (TooMany limit.Items) refl

two_variables_p : refusal
    (of_items (variable (codes "p") (integer ∷ []) ∷ variable (codes "p") (integer ∷ []) ∷ []))
    ≡ Some (DuplicateName (codes "p"))
unfolding resolved_unit resolved_stmt resolved_by
two_variables_p = refl

-- `int i, i;`
two_locals_i : refusal (with_method (declares (codes "i") ∷ declares (codes "i") ∷ []))
    ≡ Some (DuplicateName (codes "i"))
unfolding resolved_unit resolved_stmt resolved_by slots_of
two_locals_i = refl

-- `COLLECTION OF VARIABLE c { MEMBERS { m, x; m, x; } }`
abbrev member_m : item.Member Path
member_m = record { name = codes "m"; item = named (codes "x"); label = None; help = None }

two_members_m : refusal (of_items
    (x ∷ record {
      sort = item.CollectionItem kind.Variable;
      name = codes "c";
      attributes = Members (member_m ∷ member_m ∷ []) ∷ [];
    } ∷ [])) ≡ Some (DuplicateName (codes "m"))
unfolding resolved_unit resolved_stmt resolved_by words_of pieces unescape
two_members_m = refl

two_labels : refusal (of_items
    (variable (codes "p") (integer ∷ label (codes "a") ∷ label (codes "b") ∷ []) ∷ []))
    ≡ Some (DuplicateAttribute (codes "LABEL"))
unfolding resolved_unit resolved_cond resolved_by words_of pieces unescape
two_labels = refl

no_type : refusal (of_items (variable (codes "p") (label (codes "x") ∷ []) ∷ []))
    ≡ Some (MissingAttribute (codes "p") (codes "TYPE"))
unfolding resolved_unit resolved_cond resolved_by words_of pieces unescape
no_type = refl

-- `MENU n { ITEMS { z } }`
nothing_named_z : refusal (of_items (menu (named (codes "z")) ∷ []))
    ≡ Some (UnknownName (codes "z"))
unfolding resolved_unit resolved_cond resolved_by
nothing_named_z = refl

-- a MENU n, and a REQUEST `{ n }`
menu_as_data_item : refusal
    (of_items (x ∷ menu (named (codes "x"))
    ∷ command (item.Request (cond.Cons
    (Value (item.Variable (named (codes "n")) None no_qualifiers)) cond.Nil) ∷ []) ∷ []))
    ≡ Some (WrongKind (codes "n"))
unfolding resolved_unit resolved_cond resolved_by
menu_as_data_item = refl

float_variable : refusal (of_items (variable (codes "f") (TypeOf (Other (codes "FLOAT")) [] ∷ [])
    ∷ [])) ≡ Some (FloatVariable (codes "f"))
unfolding resolved_unit
float_variable = refl

date_variable : refusal (of_items (variable (codes "v") (TypeOf (Other (codes "DATE")) [] ∷ [])
    ∷ [])) ≡ Some (OtherType (codes "v") (codes "DATE"))
unfolding resolved_unit
date_variable = refl

five_octets : refusal (of_items
    (variable (codes "p") (TypeOf (Known var_type.Integer (Some 5)) [] ∷ []) ∷ []))
    ≡ Some (BadSize (codes "p"))
unfolding resolved_unit
five_octets = refl

-- `PUT_MESSAGE(1);`
number_for_text : refusal
    (with_method (evaluates (calls (codes "PUT_MESSAGE") (expr.Value (Literal 1) ∷ [])) ∷ []))
    ≡ Some Mismatch
unfolding resolved_unit resolved_stmt resolved_by slots_of
number_for_text = refl

-- `int i; ivar_value(i);`: a local is no device variable
local_for_variable : refusal
    (with_method (declares (codes "i")
    ∷ evaluates (calls (codes "ivar_value") (expr.Value (Reference (named (codes "i"))) ∷ []))
    ∷ [])) ≡ Some Mismatch
unfolding resolved_unit resolved_stmt resolved_by slots_of
local_for_variable = refl

-- `(abort());`
abort_inside_expression : refusal
    (with_method (evaluates (Parentheses (calls (codes "abort") [])) ∷ [])) ≡ Some Mismatch
unfolding resolved_unit resolved_stmt resolved_by slots_of
abort_inside_expression = refl

abbrev adds : Expr Path → List (Part Path)
adds e = evaluates (calls (codes "add_abort_method") (expr.Value e ∷ [])) ∷ []

-- `add_abort_method(m);` in the method m itself
abort_method_allowed : refusal (with_method (adds (Reference (named (codes "m"))))) ≡ None
unfolding resolved_unit resolved_stmt resolved_by slots_of
abort_method_allowed = refl

-- `add_abort_method(x);` with a variable
variable_for_method : refusal (with_method (adds (Reference (named (codes "x")))))
    ≡ Some (WrongKind (codes "x"))
unfolding slots_of
variable_for_method = refl

-- `add_abort_method((m));`: only a plain reference names a method
method_inside_argument : refusal
    (with_method (adds (Parentheses (Reference (named (codes "m"))))))
    ≡ Some (WrongKind (codes "m"))
unfolding slots_of
method_inside_argument = refl

-- `ivar_value(m);`
method_for_variable : refusal
    (with_method (evaluates (calls (codes "ivar_value")
    (expr.Value (Reference (named (codes "m"))) ∷ [])) ∷ [])) ≡ Some (WrongKind (codes "m"))
unfolding slots_of
method_for_variable = refl

-- `add_abort_method(y);` where nothing has the name y
unknown_abort_method : refusal (with_method (adds (Reference (named (codes "y")))))
    ≡ Some (UnknownName (codes "y"))
unfolding slots_of
unknown_abort_method = refl

-- `add_abort_method(1);`
number_for_method : refusal (with_method (adds (Literal 1))) ≡ Some Mismatch
unfolding resolved_unit resolved_stmt resolved_by slots_of
number_for_method = refl

-- `int m; add_abort_method(m);`: the local hides the method
local_for_method : refusal
    (with_method (declares (codes "m") ∷ adds (Reference (named (codes "m"))))) ≡ Some Mismatch
unfolding resolved_unit resolved_stmt resolved_by slots_of
local_for_method = refl

-- `VALIDITY IF (0.5) { FALSE; }`
decimal_condition : refusal
    (of_items (variable (codes "v")
    (integer ∷ Validity (If Decimal (cond.Cons (Value false) cond.Nil) cond.Nil) ∷ []) ∷ []))
    ≡ Some FloatValue
unfolding resolved_unit resolved_cond resolved_by
decimal_condition = refl

break_alone : refusal (with_method (Statement s.Break ∷ [])) ≡ Some BreakOutside
unfolding resolved_unit resolved_stmt resolved_by slots_of
break_alone = refl

-- `REPLY { 256 }`
constant_256 : refusal (of_items (command (reply (item.Constant 256) ∷ []) ∷ [])) ≡ Some ConstRange
unfolding resolved_unit resolved_cond resolved_by
constant_256 = refl

-- `REPLY { x <0> }`
mask_0 : refusal (of_items
    (x ∷ command (reply (item.Variable (named (codes "x")) (Some 0) no_qualifiers) ∷ []) ∷ []))
    ≡ Some ConstRange
unfolding resolved_unit resolved_cond resolved_by
mask_0 = refl

-- `switch (1) { case -1: case 4294967295: }`
labels_equal_as_32_bits : refusal
    (with_method (Statement (s.Switch (Literal 1)
    (body_from (CaseLabel (negsuc 0) ∷ CaseLabel (pos 4294967295) ∷ []))) ∷ []))
    ≡ Some DuplicateCase
unfolding resolved_unit resolved_stmt resolved_by slots_of wrap
labels_equal_as_32_bits = refl

-- `SELECT (x) { CASE 1: "a"; CASE 1: "b"; }` has equal labels, which is allowed
equal_labels_of_select : refusal
    (of_items (variable (codes "x")
    (integer ∷ OneText text_attribute.Label (Select (Reference (named (codes "x")))
    (ConsArm (Case (pos 1) (cond.Cons (Value (Quoted (codes "a"))) cond.Nil))
    (ConsArm (Case (pos 1) (cond.Cons (Value (Quoted (codes "b"))) cond.Nil)) NoArms))) ∷ [])
    ∷ [])) ≡ None
unfolding resolved_unit resolved_cond resolved_by words_of pieces unescape
equal_labels_of_select = refl

-- ---- an earlier rule wins over an earlier place

-- a method that uses an unknown name stands before two variables p
duplicate_before_unknown : refusal
    (of_items (method (sets (codes "gone") (Literal 1) ∷ []) ∷ variable (codes "p") (integer ∷ [])
    ∷ variable (codes "p") (integer ∷ []) ∷ []))
    ≡ Some (DuplicateName (codes "p"))
unfolding resolved_unit resolved_stmt resolved_by slots_of
duplicate_before_unknown = refl

-- `break; PUT_MESSAGE(1);`
mismatch_before_break : refusal
    (with_method (Statement s.Break
    ∷ evaluates (calls (codes "PUT_MESSAGE") (expr.Value (Literal 1) ∷ [])) ∷ [])) ≡ Some Mismatch
unfolding resolved_unit resolved_stmt resolved_by slots_of
mismatch_before_break = refl

-- a FLOAT variable twice
duplicate_before_float : refusal
    (of_items (variable (codes "f") (TypeOf (Other (codes "FLOAT")) [] ∷ [])
    ∷ variable (codes "f") (TypeOf (Other (codes "FLOAT")) [] ∷ []) ∷ []))
    ≡ Some (DuplicateName (codes "f"))
unfolding resolved_unit
duplicate_before_float = refl

-- ---- height

-- `MIN_VALUE` of 1 in n pairs of parentheses
parenthesized : ℕ → Expr Path
parenthesized zero = Literal 1
parenthesized (suc n) = Parentheses (parenthesized n)

abbrev min_value : ℕ → Attribute Path
min_value n = TypeOf (Known var_type.Integer None) (item.OneNumber number_option.MinValue (Value (parenthesized n)) ∷ [])

height_of_98_pairs : attribute_height (min_value 98) ≡ 100
unfolding parenthesized
height_of_98_pairs = refl

height_of_99_pairs : attribute_height (min_value 99) ≡ 101
unfolding parenthesized
height_of_99_pairs = refl
