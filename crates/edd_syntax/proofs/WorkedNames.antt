-- Worked examples of names, computed.
use Rattle.std.proofs.Common.{◌≡◌, refl, ℕ, pos, List, [], ◌∷◌}
use Rattle.std.specs.Prelude.{true, false, Some, None, codes, Option}
use Rattle.edd_syntax.specs.declared.numbers.Kind.{Kind}
use Rattle.edd_syntax.specs.declared.numbers.Kind.TheVariants as kind
use Rattle.edd_syntax.specs.declared.numbers.ItemNo.TheVariants as item_no
use Rattle.edd_syntax.specs.declared.operators.Builtin.TheVariants as builtin
use Rattle.edd_syntax.specs.declared.types.VarType.TheVariants as var_type
use Rattle.edd_syntax.specs.Text.{Name}
use Rattle.edd_syntax.specs.Reference.{Path, Target, Local, Item, Function}
use Rattle.edd_syntax.specs.Expression.{Literal, Reference, Assign, Call, Value, arguments_from}
use Rattle.edd_syntax.specs.Conditional as cond
use Rattle.edd_syntax.specs.Statement.{Evaluate, Block, Return, Part, body_from, Declare, Statement, slots_of}
use Rattle.edd_syntax.specs.Item as item
use Rattle.edd_syntax.specs.Item.{Description, TypeOf, Known, Members, Definition}
use Rattle.edd_syntax.specs.TwosComplement.{wrap, store}
use Rattle.edd_syntax.specs.Evaluation.{evaluate}
use Rattle.edd_syntax.specs.Execution.{execute, run, Ended}
use Rattle.edd_syntax.specs.LayoutVersion.{needs_second_version}
use Rattle.edd_syntax.specs.ResolvedTrees.{resolved_unit, resolved_stmt, resolved_by}
use Rattle.edd_syntax.specs.Refusal.{Refusal, UnknownName, WrongKind, first_of}
use Rattle.edd_syntax.specs.NameRules.{wrong_uses}

-- ---- how the sources are written here

abbrev of_items : {R : Type 0} → List (item.Item R) → Description R
of_items items = record {
  identification = record {
    manufacturer = 1;
    device_type = 2;
    device_revision = 3;
    dd_revision = 4;
  };
  items = items;
}

abbrev pub named : Name → Path
named n = record { base = n; members = [] }

abbrev pub dotted : Name → Name → Path
dotted c m = record { base = c; members = m ∷ [] }

abbrev variable : {R : Type 0} → Name → item.Item R
variable name = record {
  sort = item.VariableItem;
  name = name;
  attributes = TypeOf (Known var_type.UnsignedInteger (Some 1)) [] ∷ [];
}

-- a collection with one member, which names an item
abbrev collection : {R : Type 0} → Kind → Name → (member : Name) → R → item.Item R
collection of name m x =
    record {
      sort = item.CollectionItem of;
      name = name;
      attributes = Members (record { name = m; item = x; label = None; help = None } ∷ []) ∷ [];
    }

abbrev method : {R : Type 0} → Name → List (Part R) → item.Item R
method name body = record {
  sort = item.MethodItem;
  name = name;
  attributes = Definition (body_from body) ∷ [];
}

abbrev pub sets : {R : Type 0} → R → ℕ → Part R
sets to n = Statement (Evaluate (Assign to (Literal n)))

abbrev declares : {R : Type 0} → R → Part R
declares r = Declare (record { place = r; value = None } ∷ [])

abbrev pub the_x : Target
the_x = Item (item_no.Variable (record { 0 = 0 }))

-- one variable x, a collection c with the member m for x, and a method
abbrev pub source : {R : Type 0} → R → List (Part R) → Description R
source x body = of_items (variable (codes "x") ∷ collection kind.Variable (codes "c") (codes "m") x
    ∷ method (codes "m") body ∷ [])

-- ---- meanings

-- `c.m = 300;` is an assignment to x
member_is_its_item : resolved_unit
    (source (named (codes "x")) (sets (dotted (codes "c") (codes "m")) 300 ∷ []))
    ≡ Some (source the_x (sets the_x 300 ∷ []))
unfolding resolved_unit resolved_stmt resolved_by
member_is_its_item = refl

-- which keeps the low 8 bits of 300
store_keeps_low_bits : run 1 (source the_x (sets the_x 300 ∷ [])) (record { 0 = 0 }) (pos 0 ∷ []) []
    ≡ record {
      requests = [];
      changes = record { variable = record { 0 = 0 }; value = pos 44 } ∷ [];
      values = pos 44 ∷ [];
      abort_methods = [];
      answers = [];
      ending = Ended;
    }
unfolding run execute evaluate wrap store slots_of
store_keeps_low_bits = refl

-- `{ int x; x = 1; } x = 2;`: the local hides the variable inside its block alone
local_hides_item_in_its_block : resolved_unit
    (source (named (codes "x"))
    (Statement (Block (body_from (declares (named (codes "x")) ∷ sets (named (codes "x")) 1 ∷ [])))
    ∷ sets (named (codes "x")) 2 ∷ []))
    ≡ Some (source the_x (Statement (Block (body_from (declares (Local 0) ∷ sets (Local 0) 1 ∷ [])))
    ∷ sets the_x 2 ∷ []))
unfolding resolved_unit resolved_stmt resolved_by slots_of
local_hides_item_in_its_block = refl

-- `int x = x;`: the scope of a local begins after its own declarator
scope_begins_after_declarator : resolved_unit
    (source (named (codes "x"))
    (Declare (record { place = named (codes "x"); value = Some (Reference (named (codes "x"))) }
    ∷ []) ∷ []))
    ≡ Some (source the_x (Declare (record { place = Local 0; value = Some (Reference the_x) } ∷ [])
    ∷ []))
unfolding resolved_unit resolved_stmt resolved_by
scope_begins_after_declarator = refl

-- `{ int a; } int b; b = 1;`: a slot isn't used again
slots_are_not_reused : resolved_unit
    (source (named (codes "x")) (Statement (Block (body_from (declares (named (codes "a")) ∷ [])))
    ∷ declares (named (codes "b")) ∷ sets (named (codes "b")) 1 ∷ []))
    ≡ Some (source the_x (Statement (Block (body_from (declares (Local 0) ∷ [])))
    ∷ declares (Local 1) ∷ sets (Local 1) 1 ∷ []))
unfolding resolved_unit resolved_stmt resolved_by slots_of
slots_are_not_reused = refl

-- ---- the version of the layout

abbrev adds_itself : Part Target
adds_itself = Statement (Evaluate (Call (Function builtin.AddAbortMethod)
    (arguments_from (Value (Reference (Item (item_no.Method (record { 0 = 0 })))) ∷ []))))

-- `return; add_abort_method(m);`: also what is never reached counts
abort_method_needs_second_version :
    needs_second_version (source the_x (Statement Return ∷ adds_itself ∷ [])) ≡ true
abort_method_needs_second_version = refl

without_it_the_first_is_enough : needs_second_version (source the_x (sets the_x 300 ∷ [])) ≡ false
without_it_the_first_is_enough = refl

-- ---- names at fault

abbrev fault : Description Path → Option Refusal
fault unit = first_of (wrong_uses unit)

-- `y = 1;`, `c.k = 1;`, `x.m = 1;` and `c = 1;`
unknown_name : fault (source (named (codes "x")) (sets (named (codes "y")) 1 ∷ []))
    ≡ Some (UnknownName (codes "y"))
unknown_name = refl

unknown_member : fault (source (named (codes "x")) (sets (dotted (codes "c") (codes "k")) 1 ∷ []))
    ≡ Some (UnknownName (codes "k"))
unknown_member = refl

no_collection : fault (source (named (codes "x")) (sets (dotted (codes "x") (codes "m")) 1 ∷ []))
    ≡ Some (WrongKind (codes "x"))
no_collection = refl

no_variable : fault (source (named (codes "x")) (sets (named (codes "c")) 1 ∷ []))
    ≡ Some (WrongKind (codes "c"))
no_variable = refl

-- `int c; c.m = 1;`: a local has no members
local_has_no_members : fault
    (source (named (codes "x")) (declares (named (codes "c"))
    ∷ sets (dotted (codes "c") (codes "m")) 1 ∷ [])) ≡ Some (WrongKind (codes "c"))
local_has_no_members = refl

-- A method with `c.q = 1; zz = 2;` stands before a collection c of variables whose member q names
-- an item. What q names is judged at the member, and the use of it by the kind after OF.
abbrev before_collection : Path → Description Path
before_collection q = of_items
    (method (codes "m") (sets (dotted (codes "c") (codes "q")) 1 ∷ sets (named (codes "zz")) 2 ∷ [])
    ∷
    collection kind.Variable (codes "c") (codes "q") q ∷
    record { sort = item.MenuItem; name = codes "n"; attributes = item.Items cond.Nil ∷ [] } ∷ [])

member_of_unknown_item_is_no_fault_of_its_use : fault (before_collection (named (codes "gone")))
    ≡ Some (UnknownName (codes "zz"))
member_of_unknown_item_is_no_fault_of_its_use = refl

-- without `zz = 2;` the fault is the member's own
abbrev only_member : Path → Description Path
only_member q = of_items (method (codes "m") (sets (dotted (codes "c") (codes "q")) 1 ∷ []) ∷
    collection kind.Variable (codes "c") (codes "q") q ∷
    record { sort = item.MenuItem; name = codes "n"; attributes = item.Items cond.Nil ∷ [] } ∷ [])

unknown_item_of_member : fault (only_member (named (codes "gone")))
    ≡ Some (UnknownName (codes "gone"))
unknown_item_of_member = refl

item_of_member_of_wrong_kind : fault (only_member (named (codes "n")))
    ≡ Some (WrongKind (codes "n"))
item_of_member_of_wrong_kind = refl
