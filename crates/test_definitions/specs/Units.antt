-- Descriptions of this crate: with abort methods, and with an array.
use Rattle.std.specs.Prelude.{ℕ, pos, List, [], ◌∷◌, Some}
use Rattle.edd_syntax.specs.declared.numbers.MethNo.{MethNo}
use Rattle.edd_syntax.specs.declared.numbers.ItemNo.TheVariants as item_no
use Rattle.edd_syntax.specs.declared.operators.Builtin.TheVariants as builtin
use Rattle.edd_syntax.specs.declared.reference.Target.{Target}
use Rattle.edd_syntax.specs.declared.reference.Target.TheVariants as target
use Rattle.edd_syntax.specs.declared.types.VarType.TheVariants.{Integer}
use Rattle.edd_syntax.specs.Expression.{Expr, Reference, Value}
use Rattle.edd_syntax.specs.Statement.{Part, body_from}
use Rattle.edd_syntax.specs.Item as item
use Rattle.edd_syntax.specs.Item.{Attribute, Description, TypeOf, Known, Definition, VariableItem, MethodItem}
use Rattle.edd_syntax.specs.Answers.{Answer}
use Rattle.edd_syntax.specs.Execution.{Transcript, run}
use Rattle.test_definitions.specs.Methods.{calls}

-- a description of these items
abbrev pub of_items : List (item.Item Target) → Description Target
of_items items = record {
  identification = record {
    manufacturer = 1;
    device_type = 2;
    device_revision = 3;
    dd_revision = 4;
  };
  items = items;
}

-- a variable INTEGER (4) with these other attributes
abbrev pub number : (name : ℕ) → List (Attribute Target) → item.Item Target
number name attributes = record {
  sort = VariableItem;
  name = name ∷ [];
  attributes = TypeOf (Known Integer (Some 4)) [] ∷ attributes;
}

-- a method of this name with these parts in its body
abbrev pub method : (name : ℕ) → List (Part Target) → item.Item Target
method name parts = record {
  sort = MethodItem;
  name = name ∷ [];
  attributes = Definition (body_from parts) ∷ [];
}

-- ---- abort methods

-- the variable `x`, and the methods `u`, `v` and `m`
abbrev pub with_methods : (u v m : List (Part Target)) → Description Target
with_methods u v m = of_items (number 0x78 [] ∷ method 0x75 u ∷ method 0x76 v ∷ method 0x6d m ∷ [])

-- the method of this number
abbrev pub no : ℕ → MethNo
no n = record { 0 = n }

-- `add_abort_method(u)` is `adds 0`, and of `v` it is `adds 1`
abbrev pub adds : ℕ → Expr Target
adds n = calls builtin.AddAbortMethod
    (Value (Reference (target.Item (item_no.Method (no n)))) ∷ [])

-- `abort()`
abbrev pub aborts : Expr Target
aborts = calls builtin.Abort []

-- what `m` does under these answers, where x is 0, within two turns of each loop
abbrev pub plays : Description Target → List Answer → Transcript
plays unit answers = run 2 unit (no 2) (pos 0 ∷ []) answers
