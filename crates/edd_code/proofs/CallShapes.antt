-- Calls whose arguments fit, and calls that have no block of their own.
use Rattle.std.proofs.Common.{◌≡◌, refl, sym, ap, ◌∙◌}
use Rattle.std.specs.Prelude.{Option, Some, None}
use Rattle.edd_syntax.specs.declared.numbers.ItemNo.TheVariants as item_no
use Rattle.edd_syntax.specs.declared.numbers.StrNo.{StrNo}
use Rattle.edd_syntax.specs.declared.numbers.MethNo.{MethNo}
use Rattle.edd_syntax.specs.declared.operators.Builtin.TheVariants as builtin
use Rattle.edd_syntax.specs.declared.reference.Target.{Target}
use Rattle.edd_syntax.specs.declared.reference.Target.TheVariants.{Local, Item, Function}
use Rattle.edd_syntax.specs.Expression.{Expr, Literal, Reference, Argument, Text, Value, Arguments, Nil, Cons}
use Rattle.edd_syntax.specs.Words.{Words}
use Rattle.edd_instructions.specs.declared.instruction.Instruction.TheVariants as instruction
use Rattle.edd_code.specs.Arguments.{as_value, as_target, as_method, only, pair, both, alone_block}
use Rattle.edd_code.specs.Expressions.{no_value}
use Rattle.edd_code.specs.MethodExpressions.{call_block}

-- ---- one argument

value_is : (x : Argument Target) (e : Expr Target) → as_value x ≡ Some e → x ≡ Value e
value_is (Text u) e h = absurd cc
value_is (Value f) e h = cc

target_is : (x : Argument Target) {to : Target} → as_target x ≡ Some to → x ≡ Value (Reference to)
target_is (Text t) h = absurd cc
target_is (Value (Reference from)) h = cc
target_is (Value _) h = absurd cc

method_is : (x : Argument Target) {m : MethNo} → as_method x ≡ Some m
    → x ≡ Value (Reference (Item (item_no.Method m)))
method_is (Text t) h = absurd cc
method_is (Value (Reference (Item (item_no.Method n)))) h = cc
method_is (Value (Reference (Item (item_no.Variable n)))) h = absurd cc
method_is (Value (Reference (Item (item_no.Command n)))) h = absurd cc
method_is (Value (Reference (Item (item_no.Menu n)))) h = absurd cc
method_is (Value (Reference (Item (item_no.Collection n)))) h = absurd cc
method_is (Value (Reference (Item (item_no.Array n)))) h = absurd cc
method_is (Value (Reference (Local slot))) h = absurd cc
method_is (Value (Reference (Function f))) h = absurd cc
method_is (Value (Literal value)) h = absurd cc
method_is (Value _) h = absurd cc

-- ---- all arguments

module _ {A : Type 0} (kind : Argument Target → Option A) where
  only_is : (a : Arguments Target) (y : A) → Some y ≡ only kind a → (x : Argument Target)
      × (a ≡ Cons x Nil) × (kind x ≡ Some y)
  only_is Nil y h = absurd cc
  only_is (Cons x Nil) y h = (x, refl, cc)
  only_is (Cons x (Cons z rest)) y h = absurd cc

pair_is : {A B : Type 0} (o : Option A) (p : Option B) (y : A) (z : B) → Some (y, z) ≡ pair o p
    → (o ≡ Some y) × (p ≡ Some z)
pair_is None p y z h = absurd cc
pair_is (Some a) None y z h = absurd cc
pair_is {A} {B} (Some a) (Some b) y z h = let e : (y, z) ≡ (a, b) =
    cc in (ap (λ (p : A × B). Some p.0) (sym e), ap (λ (p : A × B). Some p.1) (sym e))

module _ {A B : Type 0} (kind : Argument Target → Option A) (other : Argument Target → Option B)
  where
    both_are : (a : Arguments Target) (y : A) (z : B) → Some (y, z) ≡ both kind other a
        → (x : Argument Target) × (w : Argument Target) × (a ≡ Cons x (Cons w Nil))
        × (kind x ≡ Some y) × (other w ≡ Some z)
    both_are Nil y z h = absurd cc
    both_are (Cons x Nil) y z h = absurd cc
    both_are (Cons x (Cons w Nil)) y z h = let parts =
        pair_is (kind x) (other w) y z h in (x, w, refl, parts.0, parts.1)
    both_are (Cons x (Cons w (Cons v rest))) y z h = absurd cc

pub only_value_is : (a : Arguments Target) {e : Expr Target} → Some e ≡ only as_value a
    → a ≡ Cons (Value e) Nil
only_value_is a {e} h = let all = only_is as_value a e h in all.1
    ∙ ap (λ (x : Argument Target). Cons x Nil) (value_is all.0 e all.2)

pub only_method_is : (a : Arguments Target) {m : MethNo} → Some m ≡ only as_method a
    → a ≡ Cons (Value (Reference (Item (item_no.Method m)))) Nil
only_method_is a {m} h = let all = only_is as_method a m h in all.1
    ∙ ap (λ (x : Argument Target). Cons x Nil) (method_is all.0 all.2)

two_are : (a : Arguments Target) (x y : Argument Target) {z w : Argument Target}
    → a ≡ Cons x (Cons y Nil) → x ≡ z → y ≡ w → a ≡ Cons z (Cons w Nil)
two_are a x y is one other = cc

pub target_and_value_are : (a : Arguments Target) {to : Target} {e : Expr Target} → Some (to, e)
    ≡ both as_target as_value a → a ≡ Cons (Value (Reference to)) (Cons (Value e) Nil)
target_and_value_are a {to} {e} h =
    let all = both_are as_target as_value a to e h in
    two_are a all.0 all.1 all.2 (target_is all.0 all.3) (value_is all.1 e all.4)

-- ---- calls that don't fit

module _ (number : Words → StrNo) where
  pub no_value_alone : (a : Arguments Target) → None ≡ only as_value a
      → call_block number builtin.IvarValue a ≡ no_value
  unfolding call_block
  no_value_alone Nil h = refl
  no_value_alone (Cons (Value e) Nil) h = absurd cc
  no_value_alone (Cons (Text t) Nil) h = refl
  no_value_alone (Cons (Value e) (Cons y rest)) h = refl
  no_value_alone (Cons (Text t) (Cons y rest)) h = refl

  pub no_assignment : (a : Arguments Target) → None ≡ both as_target as_value a
      → call_block number builtin.Iassign a ≡ no_value
  unfolding call_block
  no_assignment Nil h = refl
  no_assignment (Cons (Text t) rest) h = refl
  no_assignment (Cons (Value (Reference to)) Nil) h = refl
  no_assignment (Cons (Value (Reference to)) (Cons (Text t) rest)) h = refl
  no_assignment (Cons (Value (Reference to)) (Cons (Value e) Nil)) h = absurd cc
  no_assignment (Cons (Value (Reference to)) (Cons (Value e) (Cons z rest))) h = refl
  no_assignment (Cons (Value (Literal value)) rest) h = refl
  no_assignment (Cons (Value _) rest) h = refl

  pub no_method : (a : Arguments Target) → None ≡ only as_method a
      → call_block number builtin.AddAbortMethod a ≡ no_value
  unfolding call_block
  no_method Nil h = refl
  no_method (Cons (Text t) rest) h = refl
  no_method (Cons (Value (Reference (Item (item_no.Method m)))) Nil) h = absurd cc
  no_method (Cons (Value (Reference (Item (item_no.Method m)))) (Cons y rest)) h = refl
  no_method (Cons (Value (Reference (Item (item_no.Variable n)))) rest) h = refl
  no_method (Cons (Value (Reference (Item (item_no.Command n)))) rest) h = refl
  no_method (Cons (Value (Reference (Item (item_no.Menu n)))) rest) h = refl
  no_method (Cons (Value (Reference (Item (item_no.Collection n)))) rest) h = refl
  no_method (Cons (Value (Reference (Item (item_no.Array n)))) rest) h = refl
  no_method (Cons (Value (Reference (Local slot))) rest) h = refl
  no_method (Cons (Value (Reference (Function f))) rest) h = refl
  no_method (Cons (Value (Literal value)) rest) h = refl
  no_method (Cons (Value _) rest) h = refl

  -- ---- functions that differ in name alone

  pub same_value : (a : Arguments Target) → call_block number builtin.IvarValue a
      ≡ call_block number builtin.LvarValue a
  unfolding call_block
  same_value Nil = refl
  same_value (Cons (Text t) rest) = refl
  same_value (Cons (Value e) Nil) = refl
  same_value (Cons (Value e) (Cons y rest)) = refl

  pub same_assignment : (a : Arguments Target) → call_block number builtin.Iassign a
      ≡ call_block number builtin.Lassign a
  unfolding call_block
  same_assignment Nil = refl
  same_assignment (Cons (Text t) rest) = refl
  same_assignment (Cons (Value (Reference to)) Nil) = refl
  same_assignment (Cons (Value (Reference to)) (Cons (Text t) rest)) = refl
  same_assignment (Cons (Value (Reference to)) (Cons (Value e) Nil)) = refl
  same_assignment (Cons (Value (Reference to)) (Cons (Value e) (Cons z rest))) = refl
  same_assignment (Cons (Value (Literal value)) rest) = refl
  same_assignment (Cons (Value _) rest) = refl

  pub abort_alone : (a : Arguments Target) → alone_block (instruction.Abort) a
      ≡ call_block number builtin.Abort a
  unfolding call_block
  abort_alone Nil = refl
  abort_alone (Cons x rest) = refl

  pub process_abort_alone : (a : Arguments Target) → alone_block (instruction.Abort) a
      ≡ call_block number builtin.ProcessAbort a
  unfolding call_block
  process_abort_alone Nil = refl
  process_abort_alone (Cons x rest) = refl
