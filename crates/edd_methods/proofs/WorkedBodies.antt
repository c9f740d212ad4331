-- Worked bodies, and the bytes of their units.
use Rattle.std.proofs.Common.{◌≡◌, refl, ℕ, List, [], ◌∷◌, None}
use Rattle.edd_syntax.specs.declared.numbers.StrNo.{StrNo}
use Rattle.edd_syntax.specs.declared.operators.Builtin.TheVariants as builtin
use Rattle.edd_syntax.specs.declared.reference.Target.{Target}
use Rattle.edd_syntax.specs.declared.reference.Target.TheVariants.{Local, Function}
use Rattle.edd_syntax.specs.Expression as expr
use Rattle.edd_syntax.specs.Expression.{Literal, Reference, Call}
use Rattle.edd_syntax.specs.Statement.{Stmt, Empty, Evaluate, If, While, For, Break, Return, Body, Nil, Cons, Declare, Statement}
use Rattle.edd_syntax.specs.Words.{Words}
use Rattle.edd_code.specs.Blocks as blocks
use Rattle.edd_code.specs.Blocks.{bytes_of}
use Rattle.edd_code.specs.MethodExpressions.{method_block, call_block}
use Rattle.edd_methods.specs.Statements.{emitted, unit_code}
use Rattle.edd_methods.specs.TreeCode.{code_of}
use Rattle.edd_methods.specs.MethodCode.{method_code}

module _ (number : Words → StrNo) where
  abbrev bytes : Body Target → List ℕ
  bytes body = unit_code (method_code number body)

  abbrev alone : Stmt Target → Body Target
  alone x = Cons (Statement x) Nil

  -- abort(); nothing is popped
  abort_alone : bytes (alone (Evaluate (Call (Function builtin.Abort) expr.Nil))) ≡ 0x51 ∷ 0x00 ∷ []
  unfolding code_of emitted blocks.emitted bytes_of method_block call_block
  abort_alone = refl

  -- int i; i; and the value is dropped
  declared_and_dropped : bytes (Cons (Declare (record { place = Local 0; value = None } ∷ []))
      (alone (Evaluate (Reference (Local 0)))))
      ≡ 0x01 ∷ 0 ∷ 0 ∷ 0 ∷ 0 ∷ 0x05 ∷ 0 ∷ 0 ∷ 0x06 ∷ 0x04 ∷ 0 ∷ 0 ∷ 0x06 ∷ 0x00 ∷ []
  unfolding code_of emitted blocks.emitted bytes_of method_block call_block
  declared_and_dropped = refl

  -- if (1) return; there is no jump after the statement
  left_where_true : bytes (alone (If (Literal 1) Return))
      ≡ 0x01 ∷ 0 ∷ 0 ∷ 0 ∷ 1 ∷ 0x31 ∷ 0 ∷ 0 ∷ 0 ∷ 11 ∷ 0x00 ∷ 0x00 ∷ []
  unfolding code_of emitted blocks.emitted bytes_of method_block call_block
  left_where_true = refl

  -- while (1) { }
  forever : bytes (alone (While (Literal 1) Empty))
      ≡ 0x30 ∷ 0 ∷ 0 ∷ 0 ∷ 10 ∷ 0x30 ∷ 0 ∷ 0 ∷ 0 ∷ 25 ∷ 0x01 ∷ 0 ∷ 0 ∷ 0 ∷ 1 ∷ 0x31 ∷ 0 ∷ 0 ∷ 0 ∷ 5
      ∷ 0x30 ∷ 0 ∷ 0 ∷ 0 ∷ 10 ∷ 0x00 ∷ []
  unfolding code_of emitted blocks.emitted bytes_of method_block call_block
  forever = refl

  -- for (;;) break;
  left_at_once : bytes (alone (For None None None Break))
      ≡ 0x30 ∷ 0 ∷ 0 ∷ 0 ∷ 10 ∷ 0x30 ∷ 0 ∷ 0 ∷ 0 ∷ 20 ∷ 0x30 ∷ 0 ∷ 0 ∷ 0 ∷ 5 ∷ 0x30 ∷ 0 ∷ 0 ∷ 0 ∷ 10
      ∷ 0x00 ∷ []
  unfolding code_of emitted blocks.emitted bytes_of method_block call_block
  left_at_once = refl
