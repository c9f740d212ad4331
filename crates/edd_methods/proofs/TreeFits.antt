-- The blocks of a tree's code fit where those of its expressions do.
use Rattle.std.proofs.Common.{◌≡◌, ℕ, false, List, Option, Some, None}
use Rattle.edd_syntax.specs.declared.reference.Target.{Target}
use Rattle.edd_syntax.specs.Expression.{Expr}
use Rattle.edd_syntax.specs.Statement.{Declarator, Stmt, Empty, Evaluate, Block, If, IfElse, While, Do, For, Switch, Body, Nil, Cons, Declare, Statement}
use Rattle.edd_code.specs.Blocks as blocks
use Rattle.edd_methods.specs.TreeCode.{Blocks, declare_block, first_of, test_of, last_of, code_of, code_in, arms_of}
use Rattle.edd_methods.specs.TreeExpressions.{is_abort_call, EachWritten, EachDeclared, Each, EachIn, EachSlotOf, HasSlots, EachSlot}
use Rattle.edd_methods.specs.CodeFlow.{FitsPart, Fits, FitArms}

-- P: what gives R of the block of an effect, and V of the block of a value; a limit of slots
module _ (given : Blocks) (limit : ℕ) (P : Expr Target → Type 0) (R V : blocks.Block → Type 0)
    (value : (e : Expr Target) → P e → V (given.value e))
    (effect : (e : Expr Target) → (is_abort_call e ≡ false → P e) → R (given.effect e))
    (nothing : R blocks.Nothing)
    (declares : (ds : List (Declarator Target)) → EachSlotOf limit ds → EachDeclared P ds
    → R (declare_block given ds)) where
  first_fits : (e : Option (Expr Target)) → EachWritten P e → R (first_of given e)
  first_fits None ok = nothing
  first_fits (Some e) ok = effect e (λ _. ok)

  test_fits : (e : Option (Expr Target)) → EachWritten P e → FitsPart R V (test_of given e)
  test_fits None ok = tt
  test_fits (Some e) ok = value e ok

  last_fits : (e : Option (Expr Target)) → EachWritten P e → FitsPart R V (last_of given e)
  last_fits None ok = tt
  last_fits (Some e) ok = effect e (λ _. ok)

  mutual
    unfolding code_of

    statement_fits : (x : Stmt Target) → HasSlots limit x → Each P x → Fits R V (code_of given x)
    statement_fits Empty slots ok = nothing
    statement_fits (Evaluate e) slots ok = effect e ok
    statement_fits (Block body) slots ok = body_fits body slots ok
    statement_fits (If condition first) slots ok =
        (value condition ok.0, statement_fits first slots ok.1)
    statement_fits (IfElse condition first otherwise) slots ok = (
      value condition ok.0,
      statement_fits first slots.0 ok.1,
      statement_fits otherwise slots.1
          ok.2,
    )
    statement_fits (While condition body) slots ok =
        (value condition ok.0, tt, statement_fits body slots ok.1)
    statement_fits (Do body condition) slots ok =
        (tt, value condition ok.0, statement_fits body slots ok.1)
    statement_fits (For first condition update body) slots ok = (
      first_fits first ok.0,
      (
        test_fits condition ok.1,
        last_fits update ok.2,
        statement_fits body slots ok.3,
      ),
    )
    statement_fits (Switch on body) slots ok = (value on ok.0, arms_fit body slots ok.1)
    statement_fits _ slots ok = tt

    pub body_fits : (b : Body Target) → EachSlot limit b → EachIn P b → Fits R V (code_in given b)
    body_fits Nil slots ok = nothing
    body_fits (Cons (Declare ds) rest) slots ok =
        (declares ds slots.0 ok.0, body_fits rest slots.1 ok.1)
    body_fits (Cons (Statement x) rest) slots ok =
        (statement_fits x slots.0 ok.0, body_fits rest slots.1 ok.1)
    body_fits (Cons _ rest) slots ok = body_fits rest slots ok

    arms_fit : (b : Body Target) → EachSlot limit b → EachIn P b → FitArms R V (arms_of given b)
    arms_fit Nil slots ok = tt
    arms_fit (Cons (Declare ds) rest) slots ok =
        (declares ds slots.0 ok.0, arms_fit rest slots.1 ok.1)
    arms_fit (Cons (Statement x) rest) slots ok =
        (statement_fits x slots.0 ok.0, arms_fit rest slots.1 ok.1)
    arms_fit (Cons _ rest) slots ok = arms_fit rest slots ok
