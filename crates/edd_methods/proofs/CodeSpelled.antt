-- Each operand in the code of statements is in its range, where those in the blocks of expressions
-- are.
use Rattle.std.proofs.Common.{◌≡◌, refl, Bool, true, false, ℤ, List, [], ◌∷◌, Option, Some, None, arith}
use Rattle.std.proofs.lemmas.Int.{ints}
use Rattle.std.specs.Prelude.{FitsSigned}
use Rattle.std.specs.Int.{w64}
use Rattle.edd_syntax.specs.declared.reference.Target.{Target}
use Rattle.edd_syntax.specs.declared.reference.Target.TheVariants.{Local}
use Rattle.edd_syntax.specs.Expression.{Expr}
use Rattle.edd_syntax.specs.Statement.{Declarator, Stmt, Empty, Evaluate, Block, If, IfElse, While, Do, For, Switch, Body, Nil, Cons, Declare, Statement, CaseLabel, DefaultLabel}
use Rattle.edd_syntax.specs.TwosComplement.{wrap}
use Rattle.edd_instructions.specs.declared.instruction.Instruction.TheVariants as instruction
use Rattle.edd_instructions.specs.declared.unit.Sort.TheVariants.{Method}
use Rattle.edd_instructions.proofs.Widths.{wrap_fits}
use Rattle.edd_code.specs.Blocks as blocks
use Rattle.edd_code.specs.Blocks.{Straight}
use Rattle.edd_code.specs.Flow.{AreSpelled}
use Rattle.edd_code.specs.MethodExpressions.{store_block}
use Rattle.edd_methods.specs.TreeCode.{Blocks, code_in, initial_block, declare_block, first_of, test_of, last_of, code_of, arms_of}
use Rattle.edd_methods.specs.Statements.{IsSpelledPart, IsSpelledCode, AreSpelledArms}
use Rattle.edd_methods.specs.TreeExpressions.{is_abort_call, IsSlot, EachWritten, EachDeclared, Each, EachIn}
use Rattle.edd_methods.specs.StatementCode.{popped, alone_block, blocks_by, body_code, IsSpelled}

label_fits : (label : ℤ) → FitsSigned w64 (wrap 32 label)
label_fits label = let h = wrap_fits Method label in omega (arith, ints)

store_spelled : (place : Target) → IsSlot place → AreSpelled (store_block place)
store_spelled (Local slot) is = omega (arith, is)
store_spelled _ is = absurd is

-- P: what gives that the operands in both blocks of an expression are in their ranges
module _ (given : Blocks) (P : Expr Target → Type 0) (value : (e : Expr Target) → P e
    → AreSpelled (given.value e)) (effect : (e : Expr Target) → (is_abort_call e ≡ false → P e)
    → AreSpelled (given.effect e)) where
  first_spelled : (e : Option (Expr Target)) → EachWritten P e → AreSpelled (first_of given e)
  first_spelled None ok = tt
  first_spelled (Some e) ok = effect e (λ _. ok)

  test_spelled : (e : Option (Expr Target)) → EachWritten P e → IsSpelledPart (test_of given e)
  test_spelled None ok = tt
  test_spelled (Some e) ok = value e ok

  last_spelled : (e : Option (Expr Target)) → EachWritten P e → IsSpelledPart (last_of given e)
  last_spelled None ok = tt
  last_spelled (Some e) ok = effect e (λ _. ok)

  initial_spelled : (e : Option (Expr Target)) → EachWritten P e
      → AreSpelled (initial_block given e)
  initial_spelled None ok = omega arith
  initial_spelled (Some e) ok = value e ok

  declared_spelled : (ds : List (Declarator Target)) → EachDeclared P ds
      → AreSpelled (declare_block given ds)
  declared_spelled [] ok = tt
  declared_spelled (d ∷ rest) ok =
      (initial_spelled d.value ok.1, (store_spelled d.place ok.0, (tt, declared_spelled rest ok.2)))

  mutual
    unfolding code_of

    statement_spelled : (x : Stmt Target) → Each P x → IsSpelledCode (code_of given x)
    statement_spelled Empty ok = tt
    statement_spelled (Evaluate e) ok = effect e ok
    statement_spelled (Block body) ok = body_spelled body ok
    statement_spelled (If condition first) ok =
        (value condition ok.0, statement_spelled first ok.1)
    statement_spelled (IfElse condition first otherwise) ok =
        (value condition ok.0, statement_spelled first ok.1, statement_spelled otherwise ok.2)
    statement_spelled (While condition body) ok =
        (value condition ok.0, tt, statement_spelled body ok.1)
    statement_spelled (Do body condition) ok =
        (tt, value condition ok.0, statement_spelled body ok.1)
    statement_spelled (For first condition update body) ok = (
      first_spelled first ok.0,
      (
        test_spelled condition ok.1,
        last_spelled update ok.2,
        statement_spelled body ok.3,
      ),
    )
    statement_spelled (Switch on body) ok = (value on ok.0, arms_spelled body ok.1)
    statement_spelled _ ok = tt

    pub body_spelled : (b : Body Target) → EachIn P b → IsSpelledCode (code_in given b)
    body_spelled Nil ok = tt
    body_spelled (Cons (Declare ds) rest) ok = (declared_spelled ds ok.0, body_spelled rest ok.1)
    body_spelled (Cons (Statement x) rest) ok = (statement_spelled x ok.0, body_spelled rest ok.1)
    body_spelled (Cons _ rest) ok = body_spelled rest ok

    arms_spelled : (b : Body Target) → EachIn P b → AreSpelledArms (arms_of given b)
    arms_spelled Nil ok = tt
    arms_spelled (Cons (Declare ds) rest) ok = (declared_spelled ds ok.0, arms_spelled rest ok.1)
    arms_spelled (Cons (Statement x) rest) ok = (statement_spelled x ok.0, arms_spelled rest ok.1)
    arms_spelled (Cons (CaseLabel label) rest) ok = (label_fits label, arms_spelled rest ok)
    arms_spelled (Cons DefaultLabel rest) ok = arms_spelled rest ok

-- ---- the blocks of values alone are given

alone_spelled : (block_of : Expr Target → blocks.Block) (e : Expr Target)
    → (is_abort_call e ≡ false → IsSpelled block_of e) → AreSpelled (alone_block block_of e)
alone_spelled block_of e ok = by_test (is_abort_call e) refl
  where
    by_test : (b : Bool) → is_abort_call e ≡ b
        → AreSpelled (elim b as (λ _. blocks.Block) [
          | true ↦ Straight instruction.Abort
          | false ↦ popped block_of e
        ])
    by_test true is = tt
    by_test false is = (ok is, tt)

pub values_spelled : (block_of : Expr Target → blocks.Block) (b : Body Target)
    → EachIn (IsSpelled block_of) b → IsSpelledCode (body_code block_of b)
values_spelled block_of b ok = body_spelled (blocks_by block_of) (IsSpelled block_of) (λ e h. h)
    (alone_spelled block_of) b ok
