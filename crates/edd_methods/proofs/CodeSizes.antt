-- The code of a body has at most 32 bytes for each of its nodes.
use Rattle.std.proofs.Common.{◌≡◌, refl, ◌+◌, ◌*◌, ◌≤◌, Bool, true, false, List, [], ◌∷◌, Option, Some, None, arith}
use Rattle.edd_syntax.specs.declared.reference.Target.{Target}
use Rattle.edd_syntax.specs.declared.reference.Target.TheVariants.{Local}
use Rattle.edd_syntax.specs.Expression.{Expr}
use Rattle.edd_syntax.specs.Size.{nodes, optional_nodes, declarator_nodes, statement_nodes, body_nodes}
use Rattle.edd_syntax.specs.Statement.{Declarator, Stmt, Evaluate, Block, If, IfElse, While, Do, For, Switch, Body, Nil, Cons, Declare, Statement}
use Rattle.edd_instructions.specs.declared.instruction.Instruction.TheVariants as instruction
use Rattle.edd_code.specs.Blocks as blocks
use Rattle.edd_code.specs.Blocks.{Straight}
use Rattle.edd_code.specs.MethodExpressions.{store_block}
use Rattle.edd_methods.specs.Statements.{size, arms_size, tests_size, part_size}
use Rattle.edd_methods.specs.TreeCode.{initial_block, declare_block, first_of, test_of, last_of, code_of, code_in, arms_of}
use Rattle.edd_methods.specs.TreeExpressions.{is_abort_call, IsSlot, EachWritten, EachDeclared, Each, EachIn}
use Rattle.edd_methods.specs.StatementCode.{popped, alone_block, blocks_by, IsShort}

module _ (block_of : Expr Target → blocks.Block) where
  abbrev P : Expr Target → Type 0
  P e = IsShort block_of e

  -- the block of a value and POP
  alone_size : (e : Expr Target) → (is_abort_call e ≡ false → P e)
      → blocks.size (alone_block block_of e) ≤ 32 * nodes e + 1
  alone_size e short = by_test (is_abort_call e) refl
    where
      by_test : (b : Bool) → is_abort_call e ≡ b
          → blocks.size (elim b as (λ _. blocks.Block) [
            | true ↦ Straight instruction.Abort
            | false ↦ popped block_of e
          ]) ≤ 32 * nodes e + 1
      by_test true is = omega arith
      by_test false is = omega (arith, short is)

  first_size : (e : Option (Expr Target)) → EachWritten P e
      → blocks.size (first_of (blocks_by block_of) e) ≤ 32 * optional_nodes e + 1
  first_size None short = omega arith
  first_size (Some e) short = alone_size e (λ _. short)

  test_size : (e : Option (Expr Target)) → EachWritten P e
      → part_size (test_of (blocks_by block_of) e) ≤ 32 * optional_nodes e + 5
  test_size None short = omega arith
  test_size (Some e) short = omega (arith, short)

  last_size : (e : Option (Expr Target)) → EachWritten P e
      → part_size (last_of (blocks_by block_of) e) ≤ 32 * optional_nodes e + 1
  last_size None short = omega arith
  last_size (Some e) short = alone_size e (λ _. short)

  initial_size : (e : Option (Expr Target)) → EachWritten P e
      → blocks.size (initial_block (blocks_by block_of) e) ≤ 32 * optional_nodes e + 5
  initial_size None short = omega arith
  initial_size (Some e) short = omega (arith, short)

  store_size : (place : Target) → IsSlot place → blocks.size (store_block place) ≤ 3
  store_size (Local slot) is = omega arith
  store_size _ is = absurd is

  declared_size : (ds : List (Declarator Target)) → EachDeclared P ds
      → blocks.size (declare_block (blocks_by block_of) ds) ≤ 32 * declarator_nodes ds
  declared_size [] short = omega arith
  declared_size (d ∷ rest) short =
      omega (
        arith,
        initial_size d.value short.1,
        store_size d.place short.0,
        declared_size rest short.2,
      )

  mutual
    unfolding code_of

    statement_size : (x : Stmt Target) → Each P x → size (code_of (blocks_by block_of) x)
        ≤ 32 * statement_nodes x
    statement_size (Evaluate e) short = omega (arith, alone_size e short)
    statement_size (Block body) short = omega (arith, body_size body short)
    statement_size (If condition first) short = omega (arith, short.0, statement_size first short.1)
    statement_size (IfElse condition first otherwise) short =
        omega (arith, short.0, statement_size first short.1, statement_size otherwise short.2)
    statement_size (While condition body) short =
        omega (arith, short.0, statement_size body short.1)
    statement_size (Do body condition) short = omega (arith, short.0, statement_size body short.1)
    statement_size (For first condition update body) short =
        omega (
          arith,
          first_size first short.0,
          test_size condition short.1,
          last_size update short.2,
          statement_size body short.3,
        )
    statement_size (Switch on body) short = omega (arith, short.0, arms_sizes body short.1)
    statement_size _ short = omega arith

    pub body_size : (b : Body Target) → EachIn P b → size (code_in (blocks_by block_of) b)
        ≤ 32 * body_nodes b
    body_size Nil short = omega arith
    body_size (Cons (Declare ds) rest) short =
        omega (arith, declared_size ds short.0, body_size rest short.1)
    body_size (Cons (Statement x) rest) short =
        omega (arith, statement_size x short.0, body_size rest short.1)
    body_size (Cons _ rest) short = omega (arith, body_size rest short)

    -- a label has a test of 13 bytes
    arms_sizes : (b : Body Target) → EachIn P b → arms_size (arms_of (blocks_by block_of) b)
        + tests_size (arms_of (blocks_by block_of) b) ≤ 32 * body_nodes b
    arms_sizes Nil short = omega arith
    arms_sizes (Cons (Declare ds) rest) short =
        omega (arith, declared_size ds short.0, arms_sizes rest short.1)
    arms_sizes (Cons (Statement x) rest) short =
        omega (arith, statement_size x short.0, arms_sizes rest short.1)
    arms_sizes (Cons _ rest) short = omega (arith, arms_sizes rest short)
