-- The code of the statements of a method, and what the blocks of its expressions are to do.
use Rattle.std.specs.Prelude.{◌≡◌, ◌*◌, ◌≤◌, true, false, [], Option}
use Rattle.edd_syntax.specs.declared.numbers.StrNo.{StrNo}
use Rattle.edd_syntax.specs.declared.reference.Target.{Target}
use Rattle.edd_syntax.specs.Expression.{Expr}
use Rattle.edd_syntax.specs.Size.{nodes}
use Rattle.edd_syntax.specs.Statement.{Stmt, Body}
use Rattle.edd_syntax.specs.Words.{Words}
use Rattle.edd_syntax.specs.Device as source
use Rattle.edd_syntax.specs.MethodState.{State}
use Rattle.edd_syntax.specs.Evaluation.{evaluate}
use Rattle.edd_instructions.specs.declared.instruction.Instruction.TheVariants as instruction
use Rattle.edd_instructions.specs.Steps.{Environment}
use Rattle.edd_code.specs.Blocks.{Block, Straight, Then, size}
use Rattle.edd_code.specs.Flow.{AreSpelled}
use Rattle.edd_code.specs.MethodEffects.{does, pushed}
use Rattle.edd_methods.specs.Statements.{Code}
use Rattle.edd_methods.specs.TreeCode.{Blocks, code_of, code_in}
use Rattle.edd_methods.specs.TreeExpressions.{is_abort_call}

-- block_of e is to leave the value of e
module _ (block_of : Expr Target → Block) where
  -- an expression and POP after it
  abbrev pub popped : Expr Target → Block
  popped e = Then (block_of e) (Straight instruction.Pop)

  -- An expression as a statement leaves no value. Nothing comes after an abort, which doesn't go
  -- on.
  abbrev pub alone_block : Expr Target → Block
  alone_block e = elim (is_abort_call e) [ true ↦ Straight instruction.Abort | false ↦ popped e ]

  -- both blocks of an expression
  abbrev pub blocks_by : Blocks
  blocks_by = record { value = block_of; effect = alone_block }

  -- the code of a statement
  abbrev pub statement_code : Stmt Target → Code
  statement_code x = code_of blocks_by x

  -- the code of a body
  abbrev pub body_code : Body Target → Code
  body_code body = code_in blocks_by body

  -- each operand in the block of the expression is in its range
  abbrev pub IsSpelled : Expr Target → Type 0
  IsSpelled e = AreSpelled (block_of e)

  -- the block of the expression has at most 32 bytes a node
  abbrev pub IsShort : Expr Target → Type 0
  IsShort e = size (block_of e) ≤ 32 * nodes e

  -- from every state, the block of the expression leaves its value, or stops as it does
  abbrev pub Means : (StrNo → Option Words) → Environment → source.Environment → Expr Target
      → Type 0
  Means text machine env e = (s : State) → does text machine (block_of e) [] s
      ≡ pushed [] (evaluate env e s)
