-- The code of a tree of statements, where the blocks of its expressions are given.
use Rattle.std.specs.Prelude.{List, [], ◌∷◌, Option, Some, None}
use Rattle.edd_syntax.specs.declared.reference.Target.{Target}
use Rattle.edd_syntax.specs.Expression.{Expr}
use Rattle.edd_syntax.specs.Statement as tree
use Rattle.edd_syntax.specs.Statement.{Declarator, Stmt, Body}
use Rattle.edd_syntax.specs.TwosComplement.{wrap}
use Rattle.edd_instructions.specs.declared.instruction.Instruction.TheVariants as instruction
use Rattle.edd_code.specs.Blocks as blocks
use Rattle.edd_code.specs.Blocks.{Block}
use Rattle.edd_code.specs.MethodExpressions.{store_block}
use Rattle.edd_methods.specs.Statements.{Part, Missing, Step, Test, Code, Plain, Then, Guard, Branch, Loop, Switch, Break, Continue, Finish, Arms, Nil, Statement, Case, Default}

-- the blocks of an expression: one leaves its value, the other nothing
pub record Blocks : Type 0 where
  pub value : Expr Target → Block
  pub effect : Expr Target → Block

module _ (given : Blocks) where
  -- a declaration without a value sets 0
  abbrev pub initial_block : Option (Expr Target) → Block
  initial_block (Some e) = given.value e
  initial_block None = blocks.Straight (instruction.Push 0)

  -- each declarator sets its slot
  abbrev pub declare_block : List (Declarator Target) → Block
  declare_block [] = blocks.Nothing
  declare_block (d ∷ rest) = blocks.Then (initial_block d.value)
      (blocks.Then (store_block d.place)
      (blocks.Then (blocks.Straight instruction.Pop) (declare_block rest)))

  -- parts of `for` that may be missing
  abbrev pub first_of : Option (Expr Target) → Block
  first_of (Some e) = given.effect e
  first_of None = blocks.Nothing

  -- a test that is missing is true
  abbrev pub test_of : Option (Expr Target) → Part
  test_of (Some e) = Test (given.value e)
  test_of None = Missing

  -- what ends a turn
  abbrev pub last_of : Option (Expr Target) → Part
  last_of (Some e) = Step (given.effect e)
  last_of None = Missing

  -- a statement; a body; a body in which a `switch` looks for its labels
  unfoldable mutual
    pub code_of : Stmt Target → Code
    code_of tree.Empty = Plain blocks.Nothing
    code_of (tree.Evaluate e) = Plain (given.effect e)
    code_of (tree.Block body) = code_in body
    code_of (tree.If condition first) = Guard (given.value condition) (code_of first)
    code_of (tree.IfElse condition first otherwise) = Branch (given.value condition) (code_of first)
        (code_of otherwise)
    code_of (tree.While condition body) = Loop (Test (given.value condition)) Missing (code_of body)
    code_of (tree.Do body condition) = Loop Missing (Test (given.value condition)) (code_of body)
    code_of (tree.For initial condition update body) =
        Then (Plain (first_of initial)) (Loop (test_of condition) (last_of update) (code_of body))
    code_of (tree.Switch on body) = Switch (given.value on) (arms_of body)
    code_of tree.Break = Break
    code_of tree.Continue = Continue
    code_of tree.Return = Finish

    -- the code of a body, in which labels have no part
    pub code_in : Body Target → Code
    code_in tree.Nil = Plain blocks.Nothing
    code_in (tree.Cons (tree.Declare declarators) rest) = Then (Plain (declare_block declarators))
        (code_in rest)
    code_in (tree.Cons (tree.Statement s) rest) = Then (code_of s) (code_in rest)
    code_in (tree.Cons (tree.CaseLabel label) rest) = code_in rest
    code_in (tree.Cons tree.DefaultLabel rest) = code_in rest

    -- the code of the body of a `switch`, with its labels as 32 bits
    pub arms_of : Body Target → Arms
    arms_of tree.Nil = Nil
    arms_of (tree.Cons (tree.Declare declarators) rest) =
        Statement (Plain (declare_block declarators)) (arms_of rest)
    arms_of (tree.Cons (tree.Statement s) rest) = Statement (code_of s) (arms_of rest)
    arms_of (tree.Cons (tree.CaseLabel label) rest) = Case (wrap 32 label) (arms_of rest)
    arms_of (tree.Cons tree.DefaultLabel rest) = Default (arms_of rest)
