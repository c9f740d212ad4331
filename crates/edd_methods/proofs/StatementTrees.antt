-- The code of statements does what the source does.
use Rattle.std.proofs.Common.{refl, ◌∙◌, ℕ, ℤ, pos, List, Option, Some, None}
use Rattle.std.specs.Ordering.{int_eq}
use Rattle.edd_syntax.specs.declared.numbers.StrNo.{StrNo}
use Rattle.edd_syntax.specs.declared.reference.Target.{Target}
use Rattle.edd_syntax.specs.Expression.{Expr}
use Rattle.edd_syntax.specs.Statement.{Declarator, Stmt, Empty, Evaluate, Block, If, IfElse, While, Do, For, Switch, Body, Nil, Cons, Declare, Statement, CaseLabel, DefaultLabel}
use Rattle.edd_syntax.specs.TwosComplement.{wrap, is_zero}
use Rattle.edd_syntax.specs.Words.{Words}
use Rattle.edd_syntax.specs.Device as device
use Rattle.edd_syntax.specs.MethodState.{Action, pure, ◌>>=◌, ◌>>◌}
use Rattle.edd_syntax.specs.Evaluation.{evaluate}
use Rattle.edd_syntax.specs.Execution.{Completion, Normal, next, left, optional, declare, execute, execute_all, execute_case, execute_default}
use Rattle.edd_instructions.specs.Steps.{Environment}
use Rattle.edd_code.specs.Blocks as blocks
use Rattle.edd_code.specs.BlockEffects as effects
use Rattle.edd_methods.specs.Statements.{Plain}
use Rattle.edd_methods.specs.StatementEffects.{Same, always, value_of, step_of, part_of, performs, performs_all, performs_case, performs_default, IsWhole, AreWhole, IsWholePart, LeavesNone}
use Rattle.edd_methods.specs.TreeCode.{declare_block, first_of, test_of, last_of, code_of, arms_of}
use Rattle.edd_methods.proofs.LoopTurns.{then_same, test_first, test_last}
use Rattle.edd_methods.specs.TreeExpressions.{EachWritten, EachDeclared, Each, EachIn}
use Rattle.edd_methods.specs.StatementCode.{alone_block, blocks_by, statement_code, body_code, Means}
use Rattle.edd_methods.proofs.SameActions.{choice_same, next_same, step_then, step_alone}
use Rattle.edd_methods.proofs.ExpressionSteps.{step_same, leaves_none, nothing_performs, value_same, leaves_one, alone_performs, declare_performs, declare_normal}

module _ (text : StrNo → Option Words) (machine : Environment) (env : device.Environment)
    (block_of : Expr Target → blocks.Block) where
  abbrev IsMeant : Expr Target → Type 0
  IsMeant = Means block_of text machine env

  nothing_is_whole : LeavesNone text machine blocks.Nothing
  nothing_is_whole = leaves_none text machine blocks.Nothing (pure (pos 0))
      (nothing_performs text machine)

  nothing_same : (n : ℕ) → Same (performs text machine (Plain blocks.Nothing) n) (pure Normal)
  unfolding performs effects.does
  nothing_same n s = refl

  -- ---- expressions as statements

  alone_same : (e : Expr Target) → IsMeant e → Same (step_of text machine (alone_block block_of e))
      (always (evaluate env e))
  alone_same e means = step_same text machine (alone_block block_of e) (evaluate env e)
      (alone_performs text machine env block_of e (λ _. means))

  alone_is_whole : (e : Expr Target) → IsMeant e → LeavesNone text machine (alone_block block_of e)
  alone_is_whole e means = leaves_none text machine (alone_block block_of e) (evaluate env e)
      (alone_performs text machine env block_of e (λ _. means))

  -- ---- the parts of `for` that may be missing

  first_same : (n : ℕ) (e : Option (Expr Target)) → EachWritten IsMeant e
      → (f g : Action Completion) → Same f g
      → Same (performs text machine (Plain (first_of (blocks_by block_of) e)) n >>= next f)
      (optional env e >> g)
  unfolding performs effects.does
  first_same n None means f g h s = h s
  first_same n (Some e) means f g h s = step_then (evaluate env e s) f g (alone_same e means s) h

  test_same : (e : Option (Expr Target)) → EachWritten IsMeant e
      → Same (part_of text machine (test_of (blocks_by block_of) e)) (optional env e)
  test_same None means s = refl
  test_same (Some e) means s = value_same text machine env block_of e means s

  last_same : (e : Option (Expr Target)) → EachWritten IsMeant e
      → Same (part_of text machine (last_of (blocks_by block_of) e)) (always (optional env e))
  last_same None means s = refl
  last_same (Some e) means s = alone_same e means s

  first_is_whole : (e : Option (Expr Target)) → EachWritten IsMeant e
      → LeavesNone text machine (first_of (blocks_by block_of) e)
  first_is_whole None means = nothing_is_whole
  first_is_whole (Some e) means = alone_is_whole e means

  test_is_whole : (e : Option (Expr Target)) → EachWritten IsMeant e
      → IsWholePart text machine (test_of (blocks_by block_of) e)
  test_is_whole None means = tt
  test_is_whole (Some e) means = leaves_one text machine env block_of e means

  last_is_whole : (e : Option (Expr Target)) → EachWritten IsMeant e
      → IsWholePart text machine (last_of (blocks_by block_of) e)
  last_is_whole None means = tt
  last_is_whole (Some e) means = alone_is_whole e means

  -- ---- declarations

  declared_same : (n : ℕ) (ds : List (Declarator Target)) → EachDeclared IsMeant ds
      → Same (performs text machine (Plain (declare_block (blocks_by block_of) ds)) n)
      (declare env ds)
  unfolding performs
  declared_same n ds means s =
      step_alone (declare env ds s) (step_same text machine (declare_block (blocks_by block_of) ds)
      (declare env ds) (declare_performs text machine env block_of ds means) s)
      ∙ declare_normal text machine env block_of ds means s

  declared_is_whole : (ds : List (Declarator Target)) → EachDeclared IsMeant ds
      → LeavesNone text machine (declare_block (blocks_by block_of) ds)
  declared_is_whole ds means = leaves_none text machine (declare_block (blocks_by block_of) ds)
      (declare env ds) (declare_performs text machine env block_of ds means)

  -- ---- statements

  module _ (n : ℕ) where
    mutual
      unfolding performs execute code_of

      pub statement_same : (x : Stmt Target) → Each IsMeant x
          → Same (performs text machine (statement_code block_of x) n) (execute env x n)
      statement_same Empty means s = nothing_same n s
      statement_same (Evaluate e) means s =
          step_alone (evaluate env e s) (step_same text machine (alone_block block_of e)
          (evaluate env e) (alone_performs text machine env block_of e means) s)
      statement_same (Block body) means s = body_same body means s
      statement_same (If condition first) means s =
          then_same _ _ (value_same text machine env block_of condition means.0 s)
          (λ a. choice_same (is_zero a) _ _ _ _ (λ t. refl) (statement_same first means.1))
      statement_same (IfElse condition first otherwise) means s =
          then_same _ _ (value_same text machine env block_of condition means.0 s) (λ a. choice_same
          (is_zero a) _ _ _ _ (statement_same otherwise means.2) (statement_same first means.1))
      statement_same (While condition body) means s =
          test_first n (value_of text machine (block_of condition)) (evaluate env condition)
          (pure (pos 1)) (pure (pos 0)) _ _
          (value_same text machine env block_of condition means.0) (statement_same body means.1)
          (λ t. refl) s
      statement_same (Do body condition) means s =
          test_last n (value_of text machine (block_of condition)) (evaluate env condition) _ _
          (statement_same body means.1)
          (value_same text machine env block_of condition means.0) s
      statement_same (For first condition update body) means s =
          first_same n first means.0 _ _
          (test_first n (part_of text machine (test_of (blocks_by block_of) condition))
          (optional env condition) (part_of text machine (last_of (blocks_by block_of) update))
          (optional env update) _ _
          (test_same condition means.1) (statement_same body means.3) (last_same update means.2)) s
      statement_same (Switch on body) means s =
          then_same _ _ (value_same text machine env block_of on means.0 s) (λ a t. then_same left
          left (case_same a body means.1 _ _ (default_same body means.1) t) (λ c u. refl))
      statement_same _ means s = refl

      pub body_same : (b : Body Target) → EachIn IsMeant b
          → Same (performs text machine (body_code block_of b) n) (execute_all env b n)
      body_same Nil means s = nothing_same n s
      body_same (Cons (Declare ds) rest) means s =
          then_same _ _ (declared_same n ds means.0 s) (next_same _ _ (body_same rest means.1))
      body_same (Cons (Statement x) rest) means s =
          then_same _ _ (statement_same x means.0 s) (next_same _ _ (body_same rest means.1))
      body_same (Cons _ rest) means s = body_same rest means s

      all_same : (b : Body Target) → EachIn IsMeant b
          → Same (performs_all text machine (arms_of (blocks_by block_of) b) n)
          (execute_all env b n)
      all_same Nil means s = refl
      all_same (Cons (Declare ds) rest) means s =
          then_same _ _ (declared_same n ds means.0 s) (next_same _ _ (all_same rest means.1))
      all_same (Cons (Statement x) rest) means s =
          then_same _ _ (statement_same x means.0 s) (next_same _ _ (all_same rest means.1))
      all_same (Cons _ rest) means s = all_same rest means s

      case_same : (a : ℤ) (b : Body Target) → EachIn IsMeant b → (f g : Action Completion)
          → Same f g
          → Same (performs_case text machine a (arms_of (blocks_by block_of) b) n f)
          (execute_case env a b n g)
      case_same a Nil means f g h s = h s
      case_same a (Cons (CaseLabel label) rest) means f g h s =
          choice_same (int_eq a (wrap 32 label)) _ _ _ _ (all_same rest means)
          (case_same a rest means f g h) s
      case_same a (Cons DefaultLabel rest) means f g h s = case_same a rest means f g h s
      case_same a (Cons _ rest) means f g h s = case_same a rest means.1 f g h s

      default_same : (b : Body Target) → EachIn IsMeant b
          → Same (performs_default text machine (arms_of (blocks_by block_of) b) n)
          (execute_default env b n)
      default_same Nil means s = refl
      default_same (Cons (CaseLabel label) rest) means s = default_same rest means s
      default_same (Cons DefaultLabel rest) means s = all_same rest means s
      default_same (Cons _ rest) means s = default_same rest means.1 s

  -- ---- the code is whole

  mutual
    unfolding code_of

    pub statement_is_whole : (x : Stmt Target) → Each IsMeant x
        → IsWhole text machine (statement_code block_of x)
    statement_is_whole Empty means = nothing_is_whole
    statement_is_whole (Evaluate e) means = leaves_none text machine (alone_block block_of e)
        (evaluate env e) (alone_performs text machine env block_of e means)
    statement_is_whole (Block body) means = body_is_whole body means
    statement_is_whole (If condition first) means =
        (leaves_one text machine env block_of condition means.0, statement_is_whole first means.1)
    statement_is_whole (IfElse condition first otherwise) means = (
      leaves_one text machine env block_of condition means.0,
      statement_is_whole first means.1,
      statement_is_whole otherwise means.2,
    )
    statement_is_whole (While condition body) means = (
      leaves_one text machine env block_of condition means.0,
      tt,
      statement_is_whole body means.1,
    )
    statement_is_whole (Do body condition) means = (
      tt,
      leaves_one text machine env block_of condition means.0,
      statement_is_whole body means.1,
    )
    statement_is_whole (For first condition update body) means = (
      first_is_whole first means.0,
      (
        test_is_whole condition means.1,
        last_is_whole update means.2,
        statement_is_whole body means.3,
      ),
    )
    statement_is_whole (Switch on body) means =
        (leaves_one text machine env block_of on means.0, arms_are_whole body means.1)
    statement_is_whole _ means = tt

    pub body_is_whole : (b : Body Target) → EachIn IsMeant b
        → IsWhole text machine (body_code block_of b)
    body_is_whole Nil means = nothing_is_whole
    body_is_whole (Cons (Declare ds) rest) means =
        (declared_is_whole ds means.0, body_is_whole rest means.1)
    body_is_whole (Cons (Statement x) rest) means =
        (statement_is_whole x means.0, body_is_whole rest means.1)
    body_is_whole (Cons _ rest) means = body_is_whole rest means

    arms_are_whole : (b : Body Target) → EachIn IsMeant b
        → AreWhole text machine (arms_of (blocks_by block_of) b)
    arms_are_whole Nil means = tt
    arms_are_whole (Cons (Declare ds) rest) means =
        (declared_is_whole ds means.0, arms_are_whole rest means.1)
    arms_are_whole (Cons (Statement x) rest) means =
        (statement_is_whole x means.0, arms_are_whole rest means.1)
    arms_are_whole (Cons _ rest) means = arms_are_whole rest means
