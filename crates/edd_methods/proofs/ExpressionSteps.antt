-- The blocks of expressions, as values and as steps.
use Rattle.std.specs.Prelude.{slice_set}
use Rattle.std.proofs.Common.{◌≡◌, refl, sym, ap, subst, ◌∙◌, Bool, true, false, ℤ, pos, List, [], ◌∷◌, Option, Some, None}
use Rattle.edd_syntax.specs.declared.numbers.StrNo.{StrNo}
use Rattle.edd_syntax.specs.declared.operators.Builtin.{Builtin}
use Rattle.edd_syntax.specs.declared.operators.Builtin.TheVariants as builtin
use Rattle.edd_syntax.specs.declared.reference.Target.{Target}
use Rattle.edd_syntax.specs.declared.reference.Target.TheVariants.{Local, Item, Function}
use Rattle.edd_syntax.specs.Expression as expr
use Rattle.edd_syntax.specs.Expression.{Expr, Literal, Call}
use Rattle.edd_syntax.specs.TwosComplement.{wrap}
use Rattle.edd_syntax.specs.Words.{Words}
use Rattle.edd_syntax.specs.Device as device
use Rattle.edd_syntax.specs.MethodState as source
use Rattle.edd_syntax.specs.MethodState.{State, Done, Stopped, Action, pure, assign, ◌>>=◌, ◌>>◌}
use Rattle.edd_syntax.specs.Evaluation.{evaluate, call}
use Rattle.edd_syntax.specs.Execution.{Completion, Normal, initial, declare}
use Rattle.edd_syntax.specs.Statement.{Declarator}
use Rattle.edd_syntax.specs.SubsetRules.{is_abort}
use Rattle.edd_instructions.specs.declared.instruction.Instruction.TheVariants as instruction
use Rattle.edd_instructions.specs.Steps.{Environment, act}
use Rattle.edd_code.specs.Blocks.{Block, Nothing, Straight, Then}
use Rattle.edd_code.specs.BlockEffects as blocks
use Rattle.edd_code.specs.BlockEffects.{Outcome, and_then}
use Rattle.edd_code.specs.MethodEffects.{Halted, pushed, does}
use Rattle.edd_code.specs.MethodExpressions.{store_block}
use Rattle.edd_methods.specs.StatementEffects.{dropped, one_operand, no_operand, OneOperand, NoOperand, Same, value_of, step_of, LeavesOne, LeavesNone}
use Rattle.edd_methods.specs.TreeCode.{initial_block, declare_block}
use Rattle.edd_methods.specs.TreeExpressions.{is_abort_call, IsSlot, EachWritten, EachDeclared}
use Rattle.edd_methods.specs.StatementCode.{popped, alone_block, blocks_by, Means}

-- ---- an abort

not_true : {A : Type 0} → false ≡ true → A
not_true h = absurd (cc (h))

abort_called : (f : Builtin) → is_abort f ≡ true → (env : device.Environment) (s : State)
    → call env (Function f) [] s ≡ Stopped source.Aborted s
unfolding call
abort_called builtin.Abort is env s = refl
abort_called builtin.ProcessAbort is env s = refl
abort_called _ is env s = not_true is

abort_stops : (e : Expr Target) → is_abort_call e ≡ true → (env : device.Environment) (s : State)
    → evaluate env e s ≡ Stopped source.Aborted s
unfolding evaluate
abort_stops (Call (Function f) expr.Nil) is env s = abort_called f is env s
abort_stops (Call (Function f) (expr.Cons first rest)) is env s = not_true is
abort_stops (Call (Local slot) arguments) is env s = not_true is
abort_stops (Call (Item i) arguments) is env s = not_true is
abort_stops (Literal value) is env s = not_true is
abort_stops _ is env s = not_true is

-- ---- what a block leaves, by the outcome of an action

one_pushed : (s : State) (o : source.Outcome ℤ) → one_operand s (pushed [] o) ≡ o
one_pushed s (Done a t) = refl
one_pushed s (Stopped why t) = refl

one_is_left : (o : source.Outcome ℤ) → OneOperand (pushed [] o)
one_is_left (Done a t) = tt
one_is_left (Stopped why t) = tt

none_dropped : {A : Type 0} (s : State) (o : source.Outcome A) → no_operand s (dropped [] o)
    ≡ source.and_then o (λ _. pure (pos 1))
none_dropped s (Done a t) = refl
none_dropped s (Stopped why t) = refl

none_is_left : {A : Type 0} (o : source.Outcome A) → NoOperand (dropped [] o)
none_is_left (Done a t) = tt
none_is_left (Stopped why t) = tt

module _ (text : StrNo → Option Words) (machine : Environment) where
  -- the block leaves nothing and does what the action does
  abbrev pub Performs : {A : Type 0} → Block → Action A → Type 0
  Performs b f = (s : State) → does text machine b [] s ≡ dropped [] (f s)

  pub step_same : {A : Type 0} (b : Block) (f : Action A) → Performs b f
      → Same (step_of text machine b) (f >> pure (pos 1))
  step_same b f h s = ap (no_operand s) (h s) ∙ none_dropped s (f s)

  pub leaves_none : {A : Type 0} (b : Block) (f : Action A) → Performs b f
      → LeavesNone text machine b
  leaves_none b f h s = subst NoOperand (sym (h s)) (none_is_left (f s))

  pub nothing_performs : Performs Nothing (pure (pos 0))
  unfolding blocks.does
  nothing_performs s = refl

  -- the value is dropped
  pops : (o : source.Outcome ℤ)
      → and_then (pushed [] o) (does text machine (Straight instruction.Pop)) ≡ dropped [] o
  unfolding blocks.does act
  pops (Done a t) = refl
  pops (Stopped why t) = refl

  -- the value is put into a slot, and more follows
  sets : (env : device.Environment) (place : Target) → IsSlot place
      → (rest : Block) (more : Action Completion) → Performs rest more → (o : source.Outcome ℤ)
      → and_then (pushed [] o)
      (does text machine (Then (store_block place) (Then (Straight instruction.Pop) rest)))
      ≡ dropped [] (source.and_then o (λ a. assign env place a >> more))
  unfolding blocks.does act
  sets env (Local slot) is rest more h (Done a t) =
      h (record t { slots = slice_set t.slots slot a })
  sets env (Local slot) is rest more h (Stopped why t) = refl
  sets env (Item i) is rest more h o = absurd is
  sets env (Function f) is rest more h o = absurd is

  -- a store into a slot goes on
  sets_normal : (env : device.Environment) (place : Target) → IsSlot place
      → (more : Action Completion)
      → ((s : State) → source.and_then (more s) (λ _. pure Normal) ≡ more s)
      → (o : source.Outcome ℤ)
      → source.and_then (source.and_then o (λ a. assign env place a >> more)) (λ _. pure Normal)
      ≡ source.and_then o (λ a. assign env place a >> more)
  sets_normal env (Local slot) is more h (Done a t) =
      h (record t { slots = slice_set t.slots slot a })
  sets_normal env (Local slot) is more h (Stopped why t) = refl
  sets_normal env (Item i) is more h o = absurd is
  sets_normal env (Function f) is more h o = absurd is

  module _ (env : device.Environment) (block_of : Expr Target → Block) where
    abbrev pub IsMeant : Expr Target → Type 0
    IsMeant = Means block_of text machine env

    pub value_same : (e : Expr Target) → IsMeant e
        → Same (value_of text machine (block_of e)) (evaluate env e)
    value_same e means s = ap (one_operand s) (means s) ∙ one_pushed s (evaluate env e s)

    pub leaves_one : (e : Expr Target) → IsMeant e → LeavesOne text machine (block_of e)
    leaves_one e means s = subst OneOperand (sym (means s)) (one_is_left (evaluate env e s))

    pub alone_performs : (e : Expr Target) → (is_abort_call e ≡ false → IsMeant e)
        → Performs (alone_block block_of e) (evaluate env e)
    unfolding blocks.does act
    alone_performs e means s = by_test (is_abort_call e) refl
      where
        by_test : (b : Bool) → is_abort_call e ≡ b
            → does text machine (elim b as (λ _. Block) [
              | true ↦ Straight instruction.Abort
              | false ↦ popped block_of e
            ]) [] s ≡ dropped [] (evaluate env e s)
        by_test true is = ap (dropped []) (sym (abort_stops e is env s))
        by_test false is = ap (λ (o : Outcome State Halted). and_then o
            (does text machine (Straight instruction.Pop))) (means is s) ∙ pops (evaluate env e s)

    -- ---- declarations

    value_is_pushed : (value : Option (Expr Target)) → EachWritten IsMeant value → (s : State)
        → does text machine (initial_block (blocks_by block_of) value) [] s
        ≡ pushed [] (initial env value s)
    unfolding blocks.does act wrap
    value_is_pushed None means s = refl
    value_is_pushed (Some e) means s = means s

    pub declare_performs : (ds : List (Declarator Target)) → EachDeclared IsMeant ds
        → Performs (declare_block (blocks_by block_of) ds) (declare env ds)
    unfolding blocks.does
    declare_performs [] means s = refl
    declare_performs (d ∷ rest) means s =
        ap (λ (o : Outcome State Halted). and_then o
        (does text machine (Then (store_block d.place)
        (Then (Straight instruction.Pop) (declare_block (blocks_by block_of) rest)))))
        (value_is_pushed d.value means.1 s)
        ∙ sets env d.place means.0 (declare_block (blocks_by block_of) rest) (declare env rest)
        (declare_performs rest means.2) (initial env d.value s)

    pub declare_normal : (ds : List (Declarator Target)) → EachDeclared IsMeant ds
        → Same (declare env ds >> pure Normal) (declare env ds)
    declare_normal [] means s = refl
    declare_normal (d ∷ rest) means s = sets_normal env d.place means.0 (declare env rest)
        (declare_normal rest means.2) (initial env d.value s)
