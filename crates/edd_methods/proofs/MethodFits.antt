-- The blocks of a checked method's expressions find their operands, and may be in it.
use Rattle.std.proofs.Common.{◌≡◌, refl, ℕ, Bool, true, false, List, [], ◌∷◌, Option, Some, None, arith}
use Rattle.std.specs.Prelude.{◌&&◌}
use Rattle.std.specs.List.{AllByRecursion}
use Rattle.std.proofs.Math.Logic.{inl, inr}
use Rattle.std.proofs.lemmas.Bool.{lt-ltb, and_from}
use Rattle.edd_syntax.specs.declared.operators.Builtin.{Builtin}
use Rattle.edd_syntax.specs.declared.operators.Builtin.TheVariants as builtin
use Rattle.edd_syntax.specs.declared.numbers.StrNo.{StrNo}
use Rattle.edd_syntax.specs.declared.reference.Target.{Target}
use Rattle.edd_syntax.specs.declared.reference.Target.TheVariants.{Local, Function}
use Rattle.edd_syntax.specs.Expression as expr
use Rattle.edd_syntax.specs.Expression.{Expr, Literal, Decimal, Reference, Indexed, Parentheses, Unary, Binary, Compare, LogicalAnd, LogicalOr, Conditional, Assign, CompoundAssign, Increment, Call, Arguments}
use Rattle.edd_syntax.specs.Statement.{Declarator}
use Rattle.edd_syntax.specs.Builtins.{parameters}
use Rattle.edd_syntax.specs.SubsetRules.{Placed, all_fit, is_abort, call_breaches, call_mismatches, argument_mismatches}
use Rattle.edd_syntax.specs.Words.{Words}
use Rattle.edd_instructions.specs.declared.instruction.Instruction.TheVariants as instruction
use Rattle.edd_instructions.specs.declared.unit.Context.{Context}
use Rattle.edd_image.specs.declared.parts.Counts.{Counts}
use Rattle.edd_instructions.specs.declared.unit.Sort.TheVariants.{Method}
use Rattle.edd_image.specs.declared.versions.Version.{Version}
use Rattle.edd_code.specs.Blocks.{Block, Straight, Then}
use Rattle.edd_code.specs.Flow.{all_straight, may_stand}
use Rattle.edd_code.specs.MethodExpressions.{method_block, store_block}
use Rattle.edd_code.proofs.BlockFlow.{Runs, then_runs, push_runs, pop_runs, store_runs}
use Rattle.edd_code.proofs.Fitting.{front_none, fits}
use Rattle.edd_code.proofs.MethodFlow.{method_runs}
use Rattle.edd_methods.specs.StatementCode.{popped, alone_block, blocks_by}
use Rattle.edd_methods.specs.TreeCode.{initial_block, declare_block}
use Rattle.edd_methods.specs.TreeExpressions.{is_abort_call, IsSlotBelow, EachWritten, EachDeclared, EachSlotOf, UnlessAbort}
use Rattle.edd_methods.proofs.CheckedMethods.{Stands}
use Rattle.edd_methods.specs.CodeFlow.{Leaves, Rests, Gives}
use Rattle.edd_methods.proofs.ResolvedHeights.{NoneHigher}

-- ---- what is no abort fits also where it is no whole statement

no_abort : (b : Bool) → (b && true) ≡ false → b ≡ false
no_abort false h = refl
no_abort true h = absurd (cc h)

-- an abort that fits has no arguments
not_aborting : (f : Builtin) (arguments : Arguments Target) → all_fit (parameters f) arguments
    ≡ true → is_abort_call (Call (Function f) arguments) ≡ false → is_abort f ≡ false
not_aborting f expr.Nil fit is = is
not_aborting builtin.Abort (expr.Cons first rest) fit is = absurd (cc fit)
not_aborting builtin.ProcessAbort (expr.Cons first rest) fit is = absurd (cc fit)
not_aborting _ (expr.Cons first rest) fit is = refl

call_fits : (s : Bool) (f : Builtin) (arguments : Arguments Target)
    → call_mismatches s (Call (Function f) arguments) ≡ []
    → (s && is_abort_call (Call (Function f) arguments)) ≡ false
    → call_mismatches false (Call (Function f) arguments) ≡ []
call_fits false f arguments fit is = fit
call_fits true f arguments fit is =
    let parts = front_none (call_breaches true (Function f) arguments)
    (argument_mismatches arguments) fit in
    let fitting = (fits true f arguments parts.0).0 in
    rw (fitting, not_aborting f arguments fitting is, parts.1) refl

value_fits : (s : Bool) (e : Expr Target) → call_mismatches s e ≡ [] → (s && is_abort_call e)
    ≡ false → call_mismatches false e ≡ []
value_fits s (Literal value) fit is = fit
value_fits s Decimal fit is = fit
value_fits s (Reference from) fit is = fit
value_fits s (Indexed array index) fit is = fit
value_fits s (Parentheses inner) fit is = fit
value_fits s (Unary op operand) fit is = fit
value_fits s (Binary op left right) fit is = fit
value_fits s (Compare by left right) fit is = fit
value_fits s (LogicalAnd left right) fit is = fit
value_fits s (LogicalOr left right) fit is = fit
value_fits s (Conditional test first second) fit is = fit
value_fits s (Assign to value) fit is = fit
value_fits s (CompoundAssign op to value) fit is = fit
value_fits s (Increment op to) fit is = fit
value_fits s (Call (Function f) arguments) fit is = call_fits s f arguments fit is
value_fits s (Call _ arguments) fit is = absurd cc

-- ---- blocks

leaves : (n : ℕ) {b : Block} → Runs b 0 n → Leaves n b
leaves n runs = (runs.flows, runs.after)

runs_so : (n : ℕ) (b : Block) → Leaves n b → Runs b 0 n
runs_so n b has = record { flows = has.0; after = has.1 }

module _ (version : Version) (counts : Counts) (slots : ℕ) (number : Words → StrNo) where
  abbrev context : Context
  context = record { version = version; counts = counts; sort = Method; slots = slots }

  abbrev Named : Block → Type 0
  Named b = all_straight (may_stand context) b ≡ true

  -- it finds its operands and names what exists, where it leaves nothing, and where it leaves one
  -- operand
  abbrev pub RestsThere : Block → Type 0
  RestsThere b = Rests b × Named b

  abbrev pub GivesThere : Block → Type 0
  GivesThere b = Gives b × Named b

  -- so does the block of an expression
  abbrev pub IsThere : Expr Target → Type 0
  IsThere e = GivesThere (method_block number e)

  pub effect_there : (e : Expr Target) → (is_abort_call e ≡ false → IsThere e)
      → RestsThere (alone_block (method_block number) e)
  effect_there e ok = by_test (is_abort_call e) refl
    where
      by_test : (b : Bool) → is_abort_call e ≡ b
          → RestsThere (elim b as (λ _. Block) [
            | true ↦ Straight instruction.Abort
            | false ↦ popped (method_block number) e
          ])
      by_test true is = (inl refl, refl)
      by_test false is =
          let there = ok is in (
            inr (leaves 0 (then_runs (method_block number e) (Straight instruction.Pop) 0 1 0
                (runs_so 1 (method_block number e) there.0) (pop_runs 0 (omega arith)))),
            and_from _ true there.1 refl,
          )

  initial_there : (e : Option (Expr Target)) → EachWritten IsThere e
      → GivesThere (initial_block (blocks_by (method_block number)) e)
  initial_there None ok = (
    leaves 1 (push_runs (instruction.Push 0) 0 refl refl refl (omega arith)),
    refl,
  )
  initial_there (Some e) ok = ok

  store_named : (place : Target) → IsSlotBelow slots place → Named (store_block place)
  store_named (Local slot) is = lt-ltb slot slots is
  store_named _ is = absurd is

  declared_there : (ds : List (Declarator Target)) → EachSlotOf slots ds
      → EachDeclared IsThere ds
      → Runs (declare_block (blocks_by (method_block number)) ds) 0 0
      × Named (declare_block (blocks_by (method_block number)) ds)
  declared_there [] stored ok = (record { flows = tt; after = refl }, refl)
  declared_there (d ∷ rest) stored ok =
      let given = blocks_by (method_block number) in
      let first = initial_block given d.value in
      let store = store_block d.place in
      let behind = declare_block given rest in
      let pop = Straight instruction.Pop in
      let one = initial_there d.value ok.1 in
      let more = declared_there rest stored.1 ok.2 in (
        then_runs first (Then store (Then pop behind)) 0 1 0 (runs_so 1 first one.0)
            (then_runs store (Then pop behind) 1 1 0 (store_runs d.place 0 (omega arith))
            (then_runs pop behind 1 0 0 (pop_runs 0 (omega arith)) more.0)),
        and_from _ _ one.1 (and_from _ _ (store_named d.place stored.0)
            (and_from true _ refl more.1)),
      )

  pub declares_there : (ds : List (Declarator Target)) → EachSlotOf slots ds
      → EachDeclared IsThere ds → RestsThere (declare_block (blocks_by (method_block number)) ds)
  declares_there ds stored ok = let there =
      declared_there ds stored ok in (inr (leaves 0 there.0), there.1)

  -- ---- the expressions of a body

  pub all_there : (ps : List (Placed Target))
      → AllByRecursion (λ p. call_mismatches p.is_statement p.expression ≡ []) ps
      → NoneHigher 100 ps
      → AllByRecursion (λ p. Stands context number p.expression) ps
      → AllByRecursion (UnlessAbort IsThere) ps
  all_there [] fit low stand = tt
  all_there (p ∷ ps) fit low stand = (
    λ is. (
      leaves 1 (method_runs number p.expression (value_fits p.is_statement p.expression fit.0 is) 0
          (omega (arith, low.0))),
      stand.0.1,
    ),
    all_there ps fit.1 low.1 stand.1,
  )
