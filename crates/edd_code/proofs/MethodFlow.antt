-- The block of an expression of a method finds its operands, and leaves one.
use Rattle.std.proofs.Common.{◌≡◌, refl, sym, subst, List, ◌∷◌, length, ℕ, suc, ◌+◌, ◌≤◌, Bool, true, false, [], ◌++◌, arith}
use Rattle.std.specs.Prelude.{◌&&◌, filter}
use Rattle.std.proofs.lemmas.Bool.{and_parts}
use Rattle.edd_syntax.specs.declared.numbers.ItemNo.TheVariants as item_no
use Rattle.edd_syntax.specs.declared.numbers.StrNo.{StrNo}
use Rattle.edd_syntax.specs.declared.operators.Builtin.{Builtin}
use Rattle.edd_syntax.specs.declared.operators.Builtin.TheVariants as builtin
use Rattle.edd_syntax.specs.declared.reference.Target.{Target}
use Rattle.edd_syntax.specs.declared.reference.Target.TheVariants.{Item, Function}
use Rattle.edd_syntax.specs.Expression.{Expr, Literal, Decimal, Reference, Indexed, Parentheses, Unary, Binary, Compare, LogicalAnd, LogicalOr, Conditional, Assign, CompoundAssign, Increment, Call, Text, Value, Arguments, Nil, Cons}
use Rattle.edd_syntax.specs.Size.{height, argument_height}
use Rattle.edd_syntax.specs.declared.operators.Parameter.{Parameter}
use Rattle.edd_syntax.specs.declared.operators.Parameter.TheVariants as parameter
use Rattle.edd_syntax.specs.Builtins.{is_number, numbers_taken, parameters, request_parameters}
use Rattle.edd_syntax.proofs.KnownByNumber.{few_numbers}
use Rattle.edd_syntax.specs.SubsetRules as rules
use Rattle.edd_syntax.specs.SubsetRules.{all_fit, is_abort, call_breaches, call_mismatches, argument_mismatches}
use Rattle.edd_syntax.specs.Words.{Words}
use Rattle.edd_instructions.specs.declared.instruction.Instruction.TheVariants as instruction
use Rattle.edd_code.specs.Arguments.{asking, names_of}
use Rattle.edd_code.specs.Blocks.{Nothing, Straight, Then, WhenNotZero, WhenZero, Either}
use Rattle.edd_code.specs.Expressions.{no_value, element_block, unary_block, truth_block, then_test, instead}
use Rattle.edd_code.specs.MethodExpressions.{load_block, store_block, ask_block, method_block, call_block, argument_block, argument_blocks, numbers_block}
use Rattle.edd_code.proofs.Asking.{asks_block}
use Rattle.edd_code.proofs.BlockFlow.{Runs, nothing_runs, straight_runs, then_runs, either_runs, push_runs, join_runs, pop_runs, no_value_runs, element_runs, read_runs, store_runs, unary_runs, operate_runs, two_run, increment_runs, and_runs, or_runs}
use Rattle.edd_code.proofs.Fitting.{front_none, fits, of_variable, of_method, of_variable_number}

high : (e : Expr Target) → 1 ≤ height e
high (Literal value) = omega arith
high _ = omega arith

no_abort : (b : Bool) → (b && true) ≡ false → b ≡ false
no_abort false h = refl
no_abort true h = absurd cc

zero_more : (d : ℕ) → d + 0 ≡ d
zero_more d = omega arith

suc_more : (d n : ℕ) → d + suc n ≡ suc d + n
suc_more d n = omega arith

module _ (number : Words → StrNo) where
  -- two operands more than the expression is high are enough: so many `x++` needs
  abbrev IsRun : Expr Target → Type 0
  IsRun e = (d : ℕ) → d + height e + 2 ≤ 128 → Runs (method_block number e) d (suc d)

  abbrev AreRun : Arguments Target → Type 0
  AreRun Nil = Unit {0}
  AreRun (Cons (Text t) rest) = AreRun rest
  AreRun (Cons (Value e) rest) = IsRun e × AreRun rest

  abbrev CallRuns : Builtin → Arguments Target → Type 0
  CallRuns f arguments = AreRun arguments → (d : ℕ) → d + (1 + argument_height arguments) + 2 ≤ 128
      → Runs (call_block number f arguments) d (suc d)

  -- ---- calls

  zero_behind : (e : Expr Target) (to : Target) → IsRun e → (d : ℕ) → d + height e + 2 ≤ 128
      → Runs (Then (method_block number e)
      (Then (store_block to) (Then (Straight instruction.Pop) no_value))) d (suc d)
  zero_behind e to is d few =
      then_runs (method_block number e)
      (Then (store_block to) (Then (Straight instruction.Pop) no_value)) d (suc d) (suc d)
      (is d few)
      (then_runs (store_block to) (Then (Straight instruction.Pop) no_value) (suc d) (suc d) (suc d)
      (store_runs to d (omega arith))
      (then_runs (Straight instruction.Pop) no_value (suc d) d (suc d) (pop_runs d (omega arith))
      (no_value_runs d (omega arith))))

  -- each number is one operand more
  numbers_run : (ps : List Parameter) (arguments : Arguments Target) → all_fit ps arguments ≡ true
      → AreRun arguments → (d : ℕ)
      → d + length (filter is_number ps) + (argument_height arguments + 1) ≤ 128
      → Runs (numbers_block ps (argument_blocks number arguments)) d (d + length (filter is_number ps))
  unfolding argument_block argument_blocks
  numbers_run [] arguments is run d few = subst (λ m. Runs Nothing d m) (sym (zero_more d)) (nothing_runs d)
  numbers_run (p ∷ ps) Nil is run d few = absurd cc
  numbers_run (parameter.Text ∷ ps) (Cons (Text t) rest) is run d few =
      then_runs Nothing (numbers_block ps (argument_blocks number rest)) d d (d + length (filter is_number ps))
      (nothing_runs d) (numbers_run ps rest is run d (omega arith))
  numbers_run (parameter.Number ∷ ps) (Cons (Text t) rest) is run d few = absurd cc
  numbers_run (parameter.DeviceVariable ∷ ps) (Cons (Text t) rest) is run d few = absurd cc
  numbers_run (parameter.Method ∷ ps) (Cons (Text t) rest) is run d few = absurd cc
  numbers_run (parameter.Number ∷ ps) (Cons (Value e) rest) is run d few =
      let n = length (filter is_number ps) in
      then_runs (method_block number e) (numbers_block ps (argument_blocks number rest)) d (suc d) (d + suc n)
      (run.0 d (omega arith))
      (subst (λ m. Runs (numbers_block ps (argument_blocks number rest)) (suc d) m)
      (sym (suc_more d n)) (numbers_run ps rest is run.1 (suc d) (omega arith)))
  numbers_run (parameter.Text ∷ ps) (Cons (Value e) rest) is run d few = absurd cc
  numbers_run (p ∷ ps) (Cons (Value e) rest) is run d few =
      then_runs Nothing (numbers_block ps (argument_blocks number rest)) d d (d + length (filter is_number ps))
      (nothing_runs d)
      (numbers_run ps rest (and_parts (rules.fits p (Value e)) (all_fit ps rest) is).1 run.1 d (omega arith))

  call_runs : (f : Builtin) (arguments : Arguments Target) → is_abort f ≡ false
      → all_fit (parameters f) arguments ≡ true → CallRuns f arguments
  unfolding method_block call_block
  call_runs (builtin.Ask kind) arguments here is = λ run d few.
      let ps = request_parameters kind in
      let a = asking kind (names_of number ps arguments) in
      rw (asks_block number kind arguments is)
      (then_runs (numbers_block ps (argument_blocks number arguments)) (ask_block a) d (d + numbers_taken kind) (suc d)
      (numbers_run ps arguments is run d (omega (arith, few, few_numbers kind)))
      (straight_runs (instruction.Ask a) (d + numbers_taken kind) (suc d) refl (omega arith)
      (omega (arith, few, few_numbers kind)) (omega arith)))
  call_runs builtin.IvarValue arguments here is = of_variable (CallRuns builtin.IvarValue)
      (λ v run d few. read_runs (Item (item_no.Variable v)) d (omega arith)) arguments is
  call_runs builtin.LvarValue arguments here is = of_variable (CallRuns builtin.LvarValue)
      (λ v run d few. read_runs (Item (item_no.Variable v)) d (omega arith)) arguments is
  call_runs builtin.Iassign arguments here is = of_variable_number (CallRuns builtin.Iassign)
      (λ v e run d few. zero_behind e (Item (item_no.Variable v)) run.1.0 d (omega arith)) arguments
      is
  call_runs builtin.Lassign arguments here is = of_variable_number (CallRuns builtin.Lassign)
      (λ v e run d few. zero_behind e (Item (item_no.Variable v)) run.1.0 d (omega arith)) arguments
      is
  call_runs builtin.Abort arguments here is = absurd cc
  call_runs builtin.ProcessAbort arguments here is = absurd cc
  call_runs builtin.AddAbortMethod arguments here is = of_method (CallRuns builtin.AddAbortMethod)
      (λ m run d few. push_runs (instruction.AddAbortMethod m) d refl refl refl (omega arith))
      arguments is

  -- ---- expressions

  mutual
    unfolding method_block

    pub method_runs : (e : Expr Target) → call_mismatches false e ≡ [] → IsRun e
    method_runs (Literal value) fit d h = push_runs (instruction.Push value) d refl refl refl
        (omega arith)
    method_runs Decimal fit d h = no_value_runs d (omega arith)
    method_runs (Reference from) fit d h = read_runs from d (omega arith)
    method_runs (Indexed array index) fit d h =
        then_runs (method_block number index) (element_block array) d (suc d) (suc d)
        (method_runs index fit d (omega arith))
        (element_runs array d (omega arith))
    method_runs (Parentheses inner) fit d h = method_runs inner fit d (omega arith)
    method_runs (Unary op operand) fit d h = then_runs (method_block number operand)
        (unary_block op) d (suc d) (suc d) (method_runs operand fit d (omega arith))
        (unary_runs op d (omega arith))
    method_runs (Binary op left right) fit d h =
        let fits = front_none (call_mismatches false left) (call_mismatches false right) fit in
        two_run d (method_runs left fits.0 d (omega arith)) (method_runs right fits.1 (suc d)
        (omega arith)) (operate_runs op d (omega (arith, high right)))
    method_runs (Compare by left right) fit d h =
        let fits = front_none (call_mismatches false left) (call_mismatches false right) fit in
        two_run d (method_runs left fits.0 d (omega arith)) (method_runs right fits.1 (suc d) (omega
        arith)) (join_runs (instruction.Compare by) d refl refl refl (omega (arith, high right)))
    method_runs (LogicalAnd left right) fit d h =
        let fits = front_none (call_mismatches false left) (call_mismatches false right) fit in
        then_runs (method_block number left) (then_test (WhenNotZero (instead
        (method_block number right)))) d (suc d) (suc d) (method_runs left fits.0 d (omega arith))
        (and_runs d (omega arith) (method_runs right fits.1 d (omega arith)))
    method_runs (LogicalOr left right) fit d h =
        let fits = front_none (call_mismatches false left) (call_mismatches false right) fit in
        then_runs (method_block number left) (Then truth_block (then_test
        (WhenZero (instead (method_block number right))))) d (suc d) (suc d) (method_runs left
        fits.0 d (omega arith)) (or_runs d (omega arith) (method_runs right fits.1 d (omega arith)))
    method_runs (Conditional test first second) fit d h =
        let fits = front_none (call_mismatches false test) (call_mismatches false first
        ++ call_mismatches false second) fit in
        let both = front_none (call_mismatches false first) (call_mismatches false second) fits.1 in
        then_runs (method_block number test) (Either (method_block number first)
        (method_block number second)) d (suc d) (suc d) (method_runs test fits.0 d (omega arith))
        (either_runs (suc d) d (suc d) refl (omega arith) (omega arith)
        (method_runs first both.0 d (omega arith)) (method_runs second both.1 d (omega arith)))
    method_runs (Assign to value) fit d h = then_runs (method_block number value) (store_block to) d
        (suc d) (suc d) (method_runs value fit d (omega arith)) (store_runs to d (omega arith))
    method_runs (CompoundAssign op to value) fit d h =
        two_run d (read_runs to d (omega arith)) (method_runs value fit (suc d) (omega arith))
        (then_runs (Straight (instruction.Operate op)) (store_block to) (suc (suc d)) (suc d)
        (suc d) (operate_runs op d (omega arith)) (store_runs to d (omega arith)))
    method_runs (Increment op to) fit d h = increment_runs op to d (omega arith)
    method_runs (Call (Function f) arguments) fit d h =
        let parts = front_none (call_breaches false (Function f) arguments)
        (argument_mismatches arguments) fit in
        let fitting = fits false f arguments parts.0 in
        call_runs f arguments (no_abort (is_abort f) fitting.1) fitting.0
        (all_run arguments parts.1) d h
    method_runs (Call _ arguments) fit d h = absurd cc

    all_run : (arguments : Arguments Target) → argument_mismatches arguments ≡ [] → AreRun arguments
    all_run Nil fit = tt
    all_run (Cons (Text t) rest) fit = all_run rest fit
    all_run (Cons (Value e) rest) fit =
        let parts = front_none (call_mismatches false e) (argument_mismatches rest) fit in
        (method_runs e parts.0, all_run rest parts.1)
