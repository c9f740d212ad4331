-- The block of an expression of a method does what the expression means.
use Rattle.std.proofs.Common.{◌≡◌, refl, sym, ap, subst, ◌∙◌, arith, ℕ, suc, ◌≤◌, length, ℤ, pos, negsuc, Bool, true, false, List, [], ◌∷◌, ◌++◌, Option, Some, None}
use Rattle.std.specs.Prelude.{filter, option_map}
use Rattle.std.proofs.lemmas.Bool.{and_parts}
use Rattle.std.specs.List.{AllByRecursion}
use Rattle.edd_syntax.specs.declared.numbers.ItemNo.TheVariants as item_no
use Rattle.edd_syntax.specs.declared.numbers.MethNo.{MethNo}
use Rattle.edd_syntax.specs.declared.numbers.StrNo.{StrNo}
use Rattle.edd_syntax.specs.declared.numbers.VarNo.{VarNo}
use Rattle.edd_syntax.specs.declared.operators.Builtin.{Builtin}
use Rattle.edd_syntax.specs.declared.operators.Builtin.TheVariants as builtin
use Rattle.edd_syntax.specs.declared.reference.Target.{Target}
use Rattle.edd_syntax.specs.declared.reference.Target.TheVariants.{Item, Function}
use Rattle.edd_syntax.specs.Device as device
use Rattle.edd_syntax.specs.Text as texts
use Rattle.edd_syntax.specs.Expression.{Expr, Literal, Decimal, Reference, Indexed, Parentheses, Unary, Binary, Compare, LogicalAnd, LogicalOr, Conditional, Assign, CompoundAssign, Increment, Call, Text, Value, Arguments, Nil, Cons}
use Rattle.edd_syntax.specs.AbortMethods.{listed}
use Rattle.edd_syntax.specs.MethodState as source
use Rattle.edd_syntax.specs.MethodState.{State, Done, Stopped, Action, pure, ◌>>=◌, ◌>>◌, read, read_element, assign, ask}
use Rattle.edd_syntax.specs.Evaluation as gives
use Rattle.edd_syntax.specs.Evaluation.{Given, Number, Fitting, fitted_one, fitted, asked, referred, effect_of, call, evaluate, evaluate_all}
use Rattle.edd_syntax.specs.Strings.{expr_texts, argument_texts}
use Rattle.edd_syntax.specs.declared.operators.Parameter.{Parameter}
use Rattle.edd_syntax.specs.declared.operators.Parameter.TheVariants as parameter
use Rattle.edd_syntax.specs.declared.operators.RequestKind.{RequestKind}
use Rattle.edd_syntax.specs.Builtins.{is_number, numbers_taken, parameters, request_parameters}
use Rattle.edd_syntax.proofs.KnownByNumber.{few_numbers}
use Rattle.edd_syntax.specs.SubsetRules as rules
use Rattle.edd_syntax.specs.SubsetRules.{all_fit, is_device_variable, is_method, call_breaches, call_mismatches, argument_mismatches}
use Rattle.edd_syntax.specs.TwosComplement.{apply, operate, compare}
use Rattle.edd_syntax.specs.Words.{Words, words_of}
use Rattle.edd_instructions.specs.declared.instruction.Ask.{Ask}
use Rattle.edd_instructions.specs.declared.requests.RequestArgument.{RequestArgument}
use Rattle.edd_instructions.specs.Requests.{kind_asked, request_of, request_with}
use Rattle.edd_instructions.specs.declared.instruction.Instruction.TheVariants as instruction
use Rattle.edd_instructions.specs.Steps.{act, ask_with, go}
use Rattle.edd_code.specs.Blocks.{Block, Straight, Then, WhenNotZero, WhenZero, Either}
use Rattle.edd_code.specs.Expressions.{no_value, element_block, unary_block, truth_block, then_test, instead}
use Rattle.edd_code.specs.BlockEffects as blocks
use Rattle.edd_instructions.specs.Agreement.{machine_of}
use Rattle.edd_code.specs.Arguments.{asking, named_one, names_of}
use Rattle.edd_code.specs.Reports.{at, worded, words_told}
use Rattle.edd_code.specs.MethodEffects.{Halted, pushed, stops, when_known, outcome_of, unless_jump}
use Rattle.edd_code.specs.MethodExpressions.{load_block, store_block, ask_block, method_block, call_block, argument_block, argument_blocks, numbers_block}
use Rattle.edd_code.specs.Numbered.{IsNumbered}
use Rattle.edd_code.proofs.ExpressionActions.{Means, runs, one_means, two_mean, push_means, no_value_means, element_means, read_means, store_means, store_means_zero, unary_means, operate_means, compare_means, operate_then, increment_means, and_means, or_means, either_means}
use Rattle.edd_code.proofs.Asking.{arranged, arranged_so, asks_block, few_names, kind_so, names_fit}
use Rattle.edd_code.proofs.Fitting.{front_none, all_parts, fits, of_none, of_variable, of_variable_in, of_method, of_method_in, of_variable_number}

-- ---- actions, one after another

-- what a function does with two numbers
of_two : (o : source.Outcome ℤ) (m : Action ℤ) (x y : Option Target) (f : List Given → Action ℤ)
    → source.and_then (source.and_then o (λ a. (m >>= λ c. pure (Number c y ∷ []))
    >>= λ others. pure (Number a x ∷ others))) f
    ≡ source.and_then o (λ a. m >>= λ c. f (Number a x ∷ Number c y ∷ []))
of_two (Done a s) m x y f = inner (m s)
  where
    inner : (p : source.Outcome ℤ)
        → source.and_then (source.and_then (source.and_then p (λ c. pure (Number c y ∷ [])))
        (λ others. pure (Number a x ∷ others))) f
        ≡ source.and_then p (λ c. f (Number a x ∷ Number c y ∷ []))
    inner (Done c t) = refl
    inner (Stopped why t) = refl
of_two (Stopped why s) m x y f = refl

module _ (text : StrNo → Option Words) (number : Words → StrNo) (around : device.Environment) where
  -- the block means what the expression means
  abbrev IsMeant : Expr Target → Type 0
  IsMeant e = Means text around (method_block number e) (evaluate around e)

  abbrev AreMeant : Arguments Target → Type 0
  AreMeant Nil = Unit {0}
  AreMeant (Cons (Text t) rest) = IsNumbered text number t × AreMeant rest
  AreMeant (Cons (Value e) rest) = IsMeant e × AreMeant rest

  abbrev CallMeans : Builtin → Arguments Target → Type 0
  CallMeans f arguments = AreMeant arguments
      → Means text around (call_block number f arguments)
      (evaluate around (Call (Function f) arguments))

  -- ---- calls

  -- the same action
  as_meant : (b : Block) (m n : Action ℤ) → Means text around b m → ((s : State) → m s ≡ n s)
      → Means text around b n
  as_meant b m n is same = λ operands s. is operands s ∙ ap (pushed operands) (same s)

  -- ---- requests

  -- the numbers among what is given for parameters
  abbrev numbers_in : List Given → List Parameter → List ℤ
  numbers_in [] ps = []
  numbers_in (g ∷ given) [] = []
  numbers_in (gives.Text w ∷ given) (p ∷ ps) = numbers_in given ps
  numbers_in (Number z of ∷ given) (parameter.Number ∷ ps) = z ∷ numbers_in given ps
  numbers_in (Number z of ∷ given) (_ ∷ ps) = numbers_in given ps

  -- the first lies deepest
  abbrev stacked : List ℤ → List ℤ → List ℤ
  stacked [] operands = operands
  stacked (z ∷ numbers) operands = stacked numbers (z ∷ operands)

  -- the numbers of what is given on top of the operands
  abbrev all_pushed : List Parameter → List ℤ → source.Outcome (List Given)
      → blocks.Outcome State Halted
  all_pushed ps operands (Done given s) = blocks.Goes (stacked (numbers_in given ps) operands) s
  all_pushed ps operands (Stopped why s) = stops why s

  text_passed : (p : Parameter) (ps : List Parameter) (w : Words) (operands : List ℤ)
      (o : source.Outcome (List Given)) → all_pushed ps operands o
      ≡ all_pushed (p ∷ ps) operands (source.and_then o (λ others. pure (gives.Text w ∷ others)))
  text_passed p ps w operands (Done given s) = refl
  text_passed p ps w operands (Stopped why s) = refl

  number_passed : (ps : List Parameter) (z : ℤ) (of : Option Target) (operands : List ℤ)
      (o : source.Outcome (List Given)) → all_pushed ps (z ∷ operands) o
      ≡ all_pushed (parameter.Number ∷ ps) operands
      (source.and_then o (λ others. pure (Number z of ∷ others)))
  number_passed ps z of operands (Done given s) = refl
  number_passed ps z of operands (Stopped why s) = refl

  variable_passed : (ps : List Parameter) (z : ℤ) (of : Option Target) (operands : List ℤ)
      (o : source.Outcome (List Given)) → all_pushed ps operands o
      ≡ all_pushed (parameter.DeviceVariable ∷ ps) operands
      (source.and_then o (λ others. pure (Number z of ∷ others)))
  variable_passed ps z of operands (Done given s) = refl
  variable_passed ps z of operands (Stopped why s) = refl

  method_passed : (ps : List Parameter) (z : ℤ) (of : Option Target) (operands : List ℤ)
      (o : source.Outcome (List Given)) → all_pushed ps operands o
      ≡ all_pushed (parameter.Method ∷ ps) operands
      (source.and_then o (λ others. pure (Number z of ∷ others)))
  method_passed ps z of operands (Done given s) = refl
  method_passed ps z of operands (Stopped why s) = refl

  numbers_mean : (ps : List Parameter) (arguments : Arguments Target)
      → all_fit ps arguments ≡ true → AreMeant arguments → (operands : List ℤ) (s : State)
      → runs text around (numbers_block ps (argument_blocks number arguments)) operands s
      ≡ all_pushed ps operands (evaluate_all around arguments s)
  unfolding argument_block argument_blocks evaluate evaluate_all blocks.does
  numbers_mean [] Nil is mean operands s = refl
  numbers_mean [] (Cons x rest) is mean operands s = absurd cc
  numbers_mean (p ∷ ps) Nil is mean operands s = absurd cc
  numbers_mean (parameter.Number ∷ ps) (Cons (Text t) rest) is mean operands s = absurd cc
  numbers_mean (p ∷ ps) (Cons (Text t) rest) is mean operands s =
      numbers_mean ps rest (and_parts (rules.fits p (Text t)) (all_fit ps rest) is).1 mean.1
      operands s
      ∙ text_passed p ps (words_of t) operands (evaluate_all around rest s)
  numbers_mean (parameter.Text ∷ ps) (Cons (Value e) rest) is mean operands s = absurd cc
  numbers_mean (parameter.Number ∷ ps) (Cons (Value e) rest) is mean operands s =
      ap (λ (o : blocks.Outcome State Halted). blocks.and_then o
      (runs text around (numbers_block ps (argument_blocks number rest)))) (mean.0 operands s)
      ∙ by_value (numbers_mean ps rest is mean.1) (evaluate around e s)
    where
      by_value : ((operands : List ℤ) (s : State)
          → runs text around (numbers_block ps (argument_blocks number rest)) operands s
          ≡ all_pushed ps operands (evaluate_all around rest s)) → (o : source.Outcome ℤ)
          → blocks.and_then (pushed operands o)
          (runs text around (numbers_block ps (argument_blocks number rest)))
          ≡ all_pushed (parameter.Number ∷ ps) operands (source.and_then o
          (λ value. evaluate_all around rest
          >>= λ others. pure (Number value (referred e) ∷ others)))
      by_value next (Done z t) = next (z ∷ operands) t
          ∙ number_passed ps z (referred e) operands (evaluate_all around rest t)
      by_value next (Stopped why t) = refl
  numbers_mean (parameter.DeviceVariable ∷ ps) (Cons (Value e) rest) is mean operands s =
      let parts = and_parts (is_device_variable (Value e)) (all_fit ps rest) is in
      of_variable_in (λ x. runs text around (numbers_block (parameter.DeviceVariable ∷ ps) (argument_blocks number (Cons (Value x) rest))) operands s
      ≡ all_pushed (parameter.DeviceVariable ∷ ps) operands
      (evaluate_all around (Cons (Value x) rest) s))
      (λ v. numbers_mean ps rest parts.1 mean.1 operands s
      ∙ variable_passed ps _ _ operands (evaluate_all around rest s)) e parts.0
  numbers_mean (parameter.Method ∷ ps) (Cons (Value e) rest) is mean operands s =
      let parts = and_parts (is_method (Value e)) (all_fit ps rest) is in
      of_method_in (λ x. runs text around (numbers_block (parameter.Method ∷ ps) (argument_blocks number (Cons (Value x) rest))) operands s
      ≡ all_pushed (parameter.Method ∷ ps) operands
      (evaluate_all around (Cons (Value x) rest) s))
      (λ m. numbers_mean ps rest parts.1 mean.1 operands s
      ∙ method_passed ps _ _ operands (evaluate_all around rest s)) e parts.0

  -- what is given for arguments
  abbrev AreGiven : Arguments Target → List Given → Type 0
  AreGiven Nil [] = Unit {0}
  AreGiven (Cons (Text t) rest) (gives.Text w ∷ given) = (w ≡ words_of t) × AreGiven rest given
  AreGiven (Cons (Value e) rest) (Number z of ∷ given) = (of ≡ referred e) × AreGiven rest given
  AreGiven _ _ = ⊥

  abbrev given_in : source.Outcome (List Given) → List Given
  given_in (Done given s) = given
  given_in (Stopped why s) = []

  are_given : (arguments : Arguments Target) (s : State) (given : List Given) (t : State)
      → evaluate_all around arguments s ≡ Done given t → AreGiven arguments given
  unfolding evaluate_all
  are_given Nil s given t is = subst (AreGiven Nil) (ap given_in is) tt
  are_given (Cons (Text w) rest) s given t is =
      behind (evaluate_all around rest s) (are_given rest s) refl is
    where
      behind : (o : source.Outcome (List Given))
          → ((others : List Given) (u : State) → evaluate_all around rest s ≡ Done others u
          → AreGiven rest others)
          → evaluate_all around rest s ≡ o
          → source.and_then o (λ others. pure (gives.Text (words_of w) ∷ others)) ≡ Done given t
          → AreGiven (Cons (Text w) rest) given
      behind (Done others u) more e h = subst (AreGiven (Cons (Text w) rest)) (ap given_in h)
          (refl, more others u e)
      behind (Stopped why u) more e h = absurd cc
  are_given (Cons (Value x) rest) s given t is = first (evaluate around x s) (are_given rest) is
    where
      behind : (z : ℤ) (u : State) (o : source.Outcome (List Given))
          → ((others : List Given) (v : State) → evaluate_all around rest u ≡ Done others v
          → AreGiven rest others)
          → evaluate_all around rest u ≡ o
          → source.and_then o (λ others. pure (Number z (referred x) ∷ others)) ≡ Done given t
          → AreGiven (Cons (Value x) rest) given
      behind z u (Done others v) more e h = subst (AreGiven (Cons (Value x) rest)) (ap given_in h)
          (refl, more others v e)
      behind z u (Stopped why v) more e h = absurd cc

      first : (o : source.Outcome ℤ)
          → ((u : State) (others : List Given) (v : State) → evaluate_all around rest u
          ≡ Done others v → AreGiven rest others)
          → source.and_then o (λ value. evaluate_all around rest
          >>= λ others. pure (Number value (referred x) ∷ others)) ≡ Done given t
          → AreGiven (Cons (Value x) rest) given
      first (Done z u) more h = behind z u (evaluate_all around rest u) (more u) refl h
      first (Stopped why u) more h = absurd cc

  -- what is given fits the parameters, and the host is told the same by source and image
  abbrev IsTold : List Parameter → List ℕ → List Given → Type 0
  IsTold ps names given = (fitting : Fitting ps) × (fitted ps given ≡ Some fitting)
      × ((more : List ℕ) (others : List ℤ)
      → words_told text (arranged ps (names ++ more) (numbers_in given ps ++ others))
      ≡ Some (asked ps fitting))

  told : (ps : List Parameter) (arguments : Arguments Target) (given : List Given)
      → all_fit ps arguments ≡ true → AreMeant arguments → AreGiven arguments given
      → IsTold ps (names_of number ps arguments) given
  told [] Nil [] is mean are = (tt, refl, λ more others. refl)
  told [] Nil (g ∷ given) is mean are = absurd are
  told [] (Cons x rest) given is mean are = absurd cc
  told (p ∷ ps) Nil given is mean are = absurd cc
  told (p ∷ ps) (Cons (Text t) rest) [] is mean are = absurd are
  told (p ∷ ps) (Cons (Text t) rest) (Number z of ∷ given) is mean are = absurd are
  told (p ∷ ps) (Cons (Value e) rest) [] is mean are = absurd are
  told (p ∷ ps) (Cons (Value e) rest) (gives.Text w ∷ given) is mean are = absurd are
  told (parameter.Number ∷ ps) (Cons (Text t) rest) (gives.Text w ∷ given) is mean are = absurd cc
  told (parameter.DeviceVariable ∷ ps) (Cons (Text t) rest) (gives.Text w ∷ given) is mean are =
      absurd cc
  told (parameter.Method ∷ ps) (Cons (Text t) rest) (gives.Text w ∷ given) is mean are = absurd cc
  told (parameter.Text ∷ ps) (Cons (Text t) rest) (gives.Text w ∷ given) is mean are =
      let more = told ps rest given is mean.1 are.1 in (
        (w, more.0),
        ap (option_map (λ others. (w, others))) more.1,
        λ names numbers.
            let tail = words_told text (arranged ps (names_of number ps rest ++ names)
            (numbers_in given ps ++ numbers)) in
            ap (λ (o : Option Words). elim o [
              | None ↦ None
              | Some v ↦ option_map (λ others. source.TextArgument v ∷ others) tail
            ]) mean.0
            ∙ ap (option_map (λ others. source.TextArgument (words_of t) ∷ others))
            (more.2 names numbers)
            ∙ ap (λ v. Some (source.TextArgument v ∷ asked ps more.0)) (sym are.0),
      )
  told (parameter.Text ∷ ps) (Cons (Value e) rest) (Number z of ∷ given) is mean are = absurd cc
  told (parameter.Number ∷ ps) (Cons (Value e) rest) (Number z of ∷ given) is mean are =
      let more = told ps rest given is mean.1 are.1 in (
        (z, more.0),
        ap (option_map (λ others. (z, others))) more.1,
        λ names numbers. ap (option_map (λ others. source.NumberArgument z ∷ others))
            (more.2 names numbers),
      )
  told (parameter.DeviceVariable ∷ ps) (Cons (Value e) rest) (Number z of ∷ given) is mean are =
      let parts = and_parts (is_device_variable (Value e)) (all_fit ps rest) is in
      let more = told ps rest given parts.1 mean.1 are.1 in
      of_variable_in (λ x. of ≡ referred x
      → IsTold (parameter.DeviceVariable ∷ ps)
      (named_one number (Value x) parameter.DeviceVariable ++ names_of number ps rest)
      (Number z of ∷ given))
      (λ v so. (
        (record { variable = v; value = z }, more.0),
        ap (λ o. elim (fitted_one parameter.DeviceVariable (Number z o)) [
          | Some first ↦ option_map (λ others. (first, others)) (fitted ps given)
          | None ↦ None
        ]) so
            ∙ ap (option_map (λ others. (record { variable = v; value = z }, others))) more.1,
        λ names numbers. ap (option_map (λ others. source.VariableArgument v ∷ others))
            (more.2 names numbers),
      )) e parts.0 are.0
  told (parameter.Method ∷ ps) (Cons (Value e) rest) (Number z of ∷ given) is mean are =
      let parts = and_parts (is_method (Value e)) (all_fit ps rest) is in
      let more = told ps rest given parts.1 mean.1 are.1 in
      of_method_in (λ x. of ≡ referred x
      → IsTold (parameter.Method ∷ ps)
      (named_one number (Value x) parameter.Method ++ names_of number ps rest)
      (Number z of ∷ given))
      (λ m so. (
        (m, more.0),
        ap (λ o. elim (fitted_one parameter.Method (Number z o)) [
          | Some first ↦ option_map (λ others. (first, others)) (fitted ps given)
          | None ↦ None
        ]) so ∙ ap (option_map (λ others. (m, others))) more.1,
        more.2,
      )) e parts.0 are.0

  -- as many numbers are given as there are parameters for them
  numbers_given : (ps : List Parameter) (arguments : Arguments Target) (given : List Given)
      → all_fit ps arguments ≡ true → AreGiven arguments given
      → length (numbers_in given ps) ≡ length (filter is_number ps)
  numbers_given [] Nil [] is are = refl
  numbers_given [] Nil (g ∷ given) is are = absurd are
  numbers_given [] (Cons x rest) given is are = absurd cc
  numbers_given (p ∷ ps) Nil given is are = absurd cc
  numbers_given (p ∷ ps) (Cons (Text t) rest) [] is are = absurd are
  numbers_given (p ∷ ps) (Cons (Text t) rest) (Number z of ∷ given) is are = absurd are
  numbers_given (p ∷ ps) (Cons (Value e) rest) [] is are = absurd are
  numbers_given (p ∷ ps) (Cons (Value e) rest) (gives.Text w ∷ given) is are = absurd are
  numbers_given (parameter.Number ∷ ps) (Cons (Text t) rest) (gives.Text w ∷ given) is are =
      absurd cc
  numbers_given (p ∷ ps) (Cons (Text t) rest) (gives.Text w ∷ given) is are =
      numbers_given ps rest given (and_parts (rules.fits p (Text t)) (all_fit ps rest) is).1 are.1
  numbers_given (parameter.Number ∷ ps) (Cons (Value e) rest) (Number z of ∷ given) is are =
      ap (λ n. suc n) (numbers_given ps rest given is are.1)
  numbers_given (p ∷ ps) (Cons (Value e) rest) (Number z of ∷ given) is are =
      numbers_given ps rest given (and_parts (rules.fits p (Value e)) (all_fit ps rest) is).1 are.1

  -- an instruction has all names, where there are at most two
  all_named : (k : RequestKind) (names : List ℕ) → length names ≤ 2 → (more : List ℕ)
      × ((asking k names).first ∷ (asking k names).second ∷ [] ≡ names ++ more)
  all_named k [] few = (0 ∷ 0 ∷ [], refl)
  all_named k (n ∷ []) few = (0 ∷ [], refl)
  all_named k (n ∷ m ∷ []) few = ([], refl)
  all_named k (n ∷ m ∷ l ∷ names) few = absurd (omega arith)

  -- the machine makes the request that is told
  asks_told : (kind : RequestKind) (a : Ask) (numbers : List ℤ)
      (all : List source.RequestArgument) (operands : List ℤ) (s : State) → a.kind ≡ kind
      → length numbers ≡ numbers_taken kind
      → ((others : List ℤ) → words_told text (arranged (request_parameters kind)
      (a.first ∷ a.second ∷ []) (numbers ++ others)) ≡ Some all)
      → runs text around (ask_block a) (stacked numbers operands) s
      ≡ pushed operands (ask (record { kind = kind; arguments = all }) s)
  unfolding blocks.does act
  asks_told kind a numbers all operands s of enough are =
      ap (λ (n : ℕ). unless_jump None (outcome_of text (machine_of around) s
      (ask_with n a 0 (at [] 0 (stacked numbers operands) s))))
      (ap numbers_taken of ∙ sym enough)
      ∙ by_numbers numbers are (omega (arith, enough, few_numbers kind))
    where
      request_told : (x y : ℤ) → words_told text (arranged (request_parameters kind)
          (a.first ∷ a.second ∷ []) (x ∷ y ∷ [])) ≡ Some all
          → worded text (request_of a x y) ≡ Some (record { kind = kind; arguments = all })
      request_told x y is =
          ap (λ (k : RequestKind). worded text (request_with k a.first a.second x y)) of
          ∙ ap (λ (rs : List RequestArgument). option_map
          (λ more. record {
            kind = kind_asked (request_with kind a.first a.second x y);
            arguments = more;
          })
          (words_told text rs)) (arranged_so kind a.first a.second x y)
          ∙ ap (λ (k : RequestKind). option_map (λ more. record { kind = k; arguments = more })
          (words_told text (arranged (request_parameters kind) (a.first ∷ a.second ∷ [])
          (x ∷ y ∷ [])))) (kind_so kind a.first a.second x y)
          ∙ ap (option_map (λ more. record { kind = kind; arguments = more })) is

      by_numbers : (zs : List ℤ)
          → ((others : List ℤ) → words_told text (arranged (request_parameters kind)
          (a.first ∷ a.second ∷ []) (zs ++ others)) ≡ Some all)
          → length zs ≤ 2
          → unless_jump None (outcome_of text (machine_of around) s
          (ask_with (length zs) a 0 (at [] 0 (stacked zs operands) s)))
          ≡ pushed operands (ask (record { kind = kind; arguments = all }) s)
      by_numbers [] told few =
          ap (when_known operands s) (request_told (pos 0) (pos 0) (told (pos 0 ∷ pos 0 ∷ [])))
      by_numbers (x ∷ []) told few =
          ap (when_known operands s) (request_told x (pos 0) (told (pos 0 ∷ [])))
      by_numbers (x ∷ y ∷ []) told few = ap (when_known operands s) (request_told x y (told []))
      by_numbers (x ∷ y ∷ z ∷ zs) told few = absurd (omega arith)

  ask_means : (kind : RequestKind) (arguments : Arguments Target)
      → all_fit (request_parameters kind) arguments ≡ true
      → CallMeans (builtin.Ask kind) arguments
  unfolding evaluate evaluate_all call blocks.does
  ask_means kind arguments fit mean operands s =
      ap (λ (b : Block). runs text around b operands s) (asks_block number kind arguments fit)
      ∙ ap (λ (o : blocks.Outcome State Halted). blocks.and_then o
      (runs text around (ask_block asks)))
      (numbers_mean ps arguments fit mean operands s)
      ∙ by_given (evaluate_all around arguments s) refl
    where
      ps : List Parameter
      ps = request_parameters kind

      names : List ℕ
      names = names_of number ps arguments

      asks : Ask
      asks = asking kind names

      called : Option (Fitting ps) → Action ℤ
      called o = elim o [
        | Some x ↦ effect_of around (builtin.Ask kind) x
        | None ↦ pure (pos 0)
      ]

      by_given : (o : source.Outcome (List Given)) → evaluate_all around arguments s ≡ o
          → blocks.and_then (all_pushed ps operands o) (runs text around (ask_block asks))
          ≡ pushed operands (source.and_then o (call around (Function (builtin.Ask kind))))
      by_given (Done given t) is =
          let are = are_given arguments s given t is in
          let telling = told ps arguments given fit mean are in
          let enough = numbers_given ps arguments given fit are in
          let held = all_named kind names (omega (
            arith,
            names_fit number ps arguments fit,
            few_names kind,
          )) in
          asks_told kind asks (numbers_in given ps) (asked ps telling.0) operands t refl enough
          (λ others. ap (λ (ns : List ℕ). words_told text
          (arranged ps ns (numbers_in given ps ++ others))) held.1 ∙ telling.2 held.0 others)
          ∙ ap (λ (o : Option (Fitting ps)). pushed operands (called o t)) (sym telling.1)
      by_given (Stopped why t) is = refl

  ivar_value : (v : VarNo)
      → CallMeans builtin.IvarValue (Cons (Value (Reference (Item (item_no.Variable v)))) Nil)
  unfolding method_block call_block evaluate evaluate_all call
  ivar_value v is = read_means text around (Item (item_no.Variable v))

  lvar_value : (v : VarNo)
      → CallMeans builtin.LvarValue (Cons (Value (Reference (Item (item_no.Variable v)))) Nil)
  unfolding method_block call_block evaluate evaluate_all call
  lvar_value v is = read_means text around (Item (item_no.Variable v))

  iassign : (v : VarNo) (e : Expr Target)
      → CallMeans builtin.Iassign (Cons (Value (Reference (Item (item_no.Variable v))))
      (Cons (Value e) Nil))
  unfolding method_block call_block evaluate evaluate_all call
  iassign v e is =
      let to = Item (item_no.Variable v) in
      as_meant (Then (method_block number e)
      (Then (store_block to) (Then (Straight instruction.Pop) no_value)))
      (evaluate around e >>= λ a. assign around to a >> pure (pos 0)) _
      (one_means text around (method_block number e)
      (Then (store_block to) (Then (Straight instruction.Pop) no_value)) (evaluate around e)
      (λ a. assign around to a >> pure (pos 0)) is.1.0 (store_means_zero text around to))
      (λ s. sym (of_two (read to s) (evaluate around e) _ (referred e)
      (call around (Function builtin.Iassign))))

  lassign : (v : VarNo) (e : Expr Target)
      → CallMeans builtin.Lassign (Cons (Value (Reference (Item (item_no.Variable v))))
      (Cons (Value e) Nil))
  unfolding method_block call_block evaluate evaluate_all call
  lassign v e is =
      let to = Item (item_no.Variable v) in
      as_meant (Then (method_block number e)
      (Then (store_block to) (Then (Straight instruction.Pop) no_value)))
      (evaluate around e >>= λ a. assign around to a >> pure (pos 0)) _
      (one_means text around (method_block number e)
      (Then (store_block to) (Then (Straight instruction.Pop) no_value)) (evaluate around e)
      (λ a. assign around to a >> pure (pos 0)) is.1.0 (store_means_zero text around to))
      (λ s. sym (of_two (read to s) (evaluate around e) _ (referred e)
      (call around (Function builtin.Lassign))))

  abort : CallMeans builtin.Abort Nil
  unfolding method_block call_block evaluate evaluate_all call blocks.does act
  abort is = λ operands s. refl

  process_abort : CallMeans builtin.ProcessAbort Nil
  unfolding method_block call_block evaluate evaluate_all call blocks.does act
  process_abort is = λ operands s. refl

  add_abort_method : (m : MethNo)
      → CallMeans builtin.AddAbortMethod (Cons (Value (Reference (Item (item_no.Method m)))) Nil)
  unfolding method_block call_block evaluate evaluate_all call blocks.does act
  add_abort_method m is = λ operands s. by_list operands s
      (listed s.is_aborting s.abort_methods m)
    where
      by_list : (operands : List ℤ) (s : State) (o : Option (List MethNo))
          → unless_jump None (outcome_of text (machine_of around) s (elim o [
            | Some methods ↦ go (record (at [] 0 operands s) { abort_methods = methods }) 0
                (pos 0 ∷ operands)
            | None ↦ go (at [] 0 operands s) 0 (negsuc 0 ∷ operands)
          ]))
          ≡ pushed operands (elim o [
            | Some methods ↦ Done (pos 0) (record s { abort_methods = methods })
            | None ↦ Done (negsuc 0) s
          ])
      by_list operands s (Some methods) = refl
      by_list operands s None = refl

  call_means : (f : Builtin) (arguments : Arguments Target) → all_fit (parameters f) arguments
      ≡ true → CallMeans f arguments
  call_means (builtin.Ask kind) = ask_means kind
  call_means builtin.IvarValue = of_variable (CallMeans builtin.IvarValue) ivar_value
  call_means builtin.LvarValue = of_variable (CallMeans builtin.LvarValue) lvar_value
  call_means builtin.Iassign = of_variable_number (CallMeans builtin.Iassign) iassign
  call_means builtin.Lassign = of_variable_number (CallMeans builtin.Lassign) lassign
  call_means builtin.Abort = of_none (CallMeans builtin.Abort) abort
  call_means builtin.ProcessAbort = of_none (CallMeans builtin.ProcessAbort) process_abort
  call_means builtin.AddAbortMethod = of_method (CallMeans builtin.AddAbortMethod) add_abort_method

  -- ---- expressions

  numbered_parts : (xs ys : List texts.Text) → AllByRecursion (IsNumbered text number) (xs ++ ys)
      → AllByRecursion (IsNumbered text number) xs × AllByRecursion (IsNumbered text number) ys
  numbered_parts = all_parts (IsNumbered text number)

  mutual
    unfolding method_block evaluate

    pub means : (is_statement : Bool) (e : Expr Target) → call_mismatches is_statement e ≡ []
        → AllByRecursion (IsNumbered text number) (expr_texts e) → IsMeant e
    means b (Literal value) fit known = push_means text around value
    means b Decimal fit known = no_value_means text around
    means b (Reference from) fit known = read_means text around from
    means b (Indexed array index) fit known =
        one_means text around (method_block number index) (element_block array)
        (evaluate around index) (read_element around array)
        (means false index fit known) (element_means text around array)
    means b (Parentheses inner) fit known = means false inner fit known
    means b (Unary op operand) fit known =
        one_means text around (method_block number operand) (unary_block op)
        (evaluate around operand) (λ a. pure (apply 32 op a)) (means false operand fit known)
        (unary_means text around op)
    means b (Binary op left right) fit known =
        let fits = front_none (call_mismatches false left) (call_mismatches false right) fit in
        let parts = numbered_parts (expr_texts left) (expr_texts right) known in
        two_mean text around (method_block number left) (method_block number right)
        (Straight (instruction.Operate op)) (evaluate around left) (evaluate around right)
        (λ x y. source.number (operate 32 op x y))
        (means false left fits.0 parts.0) (means false right fits.1 parts.1)
        (operate_means text around op)
    means b (Compare by left right) fit known =
        let fits = front_none (call_mismatches false left) (call_mismatches false right) fit in
        let parts = numbered_parts (expr_texts left) (expr_texts right) known in
        two_mean text around (method_block number left) (method_block number right)
        (Straight (instruction.Compare by)) (evaluate around left) (evaluate around right)
        (λ x y. pure (compare by x y))
        (means false left fits.0 parts.0) (means false right fits.1 parts.1)
        (compare_means text around by)
    means b (LogicalAnd left right) fit known =
        let fits = front_none (call_mismatches false left) (call_mismatches false right) fit in
        let parts = numbered_parts (expr_texts left) (expr_texts right) known in
        one_means text around (method_block number left)
        (then_test (WhenNotZero (instead (method_block number right)))) (evaluate around left) _
        (means false left fits.0 parts.0)
        (and_means text around (method_block number right) (evaluate around right)
        (means false right fits.1 parts.1))
    means b (LogicalOr left right) fit known =
        let fits = front_none (call_mismatches false left) (call_mismatches false right) fit in
        let parts = numbered_parts (expr_texts left) (expr_texts right) known in
        one_means text around (method_block number left)
        (Then truth_block (then_test (WhenZero (instead (method_block number right)))))
        (evaluate around left) _ (means false left fits.0 parts.0)
        (or_means text around (method_block number right) (evaluate around right)
        (means false right fits.1 parts.1))
    means b (Conditional test first second) fit known =
        let fits = front_none (call_mismatches false test) (call_mismatches false first
        ++ call_mismatches false second) fit in
        let both = front_none (call_mismatches false first) (call_mismatches false second) fits.1 in
        let parts = numbered_parts (expr_texts test) (expr_texts first ++ expr_texts second)
        known in
        let rest = numbered_parts (expr_texts first) (expr_texts second) parts.1 in
        one_means text around (method_block number test)
        (Either (method_block number first) (method_block number second)) (evaluate around test)
        _ (means false test fits.0 parts.0)
        (either_means text around (method_block number first) (method_block number second)
        (evaluate around first) (evaluate around second) (means false first both.0 rest.0)
        (means false second both.1 rest.1))
    means b (Assign to value) fit known =
        one_means text around (method_block number value) (store_block to) (evaluate around value)
        (assign around to) (means false value fit known) (store_means text around to)
    means b (CompoundAssign op to value) fit known =
        two_mean text around (load_block to) (method_block number value)
        (Then (Straight (instruction.Operate op)) (store_block to)) (read to)
        (evaluate around value) (λ x y. source.number (operate 32 op x y) >>= assign around to)
        (read_means text around to) (means false value fit known)
        (operate_then text around op (store_block to) (assign around to)
        (store_means text around to))
    means b (Increment op to) fit known = increment_means text around op to
    means b (Call (Function f) arguments) fit known =
        let parts = front_none (call_breaches b (Function f) arguments)
        (argument_mismatches arguments) fit in
        call_means f arguments (fits b f arguments parts.0).0 (all_mean arguments parts.1 known)
    means b (Call _ arguments) fit known = absurd cc

    all_mean : (arguments : Arguments Target) → argument_mismatches arguments ≡ []
        → AllByRecursion (IsNumbered text number) (argument_texts arguments) → AreMeant arguments
    all_mean Nil fit known = tt
    all_mean (Cons (Text t) rest) fit known = (known.0, all_mean rest fit known.1)
    all_mean (Cons (Value e) rest) fit known =
        let parts = front_none (call_mismatches false e) (argument_mismatches rest) fit in
        let numbers = numbered_parts (expr_texts e) (argument_texts rest) known in
        (means false e parts.0 numbers.0, all_mean rest parts.1 numbers.1)
