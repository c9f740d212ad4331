-- The operands of the block of an expression of a method are in their ranges, and what it names
-- exists.
use Rattle.std.proofs.Common.{◌≡◌, refl, subst, ℕ, zero, suc, ◌<◌, ◌≤◌, ◌^◌, Bool, true, false, List, [], ◌∷◌, ◌++◌, length, arith}
use Rattle.std.specs.Prelude.{◌&&◌, ◌||◌, nat_lt, slice_index_or}
use Rattle.std.specs.List.{AllByRecursion}
use Rattle.std.proofs.lemmas.Bool.{ltb-true, and_parts, and_from, or_left, or_right}
use Rattle.edd_syntax.specs.declared.numbers.ItemNo.{ItemNo}
use Rattle.edd_syntax.specs.declared.numbers.ItemNo.TheVariants as item_no
use Rattle.edd_syntax.specs.declared.numbers.StrNo.{StrNo}
use Rattle.edd_syntax.specs.declared.numbers.VarNo.{VarNo}
use Rattle.edd_syntax.specs.declared.numbers.ArrNo.{ArrNo}
use Rattle.edd_syntax.specs.declared.numbers.MethNo.{MethNo}
use Rattle.edd_syntax.specs.declared.operators.Builtin.{Builtin}
use Rattle.edd_syntax.specs.declared.operators.Builtin.TheVariants as builtin
use Rattle.edd_syntax.specs.declared.operators.Operator.{Operator}
use Rattle.edd_syntax.specs.declared.operators.Operator.TheVariants as operator
use Rattle.edd_syntax.specs.declared.operators.UnaryOperator.{UnaryOperator}
use Rattle.edd_syntax.specs.declared.operators.UnaryOperator.TheVariants as unary_operator
use Rattle.edd_syntax.specs.declared.operators.IncrementOperator.{IncrementOperator}
use Rattle.edd_syntax.specs.declared.operators.IncrementOperator.TheVariants.{PreIncrement, PostIncrement, PreDecrement, PostDecrement}
use Rattle.edd_syntax.specs.declared.reference.Target.{Target}
use Rattle.edd_syntax.specs.declared.reference.Target.TheVariants.{Local, Item, Function}
use Rattle.edd_syntax.specs.Text as texts
use Rattle.edd_syntax.specs.Expression.{Expr, Literal, Decimal, Reference, Indexed, Parentheses, Unary, Binary, Compare, LogicalAnd, LogicalOr, Conditional, Assign, CompoundAssign, Increment, Call, Text, Value, Arguments, Nil, Cons}
use Rattle.edd_syntax.specs.LayoutVersion.{is_add_abort_method, names_it, argument_names_it}
use Rattle.edd_syntax.specs.Strings.{expr_texts, argument_texts}
use Rattle.edd_syntax.specs.declared.operators.Parameter.{Parameter}
use Rattle.edd_syntax.specs.declared.operators.Parameter.TheVariants as parameter
use Rattle.edd_syntax.specs.Builtins.{names_taken, parameters, request_parameters}
use Rattle.edd_syntax.specs.SubsetRules as rules
use Rattle.edd_syntax.specs.SubsetRules.{all_fit, is_device_variable, is_method, call_breaches, call_mismatches, argument_mismatches}
use Rattle.edd_syntax.specs.WellFormed.{is_text, is_expr, are_arguments}
use Rattle.edd_syntax.specs.Words.{Words, words_of}
use Rattle.edd_instructions.specs.declared.instruction.Instruction.{Instruction}
use Rattle.edd_instructions.specs.declared.instruction.Instruction.TheVariants as instruction
use Rattle.edd_image.specs.declared.parts.Counts.{Counts}
use Rattle.edd_instructions.specs.declared.unit.Context.{Context}
use Rattle.edd_instructions.specs.declared.unit.Sort.TheVariants.{Method}
use Rattle.edd_image.specs.declared.versions.Version.{Version}
use Rattle.edd_image.specs.declared.versions.Version.TheVariants.{Two}
use Rattle.edd_image.specs.Existing.{string_exists, variable_exists, array_exists, method_exists}
use Rattle.edd_instructions.specs.References.{named_exist}
use Rattle.edd_instructions.specs.Spelling.{IsSpelled}
use Rattle.edd_code.specs.Arguments.{asking, named_one, names_of}
use Rattle.edd_code.specs.Blocks.{Block, Nothing, Straight, Then, WhenNotZero, WhenZero, Either}
use Rattle.edd_code.specs.Expressions.{no_value, item_block, item_element_block, element_block, no_element, unary_block, truth_block, then_test, instead}
use Rattle.edd_code.specs.Flow.{AreSpelled, all_straight, may_stand}
use Rattle.edd_code.specs.Reads.{item_is_there}
use Rattle.edd_code.specs.MethodExpressions.{load_block, store_item_block, store_block, store_next_block, store_behind_block, increment_block, method_block, call_block, argument_block, argument_blocks, numbers_block}
use Rattle.edd_code.specs.MethodReads.{uses_existing}
use Rattle.edd_code.proofs.Versions.{in_methods, abort_methods_allowed}
use Rattle.edd_code.proofs.Asking.{asks_block, few_names, names_fit, unused}
use Rattle.edd_code.proofs.Fitting.{front_none, all_parts, fits, of_none, of_variable, of_method, of_variable_in, of_method_in, of_variable_number}

module _ (version : Version) (counts : Counts) (slots : ℕ)
    (holds_arrays : nat_lt 0 counts.arrays ≡ true → version ≡ Two)
    (variables : counts.variables ≤ 65536) (arrays : counts.arrays ≤ 65536)
    (methods : counts.methods ≤ 65536)
    (strings : counts.strings ≤ 65536) (few_slots : slots ≤ 65536) where
  -- the context of the unit of a method
  abbrev context : Context
  context = record { version = version; counts = counts; sort = Method; slots = slots }

  -- each operand is in its range, and what is named exists
  pub record Stands (b : Block) : Type 0 where
    pub spelled : AreSpelled b
    pub named : all_straight (may_stand context) b ≡ true

  one_stands : (i : Instruction) → IsSpelled i → may_stand context i ≡ true → Stands (Straight i)
  one_stands i is there = record { spelled = is; named = there }

  nothing_stands : Stands Nothing
  nothing_stands = record { spelled = tt; named = refl }

  then_stand : {a b : Block} → Stands a → Stands b → Stands (Then a b)
  then_stand p q = record { spelled = (p.spelled, q.spelled); named = and_from _ _ p.named q.named }

  -- ---- numbers, locals and variables

  no_value_stands : Stands no_value
  no_value_stands = one_stands (instruction.Push 0) (omega arith) refl

  short_variable : (v : VarNo) → variable_exists counts v ≡ true → v.0 < 2 ^ 16
  short_variable v is = let below = ltb-true v.0 counts.variables is in omega
      (arith, variables, below)

  short_array : (n : ArrNo) → array_exists counts n ≡ true → n.0 < 2 ^ 16
  short_array n is = let below = ltb-true n.0 counts.arrays is in omega
      (arith, arrays, below)

  short_method : (m : MethNo) → method_exists counts m ≡ true → m.0 < 2 ^ 16
  short_method m is = let below = ltb-true m.0 counts.methods is in omega
      (arith, methods, below)

  short_string : (n : StrNo) → string_exists counts n ≡ true → n.0 < 2 ^ 16
  short_string n is = let below = ltb-true n.0 counts.strings is in omega
      (arith, strings, below)

  short_slot : (slot : ℕ) → uses_existing context (Local slot) ≡ true → slot < 2 ^ 16
  short_slot slot is = let below = ltb-true slot slots is in omega (arith, few_slots, below)

  item_stands : (i : ItemNo) → item_is_there counts i ≡ true → Stands (item_block i)
  item_stands (item_no.Variable v) is = one_stands (instruction.Variable v) (short_variable v is) is
  item_stands _ is = no_value_stands

  read_stands : (t : Target) → uses_existing context t ≡ true → Stands (load_block t)
  read_stands (Local slot) is = one_stands (instruction.GetLocal slot) (short_slot slot is) is
  read_stands (Item i) is = item_stands i is
  read_stands (Function f) is = no_value_stands

  no_element_stands : Stands no_element
  no_element_stands = then_stand (one_stands instruction.Pop tt refl) no_value_stands

  item_element_stands : (i : ItemNo) → item_is_there counts i ≡ true
      → Stands (item_element_block i)
  item_element_stands (item_no.Array n) is = one_stands (instruction.ReadElement n)
      (short_array n is) (and_from _ _ (in_methods version counts n holds_arrays is) is)
  item_element_stands _ is = no_element_stands

  element_stands : (t : Target) → uses_existing context t ≡ true → Stands (element_block t)
  element_stands (Item i) is = item_element_stands i is
  element_stands _ is = no_element_stands

  store_item_stands : (i : ItemNo) → item_is_there counts i ≡ true
      → Stands (store_item_block i)
  store_item_stands (item_no.Variable v) is = one_stands (instruction.Store v) (short_variable v is)
      is
  store_item_stands _ is = nothing_stands

  store_stands : (t : Target) → uses_existing context t ≡ true → Stands (store_block t)
  store_stands (Local slot) is = one_stands (instruction.SetLocal slot) (short_slot slot is) is
  store_stands (Item i) is = store_item_stands i is
  store_stands (Function f) is = nothing_stands

  -- ---- operators

  unary_stands : (op : UnaryOperator) → Stands (unary_block op)
  unary_stands unary_operator.Plus = nothing_stands
  unary_stands unary_operator.Minus = one_stands instruction.Negate tt refl
  unary_stands unary_operator.Not = one_stands instruction.Not tt refl
  unary_stands unary_operator.Complement = one_stands instruction.Complement tt refl

  truth_stands : Stands truth_block
  truth_stands = then_stand (one_stands instruction.Not tt refl)
      (one_stands instruction.Not tt refl)

  instead_stands : {right : Block} → Stands right → Stands (instead right)
  instead_stands is = then_stand (one_stands instruction.Pop tt refl) (then_stand is truth_stands)

  and_stands : {right : Block} → Stands right → Stands (then_test (WhenNotZero (instead right)))
  and_stands is = let body =
      instead_stands is in then_stand (one_stands instruction.Duplicate tt refl)
      (record { spelled = body.spelled; named = body.named })

  or_stands : {right : Block} → Stands right
      → Stands (Then truth_block (then_test (WhenZero (instead right))))
  or_stands is = let body = instead_stands is in then_stand truth_stands
      (then_stand (one_stands instruction.Duplicate tt refl)
      (record { spelled = body.spelled; named = body.named }))

  either_stand : {first second : Block} → Stands first → Stands second
      → Stands (Either first second)
  either_stand p q = record {
    spelled = (p.spelled, q.spelled);
    named = and_from _ _ p.named q.named;
  }

  operate_stands : (op : Operator) → Stands (Straight (instruction.Operate op))
  operate_stands op = one_stands (instruction.Operate op) tt refl

  store_next_stands : (op : Operator) (to : Target) → uses_existing context to ≡ true
      → Stands (store_next_block op to)
  store_next_stands op to is = then_stand (one_stands (instruction.Push 1) (omega arith) refl)
      (then_stand (operate_stands op) (store_stands to is))

  store_behind_stands : (op : Operator) (to : Target) → uses_existing context to ≡ true
      → Stands (store_behind_block op to)
  store_behind_stands op to is = then_stand (one_stands instruction.Duplicate tt refl)
      (then_stand (store_next_stands op to is) (one_stands instruction.Pop tt refl))

  increment_stands : (op : IncrementOperator) (to : Target) → uses_existing context to ≡ true
      → Stands (increment_block op to)
  increment_stands PreIncrement to is =
      then_stand (read_stands to is) (store_next_stands operator.Add to is)
  increment_stands PostIncrement to is =
      then_stand (read_stands to is) (store_behind_stands operator.Add to is)
  increment_stands PreDecrement to is =
      then_stand (read_stands to is) (store_next_stands operator.Subtract to is)
  increment_stands PostDecrement to is =
      then_stand (read_stands to is) (store_behind_stands operator.Subtract to is)

  -- a variable gets the value, and in its place is 0
  zero_stands : (v : VarNo) {b : Block} → variable_exists counts v ≡ true → Stands b
      → Stands (Then b (Then (store_block (Item (item_no.Variable v)))
      (Then (Straight instruction.Pop) no_value)))
  zero_stands v there is =
      then_stand is (then_stand (store_stands (Item (item_no.Variable v)) there)
      (then_stand (one_stands instruction.Pop tt refl) no_value_stands))

  module _ (number : Words → StrNo) (plain : Target → Bool) where
    abbrev TextStands : texts.Text → Type 0
    TextStands t = string_exists counts (number (words_of t)) ≡ true

    abbrev AllStand : Arguments Target → Type 0
    AllStand Nil = Unit {0}
    AllStand (Cons (Text t) rest) = TextStands t × AllStand rest
    AllStand (Cons (Value e) rest) = Stands (method_block number e) × AllStand rest

    abbrev CallStands : Builtin → Arguments Target → Type 0
    CallStands f arguments = AllStand arguments
        → are_arguments (uses_existing context) plain arguments ≡ true
        → (is_add_abort_method (Function f) ≡ true → version ≡ Two)
        → Stands (call_block number f arguments)

    -- ---- calls

    string_short : (t : texts.Text) → TextStands t → (number (words_of t)).0 < 2 ^ 16
    string_short t is = short_string (number (words_of t)) is

    variable_there : (v : VarNo)
        → Stands (method_block number (Reference (Item (item_no.Variable v))))
        → variable_exists counts v ≡ true
    unfolding method_block
    variable_there v is = is.named

    numbers_stand : (ps : List Parameter) (arguments : Arguments Target)
        → all_fit ps arguments ≡ true → AllStand arguments
        → Stands (numbers_block ps (argument_blocks number arguments))
    unfolding argument_block argument_blocks
    numbers_stand [] arguments fit is = nothing_stands
    numbers_stand (p ∷ ps) Nil fit is = nothing_stands
    numbers_stand (parameter.Number ∷ ps) (Cons (Text t) rest) fit is = absurd cc
    numbers_stand (p ∷ ps) (Cons (Text t) rest) fit is =
        then_stand nothing_stands
        (numbers_stand ps rest (and_parts (rules.fits p (Text t)) (all_fit ps rest) fit).1 is.1)
    numbers_stand (parameter.Number ∷ ps) (Cons (Value e) rest) fit is =
        then_stand is.0 (numbers_stand ps rest fit is.1)
    numbers_stand (p ∷ ps) (Cons (Value e) rest) fit is =
        then_stand nothing_stands
        (numbers_stand ps rest (and_parts (rules.fits p (Value e)) (all_fit ps rest) fit).1 is.1)

    -- what is named has two bytes
    one_more_short : (n : ℕ) (names : List ℕ) → n < 2 ^ 16
        → ((i : ℕ) → slice_index_or names i 0 < 2 ^ 16) → (i : ℕ)
        → slice_index_or (n ∷ names) i 0 < 2 ^ 16
    one_more_short n names is more zero = is
    one_more_short n names is more (suc i) = more i

    names_short : (ps : List Parameter) (arguments : Arguments Target)
        → all_fit ps arguments ≡ true → AllStand arguments → (i : ℕ)
        → slice_index_or (names_of number ps arguments) i 0 < 2 ^ 16
    names_short [] arguments fit is i = omega arith
    names_short (p ∷ ps) Nil fit is i = omega arith
    names_short (p ∷ ps) (Cons (Text t) rest) fit is i =
        one_more_short (number (words_of t)).0 (names_of number ps rest) (string_short t is.0)
        (names_short ps rest (and_parts (rules.fits p (Text t)) (all_fit ps rest) fit).1 is.1) i
    names_short (parameter.Number ∷ ps) (Cons (Value e) rest) fit is i =
        names_short ps rest fit is.1 i
    names_short (parameter.Text ∷ ps) (Cons (Value e) rest) fit is i = absurd cc
    names_short (parameter.DeviceVariable ∷ ps) (Cons (Value e) rest) fit is i =
        let parts = and_parts (is_device_variable (Value e)) (all_fit ps rest) fit in
        of_variable_in (λ x. Stands (method_block number x)
        → slice_index_or (named_one number (Value x) parameter.DeviceVariable
        ++ names_of number ps rest) i 0 < 2 ^ 16)
        (λ v there. one_more_short v.0 (names_of number ps rest)
        (short_variable v (variable_there v there)) (names_short ps rest parts.1 is.1) i)
        e parts.0 is.0
    names_short (parameter.Method ∷ ps) (Cons (Value e) rest) fit is i =
        let parts = and_parts (is_method (Value e)) (all_fit ps rest) fit in
        of_method_in (λ x. slice_index_or (named_one number (Value x) parameter.Method
        ++ names_of number ps rest) i 0 < 2 ^ 16)
        (λ m. names_short ps rest parts.1 is.1 i) e parts.0

    last_unused : (names : List ℕ) → length names ≤ 1 → slice_index_or names 1 0 ≡ 0
    last_unused [] h = refl
    last_unused (n ∷ []) h = refl
    last_unused (n ∷ m ∷ names) h = absurd (omega arith)

    -- behind one name there is one more, or none
    behind_one : (ps : List Parameter) (names : List ℕ) → length names ≤ 1
        → named_exist counts ps (slice_index_or names 0 0) (slice_index_or names 1 0) ≡ true
        → named_exist counts ps (slice_index_or names 0 0) 0 ≡ true
    behind_one ps names few exist = subst
        (λ n. named_exist counts ps (slice_index_or names 0 0) n ≡ true) (last_unused names few)
        exist

    -- what is named exists
    names_exist : (ps : List Parameter) (arguments : Arguments Target)
        → all_fit ps arguments ≡ true → AllStand arguments
        → length (names_of number ps arguments) ≤ 2
        → named_exist counts ps (slice_index_or (names_of number ps arguments) 0 0)
        (slice_index_or (names_of number ps arguments) 1 0) ≡ true
    names_exist [] arguments fit is few = refl
    names_exist (p ∷ ps) Nil fit is few = absurd cc
    names_exist (parameter.Text ∷ ps) (Cons (Text t) rest) fit is few =
        and_from _ _ is.0 (behind_one ps (names_of number ps rest) (omega arith)
        (names_exist ps rest fit is.1 (omega arith)))
    names_exist (parameter.Number ∷ ps) (Cons (Text t) rest) fit is few = absurd cc
    names_exist (parameter.DeviceVariable ∷ ps) (Cons (Text t) rest) fit is few = absurd cc
    names_exist (parameter.Method ∷ ps) (Cons (Text t) rest) fit is few = absurd cc
    names_exist (parameter.Text ∷ ps) (Cons (Value e) rest) fit is few = absurd cc
    names_exist (parameter.Number ∷ ps) (Cons (Value e) rest) fit is few =
        names_exist ps rest fit is.1 few
    names_exist (parameter.DeviceVariable ∷ ps) (Cons (Value e) rest) fit is few =
        let parts = and_parts (is_device_variable (Value e)) (all_fit ps rest) fit in
        of_variable_in (λ x. Stands (method_block number x)
        → length (named_one number (Value x) parameter.DeviceVariable ++ names_of number ps rest)
        ≤ 2
        → named_exist counts (parameter.DeviceVariable ∷ ps)
        (slice_index_or (named_one number (Value x) parameter.DeviceVariable
        ++ names_of number ps rest) 0 0)
        (slice_index_or (named_one number (Value x) parameter.DeviceVariable
        ++ names_of number ps rest) 1 0) ≡ true)
        (λ v there short. and_from _ _ (variable_there v there)
        (behind_one ps (names_of number ps rest) (omega arith)
        (names_exist ps rest parts.1 is.1 (omega arith)))) e parts.0 is.0 few
    names_exist (parameter.Method ∷ ps) (Cons (Value e) rest) fit is few =
        let parts = and_parts (is_method (Value e)) (all_fit ps rest) fit in
        of_method_in (λ x.
        length (named_one number (Value x) parameter.Method ++ names_of number ps rest) ≤ 2
        → named_exist counts ps
        (slice_index_or (named_one number (Value x) parameter.Method
        ++ names_of number ps rest) 0 0)
        (slice_index_or (named_one number (Value x) parameter.Method
        ++ names_of number ps rest) 1 0) ≡ true)
        (λ m short. names_exist ps rest parts.1 is.1 short) e parts.0 few

    call_stands : (f : Builtin) (arguments : Arguments Target) → all_fit (parameters f) arguments
        ≡ true → CallStands f arguments
    unfolding method_block call_block
    call_stands (builtin.Ask kind) = λ arguments fit is are second.
        let ps = request_parameters kind in
        let names = names_of number ps arguments in
        let few : length names ≤ names_taken kind = names_fit number ps arguments fit in
        rw (asks_block number kind arguments fit)
        (then_stand (numbers_stand ps arguments fit is)
        (one_stands (instruction.Ask (asking kind names)) (
          names_short ps arguments fit is 0,
          names_short ps arguments fit is 1,
          unused (names_taken kind) names few,
        )
        (names_exist ps arguments fit is (omega (arith, few, few_names kind)))))
    call_stands builtin.IvarValue = of_variable (CallStands builtin.IvarValue)
        (λ v is are second. is.0)
    call_stands builtin.LvarValue = of_variable (CallStands builtin.LvarValue)
        (λ v is are second. is.0)
    call_stands builtin.Iassign = of_variable_number (CallStands builtin.Iassign)
        (λ v e is are second. zero_stands v (variable_there v is.0) is.1.0)
    call_stands builtin.Lassign = of_variable_number (CallStands builtin.Lassign)
        (λ v e is are second. zero_stands v (variable_there v is.0) is.1.0)
    call_stands builtin.Abort = of_none (CallStands builtin.Abort)
        (λ is are second. one_stands instruction.Abort tt refl)
    call_stands builtin.ProcessAbort = of_none (CallStands builtin.ProcessAbort)
        (λ is are second. one_stands instruction.Abort tt refl)
    call_stands builtin.AddAbortMethod = of_method (CallStands builtin.AddAbortMethod)
        (λ m is are second.
        let there : method_exists counts m ≡ true = (and_parts _ _ are).0 in
        one_stands (instruction.AddAbortMethod m) (short_method m there)
        (and_from _ _ (abort_methods_allowed m (second refl)) there))

    -- ---- expressions

    text_parts : (xs ys : List texts.Text) → AllByRecursion TextStands (xs ++ ys)
        → AllByRecursion TextStands xs × AllByRecursion TextStands ys
    text_parts = all_parts TextStands

    -- the premises of an expression
    abbrev IsChecked : Expr Target → Type 0
    IsChecked e = (call_mismatches false e ≡ []) × (is_expr (uses_existing context) plain e ≡ true)
        × AllByRecursion TextStands (expr_texts e) × (names_it e ≡ true → version ≡ Two)

    both_checked : (left right : Expr Target) → call_mismatches false left
        ++ call_mismatches false right ≡ []
        → (is_expr (uses_existing context) plain left && is_expr (uses_existing context) plain
        right) ≡ true
        → AllByRecursion TextStands (expr_texts left ++ expr_texts right)
        → ((names_it left || names_it right) ≡ true → version ≡ Two)
        → IsChecked left × IsChecked right
    both_checked left right fit is known second =
        let fits = front_none (call_mismatches false left) (call_mismatches false right) fit in
        let are = and_parts _ _ is in
        let parts = text_parts (expr_texts left) (expr_texts right) known in (
          (fits.0, are.0, parts.0, λ h. second (or_left (names_it left) (names_it right) h)),
          (fits.1, are.1, parts.1, λ h. second (or_right (names_it left) (names_it right) h)),
        )

    mutual
      unfolding method_block

      pub method_stands : (is_statement : Bool) (e : Expr Target) → call_mismatches is_statement e
          ≡ [] → is_expr (uses_existing context) plain e ≡ true
          → AllByRecursion TextStands (expr_texts e) → (names_it e ≡ true → version ≡ Two)
          → Stands (method_block number e)
      method_stands b (Literal value) fit is known second = one_stands (instruction.Push value)
          (ltb-true value (2 ^ 32) is) refl
      method_stands b Decimal fit is known second = no_value_stands
      method_stands b (Reference from) fit is known second = read_stands from is
      method_stands b (Indexed array index) fit is known second =
          let are = and_parts _ _ is in
          let front = and_parts _ _ are.0 in
          then_stand (method_stands false index fit are.1 known second)
          (element_stands array front.0)
      method_stands b (Parentheses inner) fit is known second =
          method_stands false inner fit is known second
      method_stands b (Unary op operand) fit is known second =
          then_stand (method_stands false operand fit is known second) (unary_stands op)
      method_stands b (Binary op left right) fit is known second =
          let p = both_checked left right fit is known second in
          then_stand (method_stands false left p.0.0 p.0.1 p.0.2 p.0.3)
          (then_stand (method_stands false right p.1.0 p.1.1 p.1.2 p.1.3) (operate_stands op))
      method_stands b (Compare by left right) fit is known second =
          let p = both_checked left right fit is known second in
          then_stand (method_stands false left p.0.0 p.0.1 p.0.2 p.0.3)
          (then_stand (method_stands false right p.1.0 p.1.1 p.1.2 p.1.3)
          (one_stands (instruction.Compare by) tt refl))
      method_stands b (LogicalAnd left right) fit is known second =
          let p = both_checked left right fit is known second in
          then_stand (method_stands false left p.0.0 p.0.1 p.0.2 p.0.3)
          (and_stands (method_stands false right p.1.0 p.1.1 p.1.2 p.1.3))
      method_stands b (LogicalOr left right) fit is known second =
          let p = both_checked left right fit is known second in
          then_stand (method_stands false left p.0.0 p.0.1 p.0.2 p.0.3)
          (or_stands (method_stands false right p.1.0 p.1.1 p.1.2 p.1.3))
      method_stands b (Conditional test first other) fit is known second =
          let fits = front_none (call_mismatches false test) (call_mismatches false first
          ++ call_mismatches false other) fit in
          let fits_behind = front_none (call_mismatches false first) (call_mismatches false other)
          fits.1 in
          let are = and_parts _ _ is in
          let are_front = and_parts _ _ are.0 in
          let parts = text_parts (expr_texts test) (expr_texts first ++ expr_texts other) known in
          let parts_behind = text_parts (expr_texts first) (expr_texts other) parts.1 in
          let named = names_it first || names_it other in
          let behind : named ≡ true → version ≡ Two =
          λ h. second (or_right (names_it test) named h) in
          then_stand (method_stands false test fits.0 are_front.0 parts.0
          (λ h. second (or_left (names_it test) named h)))
          (either_stand (method_stands false first fits_behind.0 are_front.1 parts_behind.0
          (λ h. behind (or_left (names_it first) (names_it other) h)))
          (method_stands false other fits_behind.1 are.1 parts_behind.1
          (λ h. behind (or_right (names_it first) (names_it other) h))))
      method_stands b (Assign to value) fit is known second =
          let are = and_parts _ _ is in
          then_stand (method_stands false value fit are.1 known second) (store_stands to are.0)
      method_stands b (CompoundAssign op to value) fit is known second =
          let are = and_parts _ _ is in
          then_stand (read_stands to are.0)
          (then_stand (method_stands false value fit are.1 known second)
          (then_stand (operate_stands op) (store_stands to are.0)))
      method_stands b (Increment op to) fit is known second = increment_stands op to is
      method_stands b (Call (Function f) arguments) fit is known second =
          let parts = front_none (call_breaches b (Function f) arguments)
          (argument_mismatches arguments) fit in
          let are = and_parts _ _ is in
          let of_call = is_add_abort_method (Function f) in
          let of_arguments = argument_names_it arguments in
          call_stands f arguments (fits b f arguments parts.0).0
          (all_stand arguments parts.1 are.1 known
          (λ h. second (or_right of_call of_arguments h))) are.1
          (λ h. second (or_left of_call of_arguments h))
      method_stands b (Call _ arguments) fit is known second = absurd cc

      all_stand : (arguments : Arguments Target) → argument_mismatches arguments ≡ []
          → are_arguments (uses_existing context) plain arguments ≡ true
          → AllByRecursion TextStands (argument_texts arguments)
          → (argument_names_it arguments ≡ true → version ≡ Two) → AllStand arguments
      all_stand Nil fit is known second = tt
      all_stand (Cons (Text t) rest) fit is known second =
          (known.0, all_stand rest fit (and_parts (is_text t) _ is).1 known.1 second)
      all_stand (Cons (Value e) rest) fit is known second =
          let parts = front_none (call_mismatches false e) (argument_mismatches rest) fit in
          let are = and_parts _ _ is in
          let numbers = text_parts (expr_texts e) (argument_texts rest) known in (
            method_stands false e parts.0 are.0 numbers.0
                (λ h. second (or_left (names_it e) (argument_names_it rest) h)),
            all_stand rest parts.1 are.1 numbers.1
                (λ h. second (or_right (names_it e) (argument_names_it rest) h)),
          )
