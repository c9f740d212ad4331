-- Blocks that do what actions of the source do.
use Rattle.std.proofs.Common.{◌≡◌, refl, ap, ◌∙◌, ℤ, pos, Bool, true, false, not, List, ◌∷◌, Result, Ok, Err, Option}
use Rattle.std.proofs.lemmas.Bool.Decides.{Decides-int_eq}
use Rattle.edd_syntax.specs.declared.numbers.ItemNo.{ItemNo}
use Rattle.edd_syntax.specs.declared.numbers.ItemNo.TheVariants as item_no
use Rattle.edd_syntax.specs.declared.numbers.StrNo.{StrNo}
use Rattle.edd_syntax.specs.declared.operators.Operator.{Operator}
use Rattle.edd_syntax.specs.declared.operators.Operator.TheVariants as operator
use Rattle.edd_syntax.specs.declared.operators.Comparison.{Comparison}
use Rattle.edd_syntax.specs.declared.operators.UnaryOperator.{UnaryOperator}
use Rattle.edd_syntax.specs.declared.operators.UnaryOperator.TheVariants as unary_operator
use Rattle.edd_syntax.specs.declared.operators.IncrementOperator.{IncrementOperator}
use Rattle.edd_syntax.specs.declared.operators.IncrementOperator.TheVariants.{PreIncrement, PostIncrement, PreDecrement, PostDecrement}
use Rattle.edd_syntax.specs.declared.reference.Target.{Target}
use Rattle.edd_syntax.specs.declared.reference.Target.TheVariants.{Local, Item, Function}
use Rattle.edd_syntax.specs.Device as device
use Rattle.edd_syntax.specs.MethodState as source
use Rattle.edd_syntax.specs.MethodState.{State, Done, Stopped, Action, pure, ◌>>=◌, ◌>>◌, read, read_element, assign}
use Rattle.edd_syntax.specs.declared.answer.Trap.{Trap}
use Rattle.edd_syntax.specs.declared.numbers.ArrNo.{ArrNo}
use Rattle.edd_syntax.specs.Elements.{element_value, item_element}
use Rattle.edd_syntax.specs.Evaluation.{increment}
use Rattle.edd_syntax.specs.TwosComplement.{wrap, truth, is_zero, apply, operate, compare}
use Rattle.edd_syntax.specs.Words.{Words}
use Rattle.edd_instructions.specs.declared.instruction.Instruction.TheVariants as instruction
use Rattle.edd_instructions.specs.Steps.{act}
use Rattle.edd_code.specs.Blocks.{Block, Straight, Then, WhenNotZero, WhenZero, Either}
use Rattle.edd_code.specs.Expressions.{no_value, item_block, item_element_block, element_block, no_element, unary_block, truth_block, then_test, instead}
use Rattle.edd_code.specs.BlockEffects as blocks
use Rattle.edd_code.specs.BlockEffects.{Outcome, Goes, and_then}
use Rattle.edd_code.specs.MethodEffects.{Halted, pushed, does}
use Rattle.edd_instructions.specs.Agreement.{machine_of}
use Rattle.edd_code.specs.MethodExpressions.{load_block, store_block, store_next_block, store_behind_block, increment_block}

-- a number that is 0
zero_is : (z : ℤ) → is_zero z ≡ true → z ≡ pos 0
zero_is z is = (Decides-int_eq z (pos 0)).0 is

module _ (text : StrNo → Option Words) (around : device.Environment) where
  -- what a block does round these variables
  abbrev pub runs : Block → List ℤ → State → Outcome State Halted
  runs b operands s = does text (machine_of around) b operands s

  -- it leaves the value of the action on top
  abbrev pub Means : Block → Action ℤ → Type 0
  Means b m = (operands : List ℤ) (s : State) → runs b operands s ≡ pushed operands (m s)

  -- the same in place of the topmost operand, and of the two topmost
  abbrev pub MeansOfOne : Block → (ℤ → Action ℤ) → Type 0
  MeansOfOne b f = (a : ℤ) (operands : List ℤ) (s : State) → runs b (a ∷ operands) s
      ≡ pushed operands (f a s)

  abbrev pub MeansOfTwo : Block → (ℤ → ℤ → Action ℤ) → Type 0
  MeansOfTwo b f = (a c : ℤ) (operands : List ℤ) (s : State) → runs b (c ∷ a ∷ operands) s
      ≡ pushed operands (f a c s)

  -- ---- one after the other

  -- where a block goes on, the next one finds what it leaves
  then_does : (a b : Block) (operands : List ℤ) {left : List ℤ} (s : State) {t : State}
      → runs a operands s ≡ Goes left t → runs (Then a b) operands s ≡ runs b left t
  unfolding blocks.does
  then_does a b operands s goes = ap (λ (o : Outcome State Halted). and_then o (runs b)) goes

  then_value : (a b : Block) (operands base under : List ℤ) (s : State) (o : source.Outcome ℤ)
      (f : ℤ → Action ℤ) → runs a operands s ≡ pushed base o
      → ((z : ℤ) (t : State) → runs b (z ∷ base) t ≡ pushed under (f z t))
      → runs (Then a b) operands s ≡ pushed under (source.and_then o f)
  unfolding blocks.does
  then_value a b operands base under s (Done z t) f first second =
      ap (λ (o : Outcome State Halted). and_then o (runs b)) first ∙ second z t
  then_value a b operands base under s (Stopped why t) f first second =
      ap (λ (o : Outcome State Halted). and_then o (runs b)) first

  pub one_means : (a b : Block) (m : Action ℤ) (f : ℤ → Action ℤ) → Means a m → MeansOfOne b f
      → Means (Then a b) (m >>= f)
  one_means a b m f first second = λ operands s. then_value a b operands operands operands s (m s) f
      (first operands s) (λ z t. second z operands t)

  -- the second operand is above the first
  pub two_mean : (a b c : Block) (m n : Action ℤ) (f : ℤ → ℤ → Action ℤ) → Means a m → Means b n
      → MeansOfTwo c f → Means (Then a (Then b c)) (m >>= λ x. n >>= f x)
  two_mean a b c m n f first second third =
      one_means a (Then b c) m (λ x. n >>= f x) first
      (λ x operands s. then_value b c (x ∷ operands) (x ∷ operands) operands s (n s) (f x)
      (second (x ∷ operands) s) (λ y t. third x y operands t))

  -- ---- numbers, locals and variables

  pub push_means : (n : _) → Means (Straight (instruction.Push n)) (pure (wrap 32 (pos n)))
  unfolding blocks.does act
  push_means n operands s = refl

  pub no_value_means : Means no_value (pure (pos 0))
  unfolding blocks.does act wrap
  no_value_means operands s = refl

  item_means : (i : ItemNo) → Means (item_block i) (read (Item i))
  unfolding blocks.does act
  item_means (item_no.Variable v) operands s = refl
  item_means _ operands s = no_value_means operands s

  pub read_means : (from : Target) → Means (load_block from) (read from)
  unfolding blocks.does act
  read_means (Local slot) operands s = refl
  read_means (Item i) operands s = item_means i operands s
  read_means (Function f) operands s = no_value_means operands s

  pop_does : (a : ℤ) (operands : List ℤ) (s : State)
      → runs (Straight instruction.Pop) (a ∷ operands) s ≡ Goes operands s
  unfolding blocks.does act
  pop_does a operands s = refl

  -- ---- elements

  read_element_means : (array : ArrNo) (a : ℤ) (operands : List ℤ) (s : State) (r : Result ℤ Trap)
      → element_value around.elements 32 s.values array a ≡ r
      → runs (Straight (instruction.ReadElement array)) (a ∷ operands) s
      ≡ pushed operands (source.number r s)
  unfolding blocks.does act
  read_element_means array a operands s (Ok z) is = rw is refl
  read_element_means array a operands s (Err why) is = rw is refl

  no_element_means : (a : ℤ) (operands : List ℤ) (s : State)
      → runs no_element (a ∷ operands) s ≡ pushed operands (source.number (Ok (pos 0)) s)
  no_element_means a operands s =
      then_does (Straight instruction.Pop) no_value (a ∷ operands) s (pop_does a operands s)
      ∙ no_value_means operands s

  item_element_means : (i : ItemNo) (a : ℤ) (operands : List ℤ) (s : State)
      → runs (item_element_block i) (a ∷ operands) s
      ≡ pushed operands (source.number (item_element around.elements 32 s.values i a) s)
  item_element_means (item_no.Array n) a operands s = read_element_means n a operands s
      (element_value around.elements 32 s.values n a) refl
  item_element_means _ a operands s = no_element_means a operands s

  pub element_means : (t : Target) → MeansOfOne (element_block t) (read_element around t)
  element_means (Item i) a operands s = item_element_means i a operands s
  element_means _ a operands s = no_element_means a operands s

  pub store_means : (to : Target) → MeansOfOne (store_block to) (assign around to)
  unfolding blocks.does act
  store_means (Local slot) z operands s = refl
  store_means (Item (item_no.Variable v)) z operands s = refl
  store_means (Item _) z operands s = refl
  store_means (Function f) z operands s = refl

  -- a variable gets the topmost operand, and in its place is 0
  pub store_means_zero : (to : Target)
      → MeansOfOne (Then (store_block to) (Then (Straight instruction.Pop) no_value))
      (λ a. assign around to a >> pure (pos 0))
  store_means_zero to a operands s =
      then_value (store_block to) (Then (Straight instruction.Pop) no_value) (a ∷ operands) operands
      operands s (assign around to a s) (λ z. pure (pos 0)) (store_means to a operands s)
      (λ z t. then_does (Straight instruction.Pop) no_value (z ∷ operands) t (pop_does z operands t)
      ∙ no_value_means operands t)

  -- ---- operators

  pub unary_means : (op : UnaryOperator) → MeansOfOne (unary_block op) (λ a. pure (apply 32 op a))
  unfolding blocks.does act apply
  unary_means unary_operator.Plus a operands s = refl
  unary_means _ a operands s = refl

  operate_is : (op : Operator) (r : Result ℤ _) (a c : ℤ) (operands : List ℤ) (s : State)
      → operate 32 op a c ≡ r
      → runs (Straight (instruction.Operate op)) (c ∷ a ∷ operands) s
      ≡ pushed operands (source.number r s)
  unfolding blocks.does act
  operate_is op (Ok z) a c operands s is = rw is refl
  operate_is op (Err why) a c operands s is = rw is refl

  pub operate_means : (op : Operator)
      → MeansOfTwo (Straight (instruction.Operate op)) (λ a c. source.number (operate 32 op a c))
  operate_means op a c operands s = operate_is op (operate 32 op a c) a c operands s refl

  pub compare_means : (by : Comparison)
      → MeansOfTwo (Straight (instruction.Compare by)) (λ a c. pure (compare by a c))
  unfolding blocks.does act
  compare_means by a c operands s = refl

  -- an operator, and what takes its value
  pub operate_then : (op : Operator) (b : Block) (f : ℤ → Action ℤ) → MeansOfOne b f
      → MeansOfTwo (Then (Straight (instruction.Operate op)) b)
      (λ a c. source.number (operate 32 op a c) >>= f)
  operate_then op b f is = λ a c operands s.
      then_value (Straight (instruction.Operate op)) b (c ∷ a ∷ operands) operands operands s
      (source.number (operate 32 op a c) s) f (operate_means op a c operands s)
      (λ z t. is z operands t)

  -- ---- `++` and `--`

  one_is : wrap 32 (pos 1) ≡ pos 1
  unfolding wrap
  one_is = refl

  store_next_means : (op : Operator) (to : Target)
      → MeansOfOne (store_next_block op to) (λ old. source.number (operate 32 op old (pos 1))
      >>= assign around to)
  store_next_means op to old operands s =
      then_does (Straight (instruction.Push 1))
      (Then (Straight (instruction.Operate op)) (store_block to)) (old ∷ operands) s
      (push_means 1 (old ∷ operands) s ∙ ap (λ (z : ℤ). Goes (z ∷ old ∷ operands) s) one_is)
      ∙ operate_then op (store_block to) (assign around to) (store_means to) old (pos 1) operands s

  duplicate_does : (a : ℤ) (operands : List ℤ) (s : State)
      → runs (Straight instruction.Duplicate) (a ∷ operands) s ≡ Goes (a ∷ a ∷ operands) s
  unfolding blocks.does act
  duplicate_does a operands s = refl

  store_behind_means : (op : Operator) (to : Target)
      → MeansOfOne (store_behind_block op to)
      (λ old. (source.number (operate 32 op old (pos 1)) >>= assign around to) >> pure old)
  store_behind_means op to old operands s =
      then_does (Straight instruction.Duplicate) (Then (store_next_block op to)
      (Straight instruction.Pop)) (old ∷ operands) s (duplicate_does old operands s)
      ∙ then_value (store_next_block op to) (Straight instruction.Pop) (old ∷ old ∷ operands) (old
      ∷ operands) operands s _ (λ z. pure old) (store_next_means op to old (old ∷ operands) s)
      (λ z t. pop_does z (old ∷ operands) t)

  pub increment_means : (op : IncrementOperator) (to : Target)
      → Means (increment_block op to) (increment around op to)
  unfolding operate
  increment_means PreIncrement to = one_means (load_block to) (store_next_block operator.Add to)
      (read to) _ (read_means to) (store_next_means operator.Add to)
  increment_means PostIncrement to = one_means (load_block to) (store_behind_block operator.Add to)
      (read to) _ (read_means to) (store_behind_means operator.Add to)
  increment_means PreDecrement to =
      one_means (load_block to) (store_next_block operator.Subtract to) (read to) _ (read_means to)
      (store_next_means operator.Subtract to)
  increment_means PostDecrement to =
      one_means (load_block to) (store_behind_block operator.Subtract to) (read to) _
      (read_means to) (store_behind_means operator.Subtract to)

  -- ---- `&&`, `||` and `?`

  not_does : (a : ℤ) (operands : List ℤ) (s : State)
      → runs (Straight instruction.Not) (a ∷ operands) s ≡ Goes (truth (is_zero a) ∷ operands) s
  unfolding blocks.does act apply
  not_does a operands s = refl

  not_again : (b : Bool) → truth (is_zero (truth b)) ≡ truth (not b)
  not_again true = refl
  not_again false = refl

  truth_does : (a : ℤ) (operands : List ℤ) (s : State) → runs truth_block (a ∷ operands) s
      ≡ Goes (truth (not (is_zero a)) ∷ operands) s
  truth_does a operands s =
      then_does (Straight instruction.Not) (Straight instruction.Not) (a
      ∷ operands) s (not_does a operands s) ∙ not_does (truth (is_zero a)) operands s
      ∙ ap (λ (z : ℤ). Goes (z ∷ operands) s) (not_again (is_zero a))

  -- the truth of an action's value
  abbrev pub truth_of : Action ℤ → Action ℤ
  truth_of m = m >>= λ b. pure (truth (not (is_zero b)))

  module _ (right : Block) (m : Action ℤ) (is : Means right m) where
    instead_means : (a : ℤ) (operands : List ℤ) (s : State) → runs (instead right) (a ∷ operands) s
        ≡ pushed operands (truth_of m s)
    instead_means a operands s =
        then_does (Straight instruction.Pop) (Then right truth_block) (a
        ∷ operands) s (pop_does a operands s) ∙ one_means right truth_block m
        (λ b. pure (truth (not (is_zero b)))) is truth_does operands s

    and_choice : (a : ℤ) (b : Bool) → is_zero a ≡ b → (operands : List ℤ) (s : State)
        → (elim b as (λ _. Outcome State Halted) [
          | true ↦ Goes (a ∷ operands) s
          | false ↦ runs (instead right) (a ∷ operands) s
        ])
        ≡ pushed operands ((elim b as (λ _. Action ℤ) [ true ↦ pure (pos 0) | false ↦ truth_of m ])
        s)
    and_choice a true at operands s = ap (λ (z : ℤ). Goes (z ∷ operands) s) (zero_is a at)
    and_choice a false at operands s = instead_means a operands s

    pub and_means : MeansOfOne (then_test (WhenNotZero (instead right)))
        (λ a. elim (is_zero a) [ true ↦ pure (pos 0) | false ↦ truth_of m ])
    unfolding blocks.does
    and_means a operands s =
        then_does (Straight instruction.Duplicate) (WhenNotZero (instead right)) (a
        ∷ operands) s (duplicate_does a operands s) ∙ and_choice a (is_zero a) refl operands s

    -- 1 or 0, in front of the test
    or_test : (b : Bool) (operands : List ℤ) (s : State)
        → runs (WhenZero (instead right)) (truth (not b) ∷ truth (not b) ∷ operands) s
        ≡ pushed operands ((elim b as (λ _. Action ℤ) [
          | true ↦ truth_of m
          | false ↦ pure (pos 1)
        ]) s)
    unfolding blocks.does
    or_test true operands s = instead_means (pos 0) operands s
    or_test false operands s = refl

    pub or_means : MeansOfOne (Then truth_block (then_test (WhenZero (instead right))))
        (λ a. elim (is_zero a) [ true ↦ truth_of m | false ↦ pure (pos 1) ])
    or_means a operands s =
        let z = truth (not (is_zero a)) in
        then_does truth_block (then_test (WhenZero (instead right))) (a ∷ operands) s (truth_does a
        operands s) ∙ then_does (Straight instruction.Duplicate) (WhenZero (instead right)) (z
        ∷ operands) s (duplicate_does z operands s) ∙ or_test (is_zero a) operands s

  either_choice : (b : Bool) (o u : Outcome State Halted) (m n : Action ℤ) (operands : List ℤ)
      (s : State) → o ≡ pushed operands (m s) → u ≡ pushed operands (n s)
      → (elim b as (λ _. Outcome State Halted) [ true ↦ u | false ↦ o ])
      ≡ pushed operands ((elim b as (λ _. Action ℤ) [ true ↦ n | false ↦ m ]) s)
  either_choice true o u m n operands s p q = q
  either_choice false o u m n operands s p q = p

  pub either_means : (first second : Block) (m n : Action ℤ) → Means first m → Means second n
      → MeansOfOne (Either first second) (λ a. elim (is_zero a) [ true ↦ n | false ↦ m ])
  unfolding blocks.does
  either_means first second m n p q a operands s = either_choice (is_zero a) _ _ m n operands s
      (p operands s) (q operands s)
