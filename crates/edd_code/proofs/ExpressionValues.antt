-- The block of an expression results in the expression's value.
use Rattle.std.proofs.Common.{◌≡◌, refl, ap, ◌∙◌, ℕ, ℤ, pos, Bool, true, false, not, List, [], ◌∷◌, Result, Ok, Err}
use Rattle.std.proofs.lemmas.Bool.Decides.{Decides-int_eq}
use Rattle.edd_syntax.specs.declared.answer.Trap.{Trap}
use Rattle.edd_syntax.specs.declared.numbers.ItemNo.{ItemNo}
use Rattle.edd_syntax.specs.declared.numbers.ItemNo.TheVariants as item_no
use Rattle.edd_syntax.specs.declared.operators.UnaryOperator.{UnaryOperator}
use Rattle.edd_syntax.specs.declared.operators.UnaryOperator.TheVariants as unary_operator
use Rattle.edd_syntax.specs.declared.operators.Operator.{Operator}
use Rattle.edd_syntax.specs.declared.reference.Target.{Target}
use Rattle.edd_syntax.specs.declared.reference.Target.TheVariants.{Item}
use Rattle.edd_syntax.specs.declared.numbers.ArrNo.{ArrNo}
use Rattle.edd_syntax.specs.declared.numbers.Element.{Element}
use Rattle.edd_syntax.specs.Elements.{element_value, item_element, indexed_value}
use Rattle.edd_syntax.specs.Device as device
use Rattle.edd_syntax.specs.TwosComplement.{wrap, truth, is_zero, apply, operate, compare}
use Rattle.edd_syntax.specs.AttributeValue.{◌>>=◌, value, read, item_value}
use Rattle.edd_syntax.specs.Expression.{Expr, Literal, Reference, Indexed, Parentheses, Unary, Binary, Compare, LogicalAnd, LogicalOr, Conditional}
use Rattle.edd_instructions.specs.declared.instruction.Instruction.TheVariants as instruction
use Rattle.edd_instructions.specs.Steps.{Environment, act}
use Rattle.edd_code.specs.Blocks.{Block, Straight, Then, WhenNotZero, WhenZero, Either}
use Rattle.edd_code.specs.Expressions.{expression_block, item_block, read_block, item_element_block, element_block, no_element, unary_block, truth_block, then_test, instead, no_value}
use Rattle.edd_code.specs.ExpressionMeaning.{of_value}
use Rattle.edd_code.specs.Outcomes.{Outcome, Goes, after_records, and_then, does}

-- ---- blocks, one after the other

nothing_in_front : (o : Outcome) → after_records [] o ≡ o
nothing_in_front (Goes records operands) = refl
nothing_in_front _ = refl

-- a number that is 0
zero_is : (z : ℤ) → is_zero z ≡ true → z ≡ pos 0
zero_is z is = (Decides-int_eq z (pos 0)).0 is

module _ (machine : Environment) (d : List ℤ) where
  -- where a block goes on, the next one finds what it leaves
  then_does : (a b : Block) (operands : List ℤ) {left : List ℤ} → does machine d a operands
      ≡ Goes [] left → does machine d (Then a b) operands ≡ does machine d b left
  unfolding does
  then_does a b operands {left} goes = ap (λ o. and_then o (does machine d b)) goes
      ∙ nothing_in_front (does machine d b left)

  -- a block that results in a value, and one that goes on with it
  with_value : (a b : Block) (operands under : List ℤ) (r : Result ℤ Trap) (f : ℤ → Result ℤ Trap)
      → does machine d a operands ≡ of_value r operands
      → ((z : ℤ) → does machine d b (z ∷ operands) ≡ of_value (f z) under)
      → does machine d (Then a b) operands ≡ of_value (r >>= f) under
  unfolding does
  with_value a b operands under (Ok z) f first second = then_does a b operands first ∙ second z
  with_value a b operands under (Err why) f first second = ap (λ o. and_then o (does machine d b))
      first

  push_does : (n : ℕ) (operands : List ℤ) → does machine d (Straight (instruction.Push n)) operands
      ≡ Goes [] (wrap 64 (pos n) ∷ operands)
  unfolding does act
  push_does n operands = refl

  no_value_does : (operands : List ℤ) → does machine d no_value operands
      ≡ Goes [] (pos 0 ∷ operands)
  unfolding does act wrap
  no_value_does operands = refl

  item_does : (i : ItemNo) (operands : List ℤ) → does machine d (item_block i) operands
      ≡ Goes [] (item_value d i ∷ operands)
  unfolding does act
  item_does (item_no.Variable v) operands = refl
  item_does _ operands = no_value_does operands

  read_does : (t : Target) (operands : List ℤ) → does machine d (read_block t) operands
      ≡ Goes [] (read d t ∷ operands)
  read_does (Item i) operands = item_does i operands
  read_does _ operands = no_value_does operands

  -- ---- elements

  read_does_element : (array : ArrNo) (n : ℤ) (r : Result ℤ Trap) (operands : List ℤ)
      → element_value machine.elements 64 d array n ≡ r
      → does machine d (Straight (instruction.ReadElement array)) (n ∷ operands)
      ≡ of_value r operands
  unfolding does act
  read_does_element array n (Ok z) operands is = rw is refl
  read_does_element array n (Err why) operands is = rw is refl

  no_element_does : (n : ℤ) (operands : List ℤ) → does machine d no_element (n ∷ operands)
      ≡ Goes [] (pos 0 ∷ operands)
  unfolding does act wrap
  no_element_does n operands = refl

  module _ (elements : List Element) (same : machine.elements ≡ elements) where
    item_element_does : (i : ItemNo) (n : ℤ) (operands : List ℤ)
        → does machine d (item_element_block i) (n ∷ operands)
        ≡ of_value (item_element elements 64 d i n) operands
    item_element_does (item_no.Array a) n operands = read_does_element a n
        (element_value elements 64 d a n) operands
        (ap (λ (es : List Element). element_value es 64 d a n) same)
    item_element_does _ n operands = no_element_does n operands

    element_does : (array : Target) (n : ℤ) (operands : List ℤ)
        → does machine d (element_block array) (n ∷ operands)
        ≡ of_value (indexed_value elements 64 d array n) operands
    element_does (Item i) n operands = item_element_does i n operands
    element_does _ n operands = no_element_does n operands

  unary_does : (op : UnaryOperator) (a : ℤ) (operands : List ℤ)
      → does machine d (unary_block op) (a ∷ operands) ≡ Goes [] (apply 64 op a ∷ operands)
  unfolding does act apply
  unary_does unary_operator.Plus a operands = refl
  unary_does _ a operands = refl

  -- ---- the truth of a number

  not_does : (a : ℤ) (operands : List ℤ) → does machine d (Straight instruction.Not) (a ∷ operands)
      ≡ Goes [] (truth (is_zero a) ∷ operands)
  unfolding does act apply
  not_does a operands = refl

  not_again : (b : Bool) → truth (is_zero (truth b)) ≡ truth (not b)
  not_again true = refl
  not_again false = refl

  truth_does : (a : ℤ) (operands : List ℤ) → does machine d truth_block (a ∷ operands)
      ≡ Goes [] (truth (not (is_zero a)) ∷ operands)
  truth_does a operands =
      then_does (Straight instruction.Not) (Straight instruction.Not) (a
      ∷ operands) (not_does a operands) ∙ not_does (truth (is_zero a)) operands
      ∙ ap (λ z. Goes [] (z ∷ operands)) (not_again (is_zero a))

  duplicate_does : (a : ℤ) (operands : List ℤ)
      → does machine d (Straight instruction.Duplicate) (a ∷ operands) ≡ Goes [] (a ∷ a ∷ operands)
  unfolding does act
  duplicate_does a operands = refl

  pop_does : (a : ℤ) (operands : List ℤ) → does machine d (Straight instruction.Pop) (a ∷ operands)
      ≡ Goes [] operands
  unfolding does act
  pop_does a operands = refl

  -- the truth of the right side
  instead_does : (right : Block) (r : Result ℤ Trap) (a : ℤ) (operands : List ℤ)
      → does machine d right operands ≡ of_value r operands
      → does machine d (instead right) (a ∷ operands)
      ≡ of_value (r >>= λ b. Ok (truth (not (is_zero b)))) operands
  instead_does right r a operands is =
      then_does (Straight instruction.Pop) (Then right truth_block) (a
      ∷ operands) (pop_does a operands) ∙ with_value right truth_block operands operands r
      (λ b. Ok (truth (not (is_zero b)))) is (λ b. truth_does b operands)

  -- ---- `&&` and `||`

  and_choice : (right : Block) (r : Result ℤ Trap) (a : ℤ) (b : Bool) → is_zero a ≡ b
      → (operands : List ℤ) → does machine d right operands ≡ of_value r operands
      → elim b [
        | true ↦ Goes [] (a ∷ operands)
        | false ↦ does machine d (instead right) (a ∷ operands)
      ]
      ≡ of_value (elim b [
        | true ↦ Ok (pos 0)
        | false ↦ (r >>= λ x. Ok (truth (not (is_zero x))))
      ]) operands
  and_choice right r a true at operands is = ap (λ z. Goes [] (z ∷ operands)) (zero_is a at)
  and_choice right r a false at operands is = instead_does right r a operands is

  and_does : (right : Block) (r : Result ℤ Trap) (a : ℤ) (operands : List ℤ)
      → does machine d right operands ≡ of_value r operands
      → does machine d (then_test (WhenNotZero (instead right))) (a ∷ operands)
      ≡ of_value (elim (is_zero a) [
        | true ↦ Ok (pos 0)
        | false ↦ (r >>= λ b. Ok (truth (not (is_zero b))))
      ]) operands
  unfolding does
  and_does right r a operands is =
      then_does (Straight instruction.Duplicate) (WhenNotZero (instead right)) (a
      ∷ operands) (duplicate_does a operands) ∙ and_choice right r a (is_zero a) refl operands is

  -- 1 or 0, in front of the test
  or_test : (right : Block) (r : Result ℤ Trap) (b : Bool) (operands : List ℤ)
      → does machine d right operands ≡ of_value r operands
      → does machine d (WhenZero (instead right)) (truth (not b) ∷ truth (not b) ∷ operands)
      ≡ of_value (elim b [
        | true ↦ (r >>= λ x. Ok (truth (not (is_zero x))))
        | false ↦ Ok (pos 1)
      ]) operands
  unfolding does
  or_test right r true operands is = instead_does right r (pos 0) operands is
  or_test right r false operands is = refl

  or_does : (right : Block) (r : Result ℤ Trap) (a : ℤ) (operands : List ℤ)
      → does machine d right operands ≡ of_value r operands
      → does machine d (Then truth_block (then_test (WhenZero (instead right)))) (a ∷ operands)
      ≡ of_value (elim (is_zero a) [
        | true ↦ (r >>= λ x. Ok (truth (not (is_zero x))))
        | false ↦ Ok (pos 1)
      ]) operands
  or_does right r a operands is =
      let z = truth (not (is_zero a)) in
      then_does truth_block (then_test (WhenZero (instead right))) (a ∷ operands) (truth_does a
      operands) ∙ then_does (Straight instruction.Duplicate) (WhenZero (instead right)) (z
      ∷ operands) (duplicate_does z operands) ∙ or_test right r (is_zero a) operands is

  -- ---- the rest

  operate_does : (op : Operator) (r : Result ℤ Trap) (a b : ℤ) (operands : List ℤ)
      → operate 64 op a b ≡ r → does machine d (Straight (instruction.Operate op))
      (b ∷ a ∷ operands) ≡ of_value r operands
  unfolding does act
  operate_does op (Ok z) a b operands is = rw is refl
  operate_does op (Err why) a b operands is = rw is refl

  compare_does : (by : _) (a b : ℤ) (operands : List ℤ)
      → does machine d (Straight (instruction.Compare by)) (b ∷ a ∷ operands)
      ≡ Goes [] (compare by a b ∷ operands)
  unfolding does act
  compare_does by a b operands = refl

  either_choice : (b : Bool) (o u : Outcome) (r s : Result ℤ Trap) (operands : List ℤ)
      → o ≡ of_value r operands → u ≡ of_value s operands → elim b [ true ↦ u | false ↦ o ]
      ≡ of_value (elim b [ true ↦ s | false ↦ r ]) operands
  either_choice true o u r s operands p q = q
  either_choice false o u r s operands p q = p

  either_does : (first second : Block) (r s : Result ℤ Trap) (a : ℤ) (operands : List ℤ)
      → does machine d first operands ≡ of_value r operands → does machine d second operands
      ≡ of_value s operands
      → does machine d (Either first second) (a ∷ operands)
      ≡ of_value (elim (is_zero a) [ true ↦ s | false ↦ r ]) operands
  unfolding does
  either_does first second r s a operands p q = either_choice (is_zero a) _ _ r s operands p q

module _ (machine : Environment) (around : device.Environment)
    (same : machine.elements ≡ around.elements) (d : List ℤ) where
  pub means : (e : Expr Target) (operands : List ℤ) → does machine d (expression_block e) operands
      ≡ of_value (value around d e) operands
  unfolding expression_block value
  means (Literal n) operands = push_does machine d n operands
  means (Reference from) operands = read_does machine d from operands
  means (Indexed array index) operands =
      with_value machine d (expression_block index) (element_block array) operands operands
      (value around d index) (λ n. indexed_value around.elements 64 d array n)
      (means index operands)
      (λ n. element_does machine d around.elements same array n operands)
  means (Parentheses inner) operands = means inner operands
  means (Unary op operand) operands =
      with_value machine d (expression_block operand) (unary_block op) operands operands
      (value around d operand) (λ a. Ok (apply 64 op a)) (means operand operands)
      (λ a. unary_does machine d op a operands)
  means (Binary op left right) operands =
      with_value machine d (expression_block left)
      (Then (expression_block right) (Straight (instruction.Operate op))) operands operands
      (value around d left) (λ a. value around d right >>= λ b. operate 64 op a b)
      (means left operands)
      (λ a. with_value machine d (expression_block right) (Straight (instruction.Operate op))
      (a ∷ operands) operands (value around d right) (λ b. operate 64 op a b)
      (means right (a ∷ operands)) (λ b. operate_does machine d op (operate 64 op a b) a b
      operands refl))
  means (Compare by left right) operands =
      with_value machine d (expression_block left)
      (Then (expression_block right) (Straight (instruction.Compare by))) operands operands
      (value around d left) (λ a. value around d right >>= λ b. Ok (compare by a b))
      (means left operands)
      (λ a. with_value machine d (expression_block right) (Straight (instruction.Compare by))
      (a ∷ operands) operands (value around d right) (λ b. Ok (compare by a b))
      (means right (a ∷ operands)) (λ b. compare_does machine d by a b operands))
  means (LogicalAnd left right) operands =
      with_value machine d (expression_block left)
      (then_test (WhenNotZero (instead (expression_block right)))) operands operands
      (value around d left) _ (means left operands)
      (λ a. and_does machine d (expression_block right) (value around d right) a operands
      (means right operands))
  means (LogicalOr left right) operands =
      with_value machine d (expression_block left)
      (Then truth_block (then_test (WhenZero (instead (expression_block right))))) operands
      operands (value around d left) _ (means left operands)
      (λ a. or_does machine d (expression_block right) (value around d right) a operands
      (means right operands))
  means (Conditional test first second) operands =
      with_value machine d (expression_block test)
      (Either (expression_block first) (expression_block second)) operands operands
      (value around d test) _ (means test operands)
      (λ a. either_does machine d (expression_block first) (expression_block second)
      (value around d first) (value around d second) a operands (means first operands)
      (means second operands))
  means _ operands = no_value_does machine d operands
