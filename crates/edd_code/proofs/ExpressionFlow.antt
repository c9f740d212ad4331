-- The block of an expression finds its operands, and leaves one.
use Rattle.std.proofs.Common.{◌≡◌, refl, sym, ap, subst, ◌∙◌, ℕ, suc, ◌+◌, ◌-◌, ◌≤◌, arith}
use Rattle.std.specs.Prelude.{IsTrue}
use Rattle.edd_syntax.specs.declared.numbers.ItemNo.{ItemNo}
use Rattle.edd_syntax.specs.declared.numbers.ItemNo.TheVariants as item_no
use Rattle.edd_syntax.specs.declared.operators.UnaryOperator.{UnaryOperator}
use Rattle.edd_syntax.specs.declared.operators.UnaryOperator.TheVariants as unary_operator
use Rattle.edd_syntax.specs.declared.reference.Target.{Target}
use Rattle.edd_syntax.specs.declared.reference.Target.TheVariants.{Item}
use Rattle.edd_syntax.specs.Expression.{Expr, Literal, Reference, Indexed, Parentheses, Unary, Binary, Compare, LogicalAnd, LogicalOr, Conditional}
use Rattle.edd_syntax.specs.Size.{height}
use Rattle.edd_instructions.specs.declared.instruction.Instruction.{Instruction}
use Rattle.edd_instructions.specs.declared.instruction.Instruction.TheVariants as instruction
use Rattle.edd_instructions.specs.Units.{takes, leaves}
use Rattle.edd_code.specs.Blocks.{Block, Nothing, Straight, Then, WhenNotZero, WhenZero, Either}
use Rattle.edd_code.specs.Flow.{Flows, depth_after, is_straight, left_of}
use Rattle.edd_code.specs.Expressions.{expression_block, item_block, read_block, item_element_block, element_block, no_element, unary_block, truth_block, then_test, instead, no_value}

-- ---- blocks

-- finds its operands among d, and leaves n of them
pub record Runs (b : Block) (d n : ℕ) : Type 0 where
  pub flows : Flows b d
  pub after : depth_after b d ≡ n

nothing_runs : (d : ℕ) → Runs Nothing d d
nothing_runs d = record { flows = tt; after = refl }

straight_runs : (i : Instruction) (d n : ℕ) → IsTrue (is_straight i) → takes i ≤ d → d ≤ 128
    → d - takes i + left_of (leaves i) ≡ n → Runs (Straight i) d n
straight_runs i d n is enough few at = record { flows = (is, enough, few); after = at }

then_runs : {a b : Block} {d n m : ℕ} → Runs a d n → Runs b n m → Runs (Then a b) d m
then_runs {b} p q = record {
  flows = (p.flows, subst (λ (x : ℕ). Flows b x) (sym p.after) q.flows);
  after = ap (depth_after b) p.after ∙ q.after;
}

when_not_zero_runs : (body : Block) (d n : ℕ) → d ≡ suc n → d ≤ 128 → Runs body n n
    → Runs (WhenNotZero body) d n
when_not_zero_runs body d n at few p =
    let less : n ≡ d - 1 = omega arith in
    record {
      flows = (
        omega arith,
        few,
        subst (λ (x : ℕ). Flows body x) less p.flows,
        ap (depth_after body) (sym less) ∙ p.after ∙ less,
      );
      after = sym less;
    }

when_zero_runs : (body : Block) (d n : ℕ) → d ≡ suc n → d ≤ 128 → Runs body n n
    → Runs (WhenZero body) d n
when_zero_runs body d n at few p =
    let less : n ≡ d - 1 = omega arith in
    record {
      flows = (
        omega arith,
        few,
        subst (λ (x : ℕ). Flows body x) less p.flows,
        ap (depth_after body) (sym less) ∙ p.after ∙ less,
      );
      after = sym less;
    }

either_runs : {first otherwise : Block} (d n m : ℕ) → d ≡ suc n → d ≤ 128 → m ≤ 128 → Runs first n m
    → Runs otherwise n m → Runs (Either first otherwise) d m
either_runs {first} {otherwise} d n m at few short p q =
    let less : n ≡ d - 1 = omega arith in
    let one : depth_after first (d - 1) ≡ m = ap (depth_after first) (sym less) ∙ p.after in
    let other : depth_after otherwise (d - 1) ≡ m = ap (depth_after otherwise) (sym less)
    ∙ q.after in
    record {
      flows = (
        omega arith,
        few,
        subst (λ (x : ℕ). Flows first x) less p.flows,
        subst (λ (x : ℕ). Flows otherwise x) less q.flows,
        other ∙ sym one,
        omega (arith, one),
      );
      after = one;
    }

-- ---- parts of expressions

no_value_runs : (d : ℕ) → d ≤ 128 → Runs no_value d (suc d)
no_value_runs d few = straight_runs (instruction.Push 0) d (suc d) refl (omega arith) few
    (omega arith)

item_runs : (i : ItemNo) (d : ℕ) → d ≤ 128 → Runs (item_block i) d (suc d)
item_runs (item_no.Variable v) d few = straight_runs (instruction.Variable v) d (suc d) refl
    (omega arith) few (omega arith)
item_runs _ d few = no_value_runs d few

read_runs : (t : Target) (d : ℕ) → d ≤ 128 → Runs (read_block t) d (suc d)
read_runs (Item i) d few = item_runs i d few
read_runs _ d few = no_value_runs d few

no_element_runs : (d : ℕ) → suc d ≤ 128 → Runs no_element (suc d) (suc d)
no_element_runs d few = then_runs (straight_runs instruction.Pop (suc d) d refl (omega arith) few
    (omega arith)) (no_value_runs d (omega arith))

item_element_runs : (i : ItemNo) (d : ℕ) → suc d ≤ 128
    → Runs (item_element_block i) (suc d) (suc d)
item_element_runs (item_no.Array n) d few = straight_runs (instruction.ReadElement n) (suc d)
    (suc d) refl (omega arith) few (omega arith)
item_element_runs _ d few = no_element_runs d few

element_runs : (array : Target) (d : ℕ) → suc d ≤ 128 → Runs (element_block array) (suc d) (suc d)
element_runs (Item i) d few = item_element_runs i d few
element_runs _ d few = no_element_runs d few

unary_runs : (op : UnaryOperator) (d : ℕ) → suc d ≤ 128 → Runs (unary_block op) (suc d) (suc d)
unary_runs unary_operator.Plus d few = nothing_runs (suc d)
unary_runs unary_operator.Minus d few = straight_runs instruction.Negate (suc d) (suc d) refl
    (omega arith) few (omega arith)
unary_runs unary_operator.Not d few = straight_runs instruction.Not (suc d) (suc d) refl
    (omega arith) few (omega arith)
unary_runs unary_operator.Complement d few = straight_runs instruction.Complement (suc d) (suc d)
    refl (omega arith) few (omega arith)

truth_runs : (d : ℕ) → suc d ≤ 128 → Runs truth_block (suc d) (suc d)
truth_runs d few =
    then_runs (unary_runs unary_operator.Not d few) (unary_runs unary_operator.Not d few)

-- a test of the topmost operand, which is as before after it
test_runs : {next : Block} (d : ℕ) → suc d ≤ 128 → Runs next (suc (suc d)) (suc d)
    → Runs (then_test next) (suc d) (suc d)
test_runs {next} d few p = then_runs (straight_runs instruction.Duplicate (suc d) (suc (suc d)) refl
    (omega arith) few (omega arith)) p

instead_runs : {right : Block} (d : ℕ) → suc d ≤ 128 → Runs right d (suc d)
    → Runs (instead right) (suc d) (suc d)
instead_runs {right} d few p =
    then_runs (straight_runs instruction.Pop (suc d) d refl (omega arith) few (omega arith))
    (then_runs p (truth_runs d few))

two_run : {left right : Block} {i : Instruction} (d : ℕ) → Runs left d (suc d)
    → Runs right (suc d) (suc (suc d)) → Runs (Straight i) (suc (suc d)) (suc d)
    → Runs (Then left (Then right (Straight i))) d (suc d)
two_run {left} {right} {i} d p q r = then_runs p (then_runs q r)

-- ---- expressions

high : (e : Expr Target) → 1 ≤ height e
high (Literal value) = omega arith
high _ = omega arith

pub expression_runs : (e : Expr Target) (d : ℕ) → d + height e ≤ 128
    → Runs (expression_block e) d (suc d)
unfolding expression_block
expression_runs (Literal value) d h = straight_runs (instruction.Push value) d (suc d) refl
    (omega arith) (omega arith) (omega arith)
expression_runs (Reference from) d h = read_runs from d (omega arith)
expression_runs (Indexed array index) d h =
    then_runs (expression_runs index d (omega arith)) (element_runs array d (omega arith))
expression_runs (Parentheses inner) d h = expression_runs inner d (omega arith)
expression_runs (Unary op operand) d h =
    then_runs (expression_runs operand d (omega arith)) (unary_runs op d (omega arith))
expression_runs (Binary op left right) d h =
    let few = high right in
    two_run d (expression_runs left d (omega arith)) (expression_runs right (suc d) (omega arith))
    (straight_runs (instruction.Operate op) (suc (suc d)) (suc d) refl (omega arith) (omega arith)
    (omega arith))
expression_runs (Compare by left right) d h =
    let few = high right in
    two_run d (expression_runs left d (omega arith)) (expression_runs right (suc d) (omega arith))
    (straight_runs (instruction.Compare by) (suc (suc d)) (suc d) refl (omega arith) (omega arith)
    (omega arith))
expression_runs (LogicalAnd left right) d h =
    let few = high right in
    let body = instead (expression_block right) in
    then_runs (expression_runs left d (omega arith))
    (test_runs d (omega arith) (when_not_zero_runs body (suc (suc d)) (suc d) refl (omega arith)
    (instead_runs d (omega arith) (expression_runs right d (omega arith)))))
expression_runs (LogicalOr left right) d h =
    let few = high right in
    let body = instead (expression_block right) in
    then_runs (expression_runs left d (omega arith)) (then_runs (truth_runs d (omega arith))
    (test_runs d (omega arith) (when_zero_runs body (suc (suc d)) (suc d) refl (omega arith)
    (instead_runs d (omega arith) (expression_runs right d (omega arith))))))
expression_runs (Conditional test first second) d h =
    then_runs (expression_runs test d (omega arith))
    (either_runs (suc d) d (suc d) refl (omega arith) (omega arith)
    (expression_runs first d (omega arith)) (expression_runs second d (omega arith)))
expression_runs _ d h = no_value_runs d (omega arith)
