-- Blocks of methods that find their operands.
use Rattle.std.proofs.Common.{◌≡◌, refl, sym, ap, subst, ◌∙◌, ℕ, suc, ◌+◌, ◌-◌, ◌≤◌, arith}
use Rattle.std.specs.Prelude.{IsTrue}
use Rattle.edd_syntax.specs.declared.numbers.ItemNo.{ItemNo}
use Rattle.edd_syntax.specs.declared.numbers.ItemNo.TheVariants as item_no
use Rattle.edd_syntax.specs.declared.operators.Operator.{Operator}
use Rattle.edd_syntax.specs.declared.operators.Operator.TheVariants as operator
use Rattle.edd_syntax.specs.declared.operators.UnaryOperator.{UnaryOperator}
use Rattle.edd_syntax.specs.declared.operators.UnaryOperator.TheVariants as unary_operator
use Rattle.edd_syntax.specs.declared.operators.IncrementOperator.{IncrementOperator}
use Rattle.edd_syntax.specs.declared.operators.IncrementOperator.TheVariants.{PreIncrement, PostIncrement, PreDecrement, PostDecrement}
use Rattle.edd_syntax.specs.declared.reference.Target.{Target}
use Rattle.edd_syntax.specs.declared.reference.Target.TheVariants.{Local, Item, Function}
use Rattle.edd_instructions.specs.declared.instruction.Instruction.{Instruction}
use Rattle.edd_instructions.specs.declared.instruction.Instruction.TheVariants as instruction
use Rattle.edd_image.specs.declared.versions.Version.TheVariants.{Two}
use Rattle.edd_instructions.specs.declared.unit.Sort.TheVariants.{Method}
use Rattle.edd_instructions.specs.Units.{takes, leaves}
use Rattle.edd_code.specs.Blocks.{Block, Nothing, Straight, Then, WhenNotZero, WhenZero, Either}
use Rattle.edd_code.specs.Expressions.{no_value, item_block, item_element_block, element_block, no_element, unary_block, truth_block, then_test, instead}
use Rattle.edd_code.specs.Flow.{depth_after, left_of, is_straight_in, FlowsIn}
use Rattle.edd_code.specs.MethodExpressions.{load_block, store_item_block, store_block, store_next_block, store_behind_block, increment_block}

-- ---- blocks

-- finds its operands among d, and leaves n of them
pub record Runs (b : Block) (d n : ℕ) : Type 0 where
  pub flows : FlowsIn Two Method b d
  pub after : depth_after b d ≡ n

pub nothing_runs : (d : ℕ) → Runs Nothing d d
nothing_runs d = record { flows = tt; after = refl }

pub straight_runs : (i : Instruction) (d n : ℕ) → IsTrue (is_straight_in Two Method i) → takes i ≤ d
    → d ≤ 128 → d - takes i + left_of (leaves i) ≡ n → Runs (Straight i) d n
straight_runs i d n is enough few at = record { flows = (is, enough, few); after = at }

pub then_runs : (a b : Block) (d n m : ℕ) → Runs a d n → Runs b n m → Runs (Then a b) d m
then_runs a b d n m p q = record {
  flows = (p.flows, subst (λ (x : ℕ). FlowsIn Two Method b x) (sym p.after) q.flows);
  after = ap (depth_after b) p.after ∙ q.after;
}

when_not_zero_runs : {body : Block} (d n : ℕ) → d ≡ suc n → d ≤ 128 → Runs body n n
    → Runs (WhenNotZero body) d n
when_not_zero_runs {body} d n at few p =
    let less : n ≡ d - 1 = omega arith in
    record {
      flows = (
        omega arith,
        few,
        subst (λ (x : ℕ). FlowsIn Two Method body x) less p.flows,
        ap (depth_after body) (sym less) ∙ p.after ∙ less,
      );
      after = sym less;
    }

when_zero_runs : {body : Block} (d n : ℕ) → d ≡ suc n → d ≤ 128 → Runs body n n
    → Runs (WhenZero body) d n
when_zero_runs {body} d n at few p =
    let less : n ≡ d - 1 = omega arith in
    record {
      flows = (
        omega arith,
        few,
        subst (λ (x : ℕ). FlowsIn Two Method body x) less p.flows,
        ap (depth_after body) (sym less) ∙ p.after ∙ less,
      );
      after = sym less;
    }

pub either_runs : {first otherwise : Block} (d n m : ℕ) → d ≡ suc n → d ≤ 128 → m ≤ 128
    → Runs first n m → Runs otherwise n m → Runs (Either first otherwise) d m
either_runs {first} {otherwise} d n m at few short p q =
    let less : n ≡ d - 1 = omega arith in
    let one : depth_after first (d - 1) ≡ m = ap (depth_after first) (sym less) ∙ p.after in
    let other : depth_after otherwise (d - 1) ≡ m = ap (depth_after otherwise) (sym less)
    ∙ q.after in
    record {
      flows = (
        omega arith,
        few,
        subst (λ (x : ℕ). FlowsIn Two Method first x) less p.flows,
        subst (λ (x : ℕ). FlowsIn Two Method otherwise x) less q.flows,
        other ∙ sym one,
        omega (arith, one),
      );
      after = one;
    }

-- an instruction that puts one operand on top, in place of the topmost, or in place of the two
-- topmost
pub push_runs : (i : Instruction) (d : ℕ) → IsTrue (is_straight_in Two Method i) → takes i ≡ 0
    → left_of (leaves i) ≡ 1 → d ≤ 128 → Runs (Straight i) d (suc d)
push_runs i d is none one few = straight_runs i d (suc d) is (omega (arith, none)) few
    (omega (arith, none, one))

pub change_runs : (i : Instruction) (d : ℕ) → IsTrue (is_straight_in Two Method i) → takes i ≡ 1
    → left_of (leaves i) ≡ 1 → suc d ≤ 128 → Runs (Straight i) (suc d) (suc d)
change_runs i d is taken one few = straight_runs i (suc d) (suc d) is (omega (arith, taken)) few
    (omega (arith, taken, one))

pub join_runs : (i : Instruction) (d : ℕ) → IsTrue (is_straight_in Two Method i) → takes i ≡ 2
    → left_of (leaves i) ≡ 1 → suc (suc d) ≤ 128 → Runs (Straight i) (suc (suc d)) (suc d)
join_runs i d is taken one few = straight_runs i (suc (suc d)) (suc d) is (omega (arith, taken)) few
    (omega (arith, taken, one))

pub pop_runs : (d : ℕ) → suc d ≤ 128 → Runs (Straight instruction.Pop) (suc d) d
pop_runs d few = straight_runs instruction.Pop (suc d) d refl (omega arith) few (omega arith)

duplicate_runs : (d : ℕ) → suc d ≤ 128 → Runs (Straight instruction.Duplicate) (suc d) (suc (suc d))
duplicate_runs d few = straight_runs instruction.Duplicate (suc d) (suc (suc d)) refl (omega arith)
    few (omega arith)

-- ---- locals and variables

pub no_value_runs : (d : ℕ) → d ≤ 128 → Runs no_value d (suc d)
no_value_runs d few = push_runs (instruction.Push 0) d refl refl refl few

item_runs : (i : ItemNo) (d : ℕ) → d ≤ 128 → Runs (item_block i) d (suc d)
item_runs (item_no.Variable v) d few = push_runs (instruction.Variable v) d refl refl refl few
item_runs _ d few = no_value_runs d few

no_element_runs : (d : ℕ) → suc d ≤ 128 → Runs no_element (suc d) (suc d)
no_element_runs d few = then_runs (Straight instruction.Pop) no_value (suc d) d (suc d)
    (pop_runs d few) (no_value_runs d (omega arith))

item_element_runs : (i : ItemNo) (d : ℕ) → suc d ≤ 128
    → Runs (item_element_block i) (suc d) (suc d)
item_element_runs (item_no.Array n) d few = change_runs (instruction.ReadElement n) d refl refl refl
    few
item_element_runs _ d few = no_element_runs d few

pub element_runs : (t : Target) (d : ℕ) → suc d ≤ 128 → Runs (element_block t) (suc d) (suc d)
element_runs (Item i) d few = item_element_runs i d few
element_runs _ d few = no_element_runs d few

pub read_runs : (t : Target) (d : ℕ) → d ≤ 128 → Runs (load_block t) d (suc d)
read_runs (Local slot) d few = push_runs (instruction.GetLocal slot) d refl refl refl few
read_runs (Item i) d few = item_runs i d few
read_runs (Function f) d few = no_value_runs d few

store_item_runs : (i : ItemNo) (d : ℕ) → suc d ≤ 128 → Runs (store_item_block i) (suc d) (suc d)
store_item_runs (item_no.Variable v) d few = change_runs (instruction.Store v) d refl refl refl few
store_item_runs _ d few = nothing_runs (suc d)

pub store_runs : (t : Target) (d : ℕ) → suc d ≤ 128 → Runs (store_block t) (suc d) (suc d)
store_runs (Local slot) d few = change_runs (instruction.SetLocal slot) d refl refl refl few
store_runs (Item i) d few = store_item_runs i d few
store_runs (Function f) d few = nothing_runs (suc d)

-- ---- operators

pub unary_runs : (op : UnaryOperator) (d : ℕ) → suc d ≤ 128 → Runs (unary_block op) (suc d) (suc d)
unary_runs unary_operator.Plus d few = nothing_runs (suc d)
unary_runs unary_operator.Minus d few = change_runs instruction.Negate d refl refl refl few
unary_runs unary_operator.Not d few = change_runs instruction.Not d refl refl refl few
unary_runs unary_operator.Complement d few = change_runs instruction.Complement d refl refl refl few

pub operate_runs : (op : Operator) (d : ℕ) → suc (suc d) ≤ 128
    → Runs (Straight (instruction.Operate op)) (suc (suc d)) (suc d)
operate_runs op d few = join_runs (instruction.Operate op) d refl refl refl few

pub two_run : {left right last : Block} (d : ℕ) → Runs left d (suc d) → Runs right (suc d)
    (suc (suc d)) → Runs last (suc (suc d)) (suc d) → Runs (Then left (Then right last)) d (suc d)
two_run {left} {right} {last} d p q r = then_runs left (Then right last) d (suc d) (suc d) p
    (then_runs right last (suc d) (suc (suc d)) (suc d) q r)

-- ---- `++` and `--`

store_next_runs : (op : Operator) (to : Target) (d : ℕ) → suc (suc d) ≤ 128
    → Runs (store_next_block op to) (suc d) (suc d)
store_next_runs op to d few =
    then_runs (Straight (instruction.Push 1))
    (Then (Straight (instruction.Operate op)) (store_block to)) (suc d) (suc (suc d)) (suc d)
    (push_runs (instruction.Push 1) (suc d) refl refl refl (omega arith))
    (then_runs (Straight (instruction.Operate op)) (store_block to) (suc (suc d)) (suc d) (suc d)
    (operate_runs op d few) (store_runs to d (omega arith)))

store_behind_runs : (op : Operator) (to : Target) (d : ℕ) → suc (suc (suc d)) ≤ 128
    → Runs (store_behind_block op to) (suc d) (suc d)
store_behind_runs op to d few =
    then_runs (Straight instruction.Duplicate)
    (Then (store_next_block op to) (Straight instruction.Pop)) (suc d) (suc (suc d)) (suc d)
    (duplicate_runs d (omega arith))
    (then_runs (store_next_block op to) (Straight instruction.Pop) (suc (suc d)) (suc (suc d))
    (suc d) (store_next_runs op to (suc d) few) (pop_runs (suc d) (omega arith)))

pub increment_runs : (op : IncrementOperator) (to : Target) (d : ℕ) → suc (suc (suc d)) ≤ 128
    → Runs (increment_block op to) d (suc d)
increment_runs PreIncrement to d few = then_runs (load_block to) (store_next_block operator.Add to)
    d (suc d) (suc d) (read_runs to d (omega arith))
    (store_next_runs operator.Add to d (omega arith))
increment_runs PostIncrement to d few =
    then_runs (load_block to) (store_behind_block operator.Add to) d (suc d) (suc d)
    (read_runs to d (omega arith)) (store_behind_runs operator.Add to d few)
increment_runs PreDecrement to d few =
    then_runs (load_block to) (store_next_block operator.Subtract to) d (suc d) (suc d)
    (read_runs to d (omega arith)) (store_next_runs operator.Subtract to d (omega arith))
increment_runs PostDecrement to d few =
    then_runs (load_block to) (store_behind_block operator.Subtract to) d (suc d) (suc d)
    (read_runs to d (omega arith)) (store_behind_runs operator.Subtract to d few)

-- ---- `&&` and `||`

pub truth_runs : (d : ℕ) → suc d ≤ 128 → Runs truth_block (suc d) (suc d)
truth_runs d few = then_runs (Straight instruction.Not) (Straight instruction.Not) (suc d) (suc d)
    (suc d) (unary_runs unary_operator.Not d few) (unary_runs unary_operator.Not d few)

-- a test of the topmost operand, which is as before after it
test_runs : {next : Block} (d : ℕ) → suc d ≤ 128 → Runs next (suc (suc d)) (suc d)
    → Runs (then_test next) (suc d) (suc d)
test_runs {next} d few p = then_runs (Straight instruction.Duplicate) next (suc d) (suc (suc d))
    (suc d) (duplicate_runs d few) p

instead_runs : (right : Block) (d : ℕ) → suc d ≤ 128 → Runs right d (suc d)
    → Runs (instead right) (suc d) (suc d)
instead_runs right d few p =
    then_runs (Straight instruction.Pop) (Then right truth_block) (suc d) d (suc d) (pop_runs d few)
    (then_runs right truth_block d (suc d) (suc d) p (truth_runs d few))

pub and_runs : {right : Block} (d : ℕ) → suc (suc d) ≤ 128 → Runs right d (suc d)
    → Runs (then_test (WhenNotZero (instead right))) (suc d) (suc d)
and_runs {right} d few p = test_runs d (omega arith)
    (when_not_zero_runs (suc (suc d)) (suc d) refl few (instead_runs right d (omega arith) p))

pub or_runs : {right : Block} (d : ℕ) → suc (suc d) ≤ 128 → Runs right d (suc d)
    → Runs (Then truth_block (then_test (WhenZero (instead right)))) (suc d) (suc d)
or_runs {right} d few p =
    then_runs truth_block (then_test (WhenZero (instead right))) (suc d) (suc d) (suc d)
    (truth_runs d (omega arith)) (test_runs d (omega arith)
    (when_zero_runs (suc (suc d)) (suc d) refl few (instead_runs right d (omega arith) p)))
