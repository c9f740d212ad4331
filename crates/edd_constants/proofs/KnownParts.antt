-- What is known of an expression, from what is known of its parts.
use Rattle.std.proofs.Common.{◌≡◌, ℕ, zero, suc, ◌<◌, ℤ, true, false, List, [], ◌∷◌, length, get_or, map, neg_ℤ, subst, sym, ap, ◌∙◌, arith}
use Rattle.edd_syntax.specs.declared.expr.Argument.{Argument}
use Rattle.edd_syntax.specs.TreeView.{numbered_argument}
use Rattle.edd_syntax.specs.Expression as tree
use Rattle.edd_syntax.specs.declared.answer.Trap.{Trap}
use Rattle.edd_syntax.specs.declared.operators.Comparison.{Comparison}
use Rattle.edd_syntax.specs.declared.operators.Operator.{Operator}
use Rattle.edd_syntax.specs.declared.reference.Target.{Target}
use Rattle.edd_syntax.specs.Expression.{Expr, Binary, Compare, LogicalAnd, LogicalOr, Conditional, Assign, CompoundAssign, Indexed, Reference}
use Rattle.edd_syntax.specs.declared.operators.UnaryOperator.{UnaryOperator}
use Rattle.edd_syntax.specs.declared.operators.UnaryOperator.TheVariants as unary_operator
use Rattle.edd_syntax.specs.TwosComplement.{is_zero, apply}
use Rattle.edd_instructions.specs.Steps.{Fits, width_of}
use Rattle.edd_instructions.proofs.Widths.{wrap_fits, not_fits, complement_fits}
use Rattle.edd_constants.specs.Constants.{HasValue, HasNone, IsKnown, KnownFits, truth_of, unused}
use Rattle.edd_instructions.specs.declared.unit.Sort.{Sort}
use Rattle.edd_instructions.specs.declared.unit.Sort.TheVariants.{Method}
use Rattle.edd_constants.specs.declared.constants.Known.{Known}
use Rattle.edd_constants.specs.declared.constants.Known.TheVariants.{Number, Traps, Nothing}
use Rattle.edd_constants.proofs.KnownForms.{and_value, and_second, or_value, or_second, compare_second, both_none, indexed_none, assign_none, compound_none, HasStop, Here, Later}

-- a known number, as it is read again
pub the_number : (sort : Sort) (a : Expr Target) (k : Known) (n x : ℤ) → k ≡ Number n → x ≡ n
    → IsKnown sort a k → HasValue sort a x
the_number sort a k n x is same h =
    let P : Known → Type 0 = λ x. IsKnown sort a x in
    rw same (subst P is h)

-- it fits the width
pub the_fit : (sort : Sort) (k : Known) (n x : ℤ) → k ≡ Number n → x ≡ n → KnownFits sort k
    → Fits sort x
the_fit sort k n x is same h =
    let P : Known → Type 0 = λ k. KnownFits sort k in
    rw same (subst P is h)

-- what traps has no value
pub the_trap : (sort : Sort) (a : Expr Target) (k : Known) (why : Trap) → k ≡ Traps why
    → IsKnown sort a k → HasNone sort a
the_trap sort a k why is h =
    let P : Known → Type 0 = λ x. IsKnown sort a x in
    subst P is h

-- an operator before its operand keeps to the width
pub apply_fits : (sort : Sort) (op : UnaryOperator) (a : ℤ) → Fits sort a
    → Fits sort (apply (width_of sort) op a)
unfolding apply
apply_fits sort unary_operator.Plus a fits = fits
apply_fits sort unary_operator.Minus a fits = wrap_fits sort (neg_ℤ a)
apply_fits sort unary_operator.Not a fits = not_fits sort a
apply_fits sort unary_operator.Complement a fits = complement_fits sort a fits

-- ---- what a function of the code makes of what is known

pub and_truth : (sort : Sort) (a b : Expr Target) (x : ℤ) (k : Known) → HasValue sort a x
    → is_zero x ≡ false → IsKnown sort b k → IsKnown sort (LogicalAnd a b) (truth_of k)
and_truth sort a b x (Number n) h test is = and_value sort a b x n h test is
and_truth sort a b x (Traps why) h test is = and_second sort a b x h test is
and_truth sort a b x Nothing h test is = tt

pub or_truth : (sort : Sort) (a b : Expr Target) (x : ℤ) (k : Known) → HasValue sort a x
    → is_zero x ≡ true → IsKnown sort b k → IsKnown sort (LogicalOr a b) (truth_of k)
or_truth sort a b x (Number n) h test is = or_value sort a b x n h test is
or_truth sort a b x (Traps why) h test is = or_second sort a b x h test is
or_truth sort a b x Nothing h test is = tt

pub compare_unused : (sort : Sort) (by : Comparison) (a b : Expr Target) (k : Known)
    → IsKnown sort b k → IsKnown sort (Compare by a b) (unused k)
compare_unused sort by a b (Traps why) is = compare_second sort by a b is
compare_unused sort by a b _ is = tt

pub either_unused : (sort : Sort) (t a b : Expr Target) (k : Known) → IsKnown sort a k
    → HasNone sort b → IsKnown sort (Conditional t a b) (unused k)
either_unused sort t a b (Traps why) is h = both_none sort t a b is h
either_unused sort t a b _ is h = tt

pub indexed_unused : (sort : Sort) (array : Target) (a : Expr Target) (k : Known)
    → IsKnown sort a k → IsKnown sort (Indexed array a) (unused k)
indexed_unused sort array a (Traps why) is = indexed_none sort array a is
indexed_unused sort array a _ is = tt

pub assign_unused : (to : Target) (a : Expr Target) (k : Known) → IsKnown Method a k
    → IsKnown Method (Assign to a) (unused k)
assign_unused to a (Traps why) is = assign_none to a is
assign_unused to a _ is = tt

pub compound_unused : (op : Operator) (to : Target) (a : Expr Target) (k : Known)
    → IsKnown Method (Binary op (Reference to) a) k
    → IsKnown Method (CompoundAssign op to a) (unused k)
compound_unused op to a (Traps why) is = compound_none op to a is
compound_unused op to a _ is = tt

-- one of the arguments of a call stops
pub stop_at : (xs : List (Argument Target)) (i : ℕ) (x : Argument Target) (e : tree.Expr Target)
    → i < length xs → x ≡ get_or xs i x → numbered_argument x ≡ tree.Value e → HasNone Method e
    → HasStop (map numbered_argument xs)
stop_at [] i x e lt is value none = absurd (omega arith)
stop_at (y ∷ ys) zero x e lt is value none =
    rw (ap numbered_argument (sym is) ∙ value) (Here e (map numbered_argument ys) none)
stop_at (y ∷ ys) (suc i) x e lt is value none = Later (numbered_argument y)
    (map numbered_argument ys) (stop_at ys i x e (omega arith) is value none)
