-- The value of each operator fits the width of its operands, and what a variable keeps is in its
-- range.
use Rattle.std.proofs.Common.{◌≡◌, ℕ, zero, suc, ◌-◌, ◌*◌, ◌/◌, ◌<◌, ◌≤◌, ◌^◌, Bool, true, false, not, cond, ltb, ℤ, pos, negsuc, List, Option, Some, None, ◌-ℤ◌, ◌*ℤ◌, neg_ℤ, Result, Ok, Err, refl, sym, subst, ◌∙◌, arith}
use Rattle.std.proofs.Math.Nat.{mod-lt, pow-suc, div-le_self, mul-div-le, mul-le-mul_right}
use Rattle.std.proofs.lemmas.Nat.{pow_pos, or_lt, xor_lt}
use Rattle.std.proofs.lemmas.Int.{ints}
use Rattle.std.proofs.lemmas.Bool.{ltb-true, ltb-false, le-leb}
use Rattle.std.specs.Prelude.{◌&&◌, nat_lt, int_lt, int_le, int_div, int_rem}
use Rattle.std.specs.Int.{int_shr}
use Rattle.std.specs.Int.Bits.{and_lt}
use Rattle.std.specs.Int.Signed.{mag, mag_rem, mag_shr}
use Rattle.std.specs.Ordering.{int_eq}
use Rattle.edd_syntax.specs.declared.answer.Trap as trap
use Rattle.edd_syntax.specs.declared.answer.Trap.TheVariants as Trap
use Rattle.edd_syntax.specs.declared.operators.Operator.{Operator}
use Rattle.edd_syntax.specs.declared.operators.Operator.TheVariants as operator
use Rattle.edd_syntax.specs.declared.operators.Comparison.{Comparison}
use Rattle.edd_syntax.specs.declared.operators.Comparison.TheVariants as comparison
use Rattle.edd_syntax.specs.declared.operators.UnaryOperator.TheVariants as unary_operator
use Rattle.edd_syntax.specs.declared.numbers.VarNo.{VarNo}
use Rattle.edd_syntax.specs.declared.types.VarType.{VarType}
use Rattle.edd_syntax.specs.declared.types.VarType.TheVariants as var_type
use Rattle.edd_syntax.specs.TwosComplement.{residue, as_signed, wrap, store, truth, is_zero, divide, shift, operate, compare, apply}
use Rattle.edd_syntax.specs.DeviceValues.{VariableType, value_at, least, greatest, is_in_range}
use Rattle.edd_instructions.specs.declared.unit.Sort.{Sort}
use Rattle.edd_instructions.specs.declared.unit.Sort.TheVariants.{Attribute, Method}
use Rattle.edd_instructions.specs.Steps.{Fits, width_of}
use Rattle.edd_syntax.specs.Elements.{value_or_trap}

-- ---- residues

both : {a b : Bool} → a ≡ true → b ≡ true → (a && b) ≡ true
both p q = rw (p, q) refl

pub residue_below : (w : ℕ) (z : ℤ) → residue w z < 2 ^ w
residue_below w (pos a) = mod-lt a (pow_pos w)
residue_below w (negsuc a) = let h = pow_pos w in omega arith

fits_choice : (sort : Sort) (test : Bool) (a b : ℤ) → (test ≡ true → Fits sort a)
    → (test ≡ false → Fits sort b) → Fits sort (cond test a b)
fits_choice sort true a b p q = p refl
fits_choice sort false a b p q = q refl

as_signed_fits : (sort : Sort) (n : ℕ) → n < 2 ^ width_of sort
    → Fits sort (as_signed (width_of sort) n)
as_signed_fits Attribute n lt = fits_choice Attribute (ltb n (2 ^ 63)) (pos n)
    (negsuc (2 ^ 64 - suc n)) (λ e. let h = ltb-true n (2 ^ 63) e in omega (arith, ints))
    (λ e. let h = ltb-false n (2 ^ 63) e in omega (arith, ints))
as_signed_fits Method n lt = fits_choice Method (ltb n (2 ^ 31)) (pos n) (negsuc (2 ^ 32 - suc n))
    (λ e. let h = ltb-true n (2 ^ 31) e in omega (arith, ints))
    (λ e. let h = ltb-false n (2 ^ 31) e in omega (arith, ints))

pub wrap_fits : (sort : Sort) (z : ℤ) → Fits sort (wrap (width_of sort) z)
unfolding wrap
wrap_fits sort z = as_signed_fits sort (residue (width_of sort) z) (residue_below (width_of sort) z)

-- ---- operators

truth_fits : (sort : Sort) (b : Bool) → Fits sort (truth b)
truth_fits Attribute true = omega (arith, ints)
truth_fits Attribute false = omega (arith, ints)
truth_fits Method true = omega (arith, ints)
truth_fits Method false = omega (arith, ints)

pub compare_fits : (sort : Sort) (op : Comparison) (a b : ℤ) → Fits sort (compare op a b)
unfolding compare
compare_fits sort comparison.Equal a b = truth_fits sort (int_eq a b)
compare_fits sort comparison.NotEqual a b = truth_fits sort (not (int_eq a b))
compare_fits sort comparison.Less a b = truth_fits sort (int_lt a b)
compare_fits sort comparison.LessOrEqual a b = truth_fits sort (int_le a b)
compare_fits sort comparison.Greater a b = truth_fits sort (int_lt b a)
compare_fits sort comparison.GreaterOrEqual a b = truth_fits sort (int_le b a)

pub minus_fits : (sort : Sort) (a : ℤ) → Fits sort (apply (width_of sort) unary_operator.Minus a)
unfolding apply
minus_fits sort a = wrap_fits sort (neg_ℤ a)

pub not_fits : (sort : Sort) (a : ℤ) → Fits sort (apply (width_of sort) unary_operator.Not a)
unfolding apply
not_fits sort a = truth_fits sort (is_zero a)

pub complement_fits : (sort : Sort) (a : ℤ) → Fits sort a
    → Fits sort (apply (width_of sort) unary_operator.Complement a)
unfolding apply
complement_fits Attribute a fits = omega (arith, ints)
complement_fits Method a fits = omega (arith, ints)

rem_fits : (sort : Sort) (a b : ℤ) → Fits sort a → Fits sort (int_rem a b)
rem_fits Attribute a b fits = let h = mag_rem a b in omega arith
rem_fits Method a b fits = let h = mag_rem a b in omega arith

shr_fits : (sort : Sort) (a : ℤ) (n : ℕ) → Fits sort a → Fits sort (int_shr a n)
shr_fits Attribute a n fits = let h = mag_shr a (2 ^ n) in omega arith
shr_fits Method a n fits = let h = mag_shr a (2 ^ n) in omega arith

negated : (h n : ℕ) → 0 < h → n ≤ h → mag (neg_ℤ (pos n)) < h
negated h zero some le = some
negated h (suc n) some le = omega arith

overflows : (a h : ℕ) → a ≡ h → (int_eq (negsuc a) (negsuc h) && int_eq (negsuc 0) (negsuc 0))
    ≡ false → ⊥
overflows a h e ov =
    let same : int_eq (negsuc a) (negsuc h) ≡ true = grind (arith, ints) in
    let no_more : true ≡ false = sym (both same refl) ∙ ov in
    cc

-- half of a number of at most h is below h
halved : (h a b q : ℕ) → suc a ≤ h → suc (suc b) * q ≤ suc a → q < h
halved h a b zero le m = omega arith
halved h a b (suc q) le m =
    let more : 2 * suc q ≤ suc (suc b) * suc q = mul-le-mul_right {m = 2} {n = suc (suc b)} (suc q)
    (omega arith) in
    omega arith

-- a quotient is no greater than its dividend; only the least number by -1 leaves the width
quotient_fits : (h : ℕ) (a b : ℤ) → 0 < h → mag a < h → is_zero b ≡ false
    → (int_eq a (neg_ℤ (pos h)) && int_eq b (negsuc 0)) ≡ false → mag (int_div a b) < h
quotient_fits h (pos a) (pos b) some lt nz ov = let d = div-le_self a b in omega arith
quotient_fits h (pos a) (negsuc b) some lt nz ov = let d = div-le_self a (suc b) in negated h
    (a / suc b) some (omega arith)
quotient_fits h (negsuc a) (pos b) some lt nz ov = let d = div-le_self (suc a) b in negated h
    (suc a / b) some (omega arith)
quotient_fits zero (negsuc a) (negsuc b) some lt nz ov = absurd (omega arith)
quotient_fits (suc h) (negsuc a) (negsuc zero) some lt nz ov =
    let d = div-le_self (suc a) 1 in
    let ne : a ≡ h → ⊥ = λ e. overflows a h e ov in
    grind arith
quotient_fits (suc h) (negsuc a) (negsuc (suc b)) some lt nz ov =
    halved (suc h) a b (suc a / suc (suc b)) (omega arith) (mul-div-le (suc a) (suc (suc b)))

divide_fits : (sort : Sort) (f : ℤ → ℤ → ℤ) (a b z : ℤ)
    → (is_zero b ≡ false → (int_eq a (neg_ℤ (pos (2 ^ (width_of sort - 1)))) && int_eq b (negsuc 0))
    ≡ false → Fits sort (f a b)) → divide f (width_of sort) a b ≡ Ok z → Fits sort z
divide_fits sort f a b z fits e = by_zero (is_zero b) refl e
  where
    by_least : (test : Bool) → is_zero b ≡ false
        → (int_eq a (neg_ℤ (pos (2 ^ (width_of sort - 1)))) && int_eq b (negsuc 0)) ≡ test
        → cond test (Err Trap.DivOverflow) (Ok (f a b)) ≡ Ok z → Fits sort z
    by_least true nz ov h = absurd cc
    by_least false nz ov h =
        let same : f a b ≡ z = cc in
        subst (λ (x : ℤ). Fits sort x) same (fits nz ov)

    by_zero : (test : Bool) → is_zero b ≡ test
        → cond test (Err Trap.DivZero)
        (cond (int_eq a (neg_ℤ (pos (2 ^ (width_of sort - 1)))) && int_eq b (negsuc 0))
        (Err Trap.DivOverflow) (Ok (f a b))) ≡ Ok z → Fits sort z
    by_zero true nz h = absurd cc
    by_zero false nz h = by_least (int_eq a (neg_ℤ (pos (2 ^ (width_of sort - 1))))
        && int_eq b (negsuc 0)) nz refl h

div_fits : (sort : Sort) (a b : ℤ) → Fits sort a → is_zero b ≡ false
    → (int_eq a (neg_ℤ (pos (2 ^ (width_of sort - 1)))) && int_eq b (negsuc 0)) ≡ false
    → Fits sort (int_div a b)
div_fits Attribute a b fits nz ov = let h = quotient_fits (2 ^ 63) a b (omega arith) (omega arith)
    nz ov in omega arith
div_fits Method a b fits nz ov = let h = quotient_fits (2 ^ 31) a b (omega arith) (omega arith) nz
    ov in omega arith

shift_fits : (sort : Sort) (f : ℤ → ℕ → ℤ) (a b z : ℤ) → ((n : ℕ) → Fits sort (f a n))
    → shift f (width_of sort) a b ≡ Ok z → Fits sort z
shift_fits sort f a (pos n) z fits e = by_count (nat_lt n (width_of sort)) e
  where
    by_count : (test : Bool) → cond test (Ok (f a n)) (Err Trap.BadShift) ≡ Ok z → Fits sort z
    by_count true h =
        let same : f a n ≡ z = cc in
        subst (λ (x : ℤ). Fits sort x) same (fits n)
    by_count false h = absurd cc
shift_fits sort f a (negsuc n) z fits e = absurd cc

is_ok : (sort : Sort) (x z : ℤ) → Fits sort x → ◌≡◌ {A = Result ℤ trap.Trap} (Ok x) (Ok z)
    → Fits sort z
is_ok sort x z fits e =
    let same : x ≡ z = cc in
    subst (λ (y : ℤ). Fits sort y) same fits

pub operate_fits : (sort : Sort) (op : Operator) (a b z : ℤ) → Fits sort a → Fits sort b
    → operate (width_of sort) op a b ≡ Ok z → Fits sort z
unfolding operate
operate_fits sort operator.Add a b z p q e = is_ok sort _ z (wrap_fits sort _) e
operate_fits sort operator.Subtract a b z p q e = is_ok sort _ z (wrap_fits sort _) e
operate_fits sort operator.Multiply a b z p q e = is_ok sort _ z (wrap_fits sort _) e
operate_fits sort operator.Divide a b z p q e =
    divide_fits sort int_div a b z (λ nz ov. div_fits sort a b p nz ov) e
operate_fits sort operator.Remainder a b z p q e =
    divide_fits sort int_rem a b z (λ nz ov. rem_fits sort a b p) e
operate_fits sort operator.ShiftLeft a b z p q e =
    shift_fits sort (λ x n. wrap (width_of sort) (x *ℤ pos (2 ^ n))) a b z
    (λ n. wrap_fits sort (a *ℤ pos (2 ^ n))) e
operate_fits sort operator.ShiftRight a b z p q e =
    shift_fits sort int_shr a b z (λ n. shr_fits sort a n p) e
operate_fits sort operator.And a b z p q e = let w =
    width_of sort in is_ok sort _ z
    (as_signed_fits sort _ (and_lt w (residue w a) (residue w b) (residue_below w a)
    (residue_below w b))) e
operate_fits sort operator.Or a b z p q e = let w =
    width_of sort in is_ok sort _ z
    (as_signed_fits sort _ (or_lt w (residue w a) (residue w b) (residue_below w a)
    (residue_below w b))) e
operate_fits sort operator.Xor a b z p q e = let w =
    width_of sort in is_ok sort _ z
    (as_signed_fits sort _ (xor_lt w (residue w a) (residue w b) (residue_below w a)
    (residue_below w b))) e

-- ---- elements

pub value_fits : (sort : Sort) (values : List ℤ) (found : Option VarNo) (z : ℤ)
    → value_or_trap (width_of sort) values found ≡ Ok z → Fits sort z
value_fits sort values None z e = absurd cc
value_fits sort values (Some v) z e = is_ok sort _ z (wrap_fits sort (value_at values v)) e

-- ---- what a variable keeps

one_less : (n : ℕ) → pos (suc n) -ℤ pos 1 ≡ pos n
one_less n = grind (arith, ints)

-- the signed numbers of which there are n, half of them or less below zero
signed_in : (half n r : ℕ) → 0 < half → n ≤ 2 * half → r < n
    → (int_le (neg_ℤ (pos half)) (cond (ltb r half) (pos r) (negsuc (n - suc r)))
    && int_le (cond (ltb r half) (pos r) (negsuc (n - suc r))) (pos half -ℤ pos 1)) ≡ true
signed_in zero n r some le lt = absurd (omega arith)
signed_in (suc h) n r some le lt = by_half (ltb r (suc h)) refl
  where
    by_half : (test : Bool) → ltb r (suc h) ≡ test
        → (int_le (negsuc h) (cond test (pos r) (negsuc (n - suc r)))
        && int_le (cond test (pos r) (negsuc (n - suc r))) (pos (suc h) -ℤ pos 1)) ≡ true
    by_half true e = let below = ltb-true r (suc h) e in rw (one_less h)
        (both refl (le-leb r h (omega arith)))
    by_half false e = let above = ltb-false r (suc h) e in rw (one_less h)
        (both (le-leb (n - suc r) h (omega arith)) refl)

unsigned_in : (n r : ℕ) → r < n → (int_le (pos 0) (pos r) && int_le (pos r) (pos n -ℤ pos 1)) ≡ true
unsigned_in zero r lt = absurd (omega arith)
unsigned_in (suc n) r lt =
    rw (one_less n) (both (le-leb 0 r (omega arith)) (le-leb r n (omega arith)))

two_halves : (w : ℕ) → 2 ^ w ≤ 2 * 2 ^ (w - 1)
two_halves zero = omega arith
two_halves (suc w) =
    let e : suc w - 1 ≡ w = omega arith in
    let q = pow-suc 2 w in
    subst (λ (k : ℕ). 2 ^ suc w ≤ 2 * 2 ^ k) (sym e) (omega arith)

pub store_in_range : (t : VariableType) (z : ℤ) → is_in_range t (store t.type t.size z) ≡ true
unfolding store wrap
store_in_range t z = by_type t.type t.size
  where
    by_type : (type : VarType) (size : ℕ)
        → (int_le (least type size) (store type size z)
        && int_le (store type size z) (greatest type size)) ≡ true
    by_type var_type.Integer size = signed_in (2 ^ (8 * size - 1)) (2 ^ (8 * size))
        (residue (8 * size) z) (pow_pos (8 * size - 1)) (two_halves (8 * size))
        (residue_below (8 * size) z)
    by_type var_type.UnsignedInteger size = unsigned_in (2 ^ (8 * size)) (residue (8 * size) z)
        (residue_below (8 * size) z)
    by_type var_type.Enumerated size = unsigned_in (2 ^ (8 * size)) (residue (8 * size) z)
        (residue_below (8 * size) z)
    by_type var_type.BitEnumerated size = unsigned_in (2 ^ (8 * size)) (residue (8 * size) z)
        (residue_below (8 * size) z)
