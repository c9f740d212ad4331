-- Numbers wrapped to 64 and to 32 bits, as the code computes them.
use Rattle.std.proofs.Common.{◌≡◌, ℕ, suc, ◌-◌, ◌<◌, ◌^◌, Bool, true, false, cond, ltb, ℤ, pos, negsuc, ◌+ℤ◌, ◌-ℤ◌, ◌*ℤ◌, neg_ℤ, w32, w64, FitsSigned, to_z, of_z, refl, ap, sym, ◌∙◌, arith}
use Rattle.std.specs.Int.{Width, int_wrap, int_wrapping_add, int_wrapping_sub, int_wrapping_mul, int_wrapping_neg, int_shl}
use mir.Val.{sel, bits}
use Rattle.std.proofs.Math.Nat.{mod-eq_of_lt}
use Rattle.std.proofs.lemmas.Nat.{pow_below}
use Rattle.std.proofs.lemmas.Int.{ints, to_z-of_z, wrapping_add_is, wrapping_sub_is, wrapping_mul_is, wrapping_neg_is, wrapping_mul-bits, int_wrap-mul_right}
use Rattle.std.proofs.lemmas.Bool.Decides.{Decides-int_eq}
use Rattle.std.proofs.Math.Facts.{sfits_widen}
use Rattle.std.specs.Ordering.{int_eq}
use Rattle.std.specs.Prelude.{◌&&◌, int_div, Ok}
use Rattle.edd_syntax.specs.declared.operators.Operator.TheVariants as operator
use Rattle.edd_syntax.specs.TwosComplement.{residue, wrap, divide, operate}
use Rattle.edd_instructions.specs.declared.unit.Sort.{Sort}
use Rattle.edd_instructions.specs.declared.unit.Sort.TheVariants.{Attribute, Method}
use Rattle.edd_instructions.specs.Steps.{Fits, width_of}
use Rattle.edd_instructions.proofs.Widths.{operate_fits}

cond_sel : (b : Bool) (x y : ℤ) → cond b x y ≡ sel b x y
cond_sel true x y = refl
cond_sel false x y = refl

pub wrap_64 : (z : ℤ) → wrap 64 z ≡ int_wrap w64 z
unfolding wrap int_wrap
wrap_64 z = cond_sel (ltb (residue 64 z) (2 ^ 63)) (pos (residue 64 z))
    (negsuc (2 ^ 64 - suc (residue 64 z)))

pub wrap_32 : (z : ℤ) → wrap 32 z ≡ int_wrap w32 z
unfolding wrap int_wrap
wrap_32 z = cond_sel (ltb (residue 32 z) (2 ^ 31)) (pos (residue 32 z))
    (negsuc (2 ^ 32 - suc (residue 32 z)))

-- ---- 32 bits of numbers of 64

-- a number after it was read again
abbrev pub again : ℤ → ℤ
again z = to_z w64 (of_z w64 z)

pub short_add : (a b r : ℤ) → FitsSigned w64 a → FitsSigned w64 b → FitsSigned w64 r
    → FitsSigned w32 a → FitsSigned w32 b → r ≡ int_wrapping_add w32 (again a) (again b)
    → again r ≡ wrap 32 (a +ℤ b)
short_add a b r fa fb fr ga gb e =
    to_z-of_z w64 r fr ∙ e ∙ ap (λ (x : ℤ). int_wrapping_add w32 x (again b)) (to_z-of_z w64 a fa)
    ∙ ap (λ (x : ℤ). int_wrapping_add w32 a x) (to_z-of_z w64 b fb)
    ∙ wrapping_add_is w32 a b ga gb ∙ sym (wrap_32 (a +ℤ b))

pub short_sub : (a b r : ℤ) → FitsSigned w64 a → FitsSigned w64 b → FitsSigned w64 r
    → FitsSigned w32 a → FitsSigned w32 b → r ≡ int_wrapping_sub w32 (again a) (again b)
    → again r ≡ wrap 32 (a -ℤ b)
short_sub a b r fa fb fr ga gb e =
    to_z-of_z w64 r fr ∙ e ∙ ap (λ (x : ℤ). int_wrapping_sub w32 x (again b)) (to_z-of_z w64 a fa)
    ∙ ap (λ (x : ℤ). int_wrapping_sub w32 a x) (to_z-of_z w64 b fb)
    ∙ wrapping_sub_is w32 a b ga gb ∙ sym (wrap_32 (a -ℤ b))

pub short_mul : (a b r : ℤ) → FitsSigned w64 a → FitsSigned w64 b → FitsSigned w64 r
    → FitsSigned w32 a → FitsSigned w32 b → r ≡ int_wrapping_mul w32 (again a) (again b)
    → again r ≡ wrap 32 (a *ℤ b)
short_mul a b r fa fb fr ga gb e =
    to_z-of_z w64 r fr ∙ e ∙ ap (λ (x : ℤ). int_wrapping_mul w32 x (again b)) (to_z-of_z w64 a fa)
    ∙ ap (λ (x : ℤ). int_wrapping_mul w32 a x) (to_z-of_z w64 b fb)
    ∙ wrapping_mul_is w32 a b ga gb ∙ sym (wrap_32 (a *ℤ b))

pub short_neg : (a n r : ℤ) → FitsSigned w64 a → FitsSigned w64 r → FitsSigned w32 a
    → FitsSigned w32 n → n ≡ int_wrapping_neg w32 (to_z w32 (of_z w32 (again a)))
    → r ≡ to_z w32 (of_z w32 n) → again r ≡ wrap 32 (neg_ℤ a)
short_neg a n r fa fr ga gn en er =
    to_z-of_z w64 r fr ∙ er ∙ to_z-of_z w32 n gn ∙ en
    ∙ ap (λ (x : ℤ). int_wrapping_neg w32 (to_z w32 (of_z w32 x))) (to_z-of_z w64 a fa)
    ∙ ap (int_wrapping_neg w32) (to_z-of_z w32 a ga) ∙ wrapping_neg_is w32 a ga
    ∙ sym (wrap_32 (neg_ℤ a))

-- ---- shifts to the left

pub power_read : (w : Width) (n : ℕ) → n < 2 ^ bits w → to_z w n ≡ int_wrap w (pos n)
unfolding int_wrap
power_read w n lt = ap (to_z w) (sym (mod-eq_of_lt lt))

shl_is : (w : Width) (a : ℤ) (k : ℕ) → FitsSigned w a → of_z w a < 2 ^ bits w → 2 ^ k < 2 ^ bits w
    → int_shl w a k ≡ int_wrap w (a *ℤ pos (2 ^ k))
shl_is w a k fits below small =
    wrapping_mul-bits w (of_z w a) (2 ^ k) below small
    ∙ ap (λ (x : ℤ). int_wrap w (x *ℤ to_z w (2 ^ k))) (to_z-of_z w a fits)
    ∙ ap (λ (x : ℤ). int_wrap w (a *ℤ x)) (power_read w (2 ^ k) small)
    ∙ int_wrap-mul_right w a (pos (2 ^ k))

pub shl_64 : (a : ℤ) (k : ℕ) → FitsSigned w64 a → k < 64
    → int_shl w64 a k ≡ wrap 64 (a *ℤ pos (2 ^ k))
shl_64 a k fits lt =
    let small : 2 ^ k < 2 ^ 64 = pow_below k 64 lt in
    let below : of_z w64 a < 2 ^ 64 = omega (arith, ints) in
    shl_is w64 a k fits below small ∙ sym (wrap_64 (a *ℤ pos (2 ^ k)))

pub shl_32 : (a : ℤ) (k : ℕ) → FitsSigned w32 a → k < 32
    → int_shl w32 a k ≡ wrap 32 (a *ℤ pos (2 ^ k))
shl_32 a k fits lt =
    let small : 2 ^ k < 2 ^ 32 = pow_below k 32 lt in
    let below : of_z w32 a < 2 ^ 32 = omega (arith, ints) in
    shl_is w32 a k fits below small ∙ sym (wrap_32 (a *ℤ pos (2 ^ k)))

-- ---- quotients

not_equal : (x y : ℤ) → (x ≡ y → ⊥) → int_eq x y ≡ false
not_equal x y ne = by_test (int_eq x y) refl
  where
    by_test : (test : Bool) → int_eq x y ≡ test → int_eq x y ≡ false
    by_test true e = absurd (ne ((Decides-int_eq x y).0 e))
    by_test false e = e

not_both : (x y u v : ℤ) → (x ≡ y → u ≡ v → ⊥) → (int_eq x y && int_eq u v) ≡ false
not_both x y u v ne = by_test (int_eq x y) refl
  where
    by_test : (test : Bool) → int_eq x y ≡ test → (int_eq x y && int_eq u v) ≡ false
    by_test true e = rw e (not_equal u v (ne ((Decides-int_eq x y).0 e)))
    by_test false e = rw e refl

-- the divisor is not 0, and the quotient is not that of the least number by -1
pub divide_ok : (f : ℤ → ℤ → ℤ) (w : ℕ) (a b : ℤ) → (b ≡ pos 0 → ⊥)
    → (a ≡ neg_ℤ (pos (2 ^ (w - 1))) → b ≡ negsuc 0 → ⊥) → divide f w a b ≡ Ok (f a b)
divide_ok f w a b nz never =
    rw (not_equal b (pos 0) nz, not_both a (neg_ℤ (pos (2 ^ (w - 1)))) b (negsuc 0) never) refl

widened : (sort : Sort) (z : ℤ) → Fits sort z → FitsSigned w64 z
widened Attribute z fits = fits
widened Method z fits = sfits_widen tt fits

pub quotient_fits : (sort : Sort) (a b : ℤ) → Fits sort a → Fits sort b
    → divide int_div (width_of sort) a b ≡ Ok (int_div a b) → FitsSigned w64 (int_div a b)
unfolding operate
quotient_fits sort a b fa fb e =
    widened sort (int_div a b) (operate_fits sort operator.Divide a b (int_div a b) fa fb e)
