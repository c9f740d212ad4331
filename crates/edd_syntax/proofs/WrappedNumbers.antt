-- A wrapped number lies in its range, a multiple of 2 ^ w from the number itself.
use Rattle.std.proofs.Common.{◌≡◌, refl, ◌∙◌, ap, subst, ℕ, zero, suc, ◌+◌, ◌-◌, ◌*◌, ◌/◌, ◌%◌, ◌^◌, ◌<◌, ◌≤◌, ℤ, pos, negsuc, ◌+ℤ◌, ◌*ℤ◌, neg_ℤ, int_le, int_lt, nat_lt, Bool, true, false, if◌then◌else◌, IsTrue, arith}
use Rattle.std.proofs.lemmas.Nat.{pow_pos}
use Rattle.std.proofs.lemmas.Int.{ints}
use Rattle.std.proofs.lemmas.Bool.Decides.{nat_tests}
use Rattle.std.proofs.Math.Nat.{mod-lt, pow-suc, div-add-mod'}
use Rattle.std.proofs.Math.IntN.{pos-*ℤ-pos, negsuc-*ℤ-pos}
use Rattle.edd_syntax.specs.TwosComplement.{wrap, residue}
use Rattle.edd_syntax.specs.WrappingLaw.{IsCongruent, WrappingKeepsTheNumber}

-- the number that r stands for, where m numbers are parted at h
signed : (h m r : ℕ) → ℤ
signed h m r = if nat_lt r h then pos r else negsuc (m - suc r)

low : (h m r : ℕ) → m ≡ h * 2 → r < m → IsTrue (int_le (neg_ℤ (pos h)) (signed h m r))
unfolding signed
low h m r e b = grind (arith, nat_tests, ints)

high : (h m r : ℕ) → 0 < h → IsTrue (int_lt (signed h m r) (pos h))
unfolding signed
high h m r b = grind (arith, nat_tests, ints)

-- a number from 0 on
above : (h m q r : ℕ) (small : Bool) → nat_lt r h ≡ small → r < m
    → IsCongruent m (pos (q * m + r)) (signed h m r)
unfolding signed
above h m q r true e b = (pos q, by_small)
  where
    by_small : pos (q * m + r) ≡ (if nat_lt r h then pos r else negsuc (m - suc r)) +ℤ pos q *ℤ pos
        m
    by_small = grind (arith, ints, e, pos-*ℤ-pos q m)
above h m q r false e b = (pos (suc q), by_large)
  where
    by_large : pos (q * m + r) ≡ (if nat_lt r h then pos r else negsuc (m - suc r)) +ℤ pos (suc q)
        *ℤ pos m
    by_large = grind (arith, ints, e, pos-*ℤ-pos (suc q) m)

-- a number below 0
under : (h m q r : ℕ) (small : Bool) → nat_lt (m - 1 - r) h ≡ small → r < m
    → IsCongruent m (negsuc (q * m + r)) (signed h m (m - 1 - r))
unfolding signed
under h m q r true e b = (negsuc q, by_small)
  where
    by_small : negsuc (q * m + r)
        ≡ (if nat_lt (m - 1 - r) h then pos (m - 1 - r) else negsuc (m - suc (m - 1 - r))) +ℤ negsuc
        q *ℤ pos m
    by_small = grind (arith, ints, e, negsuc-*ℤ-pos q m)
under h m zero r false e b = (pos zero, by_large)
  where
    by_large : negsuc (zero * m + r)
        ≡ (if nat_lt (m - 1 - r) h then pos (m - 1 - r) else negsuc (m - suc (m - 1 - r))) +ℤ pos
        zero *ℤ pos m
    by_large = grind (arith, ints, e, pos-*ℤ-pos zero m)
under h m (suc q) r false e b = (negsuc q, by_large)
  where
    by_large : negsuc (suc q * m + r)
        ≡ (if nat_lt (m - 1 - r) h then pos (m - 1 - r) else negsuc (m - suc (m - 1 - r))) +ℤ negsuc
        q *ℤ pos m
    by_large = grind (arith, ints, e, negsuc-*ℤ-pos q m)

twice : (w : ℕ) → 1 ≤ w → 2 ^ w ≡ 2 ^ (w - 1) * 2
twice zero b = absurd (omega arith)
twice (suc v) b = let e : v ≡ suc v - 1 = omega arith in pow-suc 2 v ∙ ap (λ k. 2 ^ k * 2) e

congruent : (w : ℕ) (z : ℤ) → IsCongruent (2 ^ w) z (wrap w z)
unfolding wrap signed
congruent w (pos a) = subst (λ n. IsCongruent (2 ^ w) (pos n) (wrap w (pos a)))
    (div-add-mod' a (2 ^ w))
    (above (2 ^ (w - 1)) (2 ^ w) (a / 2 ^ w) (a % 2 ^ w) _ refl (mod-lt a (pow_pos w)))
congruent w (negsuc a) = subst (λ n. IsCongruent (2 ^ w) (negsuc n) (wrap w (negsuc a)))
    (div-add-mod' a (2 ^ w))
    (under (2 ^ (w - 1)) (2 ^ w) (a / 2 ^ w) (a % 2 ^ w) _ refl (mod-lt a (pow_pos w)))

below : (w : ℕ) (z : ℤ) → residue w z < 2 ^ w
below w (pos a) = mod-lt a (pow_pos w)
below w (negsuc a) = let b : 0 < 2 ^ w = pow_pos w in omega arith

pub wrapping : WrappingKeepsTheNumber
unfolding wrap signed
wrapping w z b = (
  low (2 ^ (w - 1)) (2 ^ w) (residue w z) (twice w b) (below w z),
  high (2 ^ (w - 1)) (2 ^ w) (residue w z) (pow_pos (w - 1)),
  congruent w z,
)
