-- Numbers of a width that are read as signed.
use Rattle.std.proofs.Common.{◌≡◌, ◌∙◌, ap, sym, subst, ℕ, zero, suc, ◌-◌, ◌*◌, ◌%◌, ◌^◌, ◌<◌, ◌≤◌, pos, negsuc, ◌-ℤ◌, to_z, of_z, w64, arith}
use Rattle.std.proofs.lemmas.Nat.{pow_below}
use Rattle.std.proofs.lemmas.Int.{ints}
use Rattle.std.proofs.lemmas.Bool.Decides.{nat_tests}
use Rattle.std.proofs.Math.Nat.{mod-eq_of_lt, pow-suc}
use Rattle.std.proofs.Math.Pow.{pow_mono}
use Rattle.edd_syntax.specs.TwosComplement.{as_signed}

pub shifted : (w : ℕ) → w ≤ 64 → 1 * 2 ^ w % 2 ^ 128 ≡ 2 ^ w
shifted w h = let p : 2 ^ w < 2 ^ 128 = pow_below w 128 (omega arith) in let q : 1 * 2 ^ w
    < 2 ^ 128 = omega arith in mod-eq_of_lt q ∙ omega arith

-- the upper half of the numbers of w bits
upper : (w n : ℕ) → 2 ^ (w - 1) ≤ n → as_signed w n ≡ negsuc (2 ^ w - suc n)
upper w n h = grind (arith, nat_tests)

below : (w n : ℕ) → 1 ≤ w → w ≤ 64 → 2 ^ (w - 1) ≤ n → 2 ^ w - n - 1 < 2 ^ 63
below zero n low high h = absurd (omega arith)
below (suc v) n low high h =
    let g : v ≤ 63 = omega arith in
    let p : 2 ^ v ≤ 2 ^ 63 = pow_mono g in
    let q : 2 ^ (suc v) ≡ 2 ^ v * 2 = pow-suc 2 v in
    let e : suc v - 1 ≡ v = omega arith in
    let r : 2 ^ v ≤ n = subst (λ k. 2 ^ k ≤ n) e h in
    omega arith

minus : (k : ℕ) → k < 2 ^ 63
    → to_z w64 (of_z w64 (to_z w64 (of_z w64 (pos 0 -ℤ to_z w64 k)) -ℤ pos 1)) ≡ negsuc k
minus k h = omega (arith, ints)

pub upper_half : (w n m : ℕ) → 1 ≤ w → w ≤ 64 → 2 ^ (w - 1) ≤ n → n < 2 ^ w → m ≡ 2 ^ w
    → to_z w64 (of_z w64 (to_z w64 (of_z w64 (pos 0 -ℤ to_z w64 (m - n - 1))) -ℤ pos 1))
    ≡ as_signed w n
upper_half w n m low high h k e =
    let b : 2 ^ w - n - 1 < 2 ^ 63 = below w n low high h in
    let c : m - n - 1 ≡ 2 ^ w - suc n = omega arith in
    minus (m - n - 1) (omega arith) ∙ ap negsuc c ∙ sym (upper w n h)
