-- What is placed under a mask is picked again.
use Rattle.std.proofs.Common.{◌≡◌, ℕ, ◌+◌, ◌-◌, ◌*◌, ◌/◌, ◌%◌, ◌^◌, ◌<◌, ◌≤◌, sym, ap, ◌∙◌, arith, inl, inr}
use Rattle.std.specs.Prelude.{bit_and, bit_or, min}
use Rattle.std.specs.Int.{bit_at}
use Rattle.std.proofs.Math.Nat.{div-div-eq-div-mul}
use Rattle.std.proofs.lemmas.Bool.{cases_lt}
use Rattle.std.proofs.lemmas.Nat.{pow-add, pow_pos}
use Rattle.std.proofs.lemmas.Nat.Bits.{bit_at_and, bit_at_or, bit_at-lt, bit_at-zero, same_from_bits, bit_at_cat_high, bit_at_cat_low}
use Rattle.edd_octets.specs.Masks.{lowest_of, named_by, picked, placed}

-- a bit of what is moved down
pub shifted_down : (n s i : ℕ) → bit_at (n / 2 ^ s) i ≡ bit_at n (i + s)
shifted_down n s i =
    let order : s + i ≡ i + s = omega arith in
    let powers : 2 ^ s * 2 ^ i ≡ 2 ^ (i + s) = sym (pow-add 2 s i) ∙ ap (λ (m : ℕ). 2 ^ m) order in
    ap (λ (m : ℕ). m % 2) (div-div-eq-div-mul n (2 ^ s) (2 ^ i) ∙ ap (λ (m : ℕ). n / m) powers)

-- a bit of what is moved up
pub shifted_up : (n s i : ℕ) → bit_at (n * 2 ^ s) (i + s) ≡ bit_at n i
shifted_up n s i =
    let whole : n * 2 ^ s ≡ n * 2 ^ s + 0 = omega arith in
    let some : 0 < 2 ^ s = pow_pos s in
    let back : i + s - s ≡ i = omega arith in
    ap (λ (m : ℕ). bit_at m (i + s)) whole ∙ bit_at_cat_high n s 0 (i + s) some (omega arith)
    ∙ ap (bit_at n) back

pub shifted_up_low : (n s i : ℕ) → i < s → bit_at (n * 2 ^ s) i ≡ 0
shifted_up_low n s i low =
    let whole : n * 2 ^ s ≡ n * 2 ^ s + 0 = omega arith in
    ap (λ (m : ℕ). bit_at m i) whole ∙ bit_at_cat_low n s 0 i low ∙ bit_at-zero i

-- ---- a mask

module _ (mask : ℕ) where
  named_bit : (i : ℕ) → bit_at (named_by mask) i ≡ bit_at mask (i + lowest_of mask)
  named_bit i = shifted_down mask (lowest_of mask) i

  placed_high : (n i : ℕ) → bit_at (placed mask n) (i + lowest_of mask)
      ≡ min (bit_at n i) (bit_at mask (i + lowest_of mask))
  placed_high n i = shifted_up (bit_and n (named_by mask)) (lowest_of mask) i
      ∙ bit_at_and n (named_by mask) i ∙ ap (min (bit_at n i)) (named_bit i)

  picked_bit : (number i : ℕ) → bit_at (picked mask number) i
      ≡ min (bit_at number (i + lowest_of mask)) (bit_at mask (i + lowest_of mask))
  picked_bit number i = bit_at_and (number / 2 ^ lowest_of mask) (named_by mask) i
      ∙ ap (λ (m : ℕ). min m (bit_at (named_by mask) i)) (shifted_down number (lowest_of mask) i)
      ∙ ap (min (bit_at number (i + lowest_of mask))) (named_bit i)

-- no bit is in both
pub apart_bit : (a b i : ℕ) → bit_and a b ≡ 0 → min (bit_at a i) (bit_at b i) ≡ 0
apart_bit a b i apart = sym (bit_at_and a b i) ∙ ap (λ (m : ℕ). bit_at m i) apart ∙ bit_at-zero i

-- among bits that are apart from the mask, the own ones are picked
pub picked_own : (mask x n rest : ℕ) → bit_and x mask ≡ 0 → bit_and rest mask ≡ 0
    → picked mask (bit_or x (bit_or (placed mask n) rest)) ≡ bit_and n (named_by mask)
picked_own mask x n rest before behind =
    same_from_bits _ _ (λ i.
    let j = i + lowest_of mask in
    omega (
      arith,
      picked_bit mask (bit_or x (bit_or (placed mask n) rest)) i,
      bit_at_or x (bit_or (placed mask n) rest) j,
      bit_at_or (placed mask n) rest j,
      placed_high mask n i,
      apart_bit x mask j before,
      apart_bit rest mask j behind,
      bit_at_and n (named_by mask) i,
      named_bit mask i,
      bit_at-lt x j,
      bit_at-lt rest j,
      bit_at-lt mask j,
      bit_at-lt n i,
    ))

-- what is placed is within the mask
pub placed_within : (mask n i : ℕ) → bit_at (placed mask n) i ≤ bit_at mask i
placed_within mask n i = elim (cases_lt i (lowest_of mask)) [
  | inl low ↦ omega (arith, shifted_up_low (bit_and n (named_by mask)) (lowest_of mask) i low)
  | inr high ↦
      let there : i - lowest_of mask + lowest_of mask ≡ i = omega arith in
      let bit : bit_at (placed mask n) (i - lowest_of mask + lowest_of mask)
      ≡ min (bit_at n (i - lowest_of mask)) (bit_at mask (i - lowest_of mask + lowest_of mask)) =
      placed_high mask n (i - lowest_of mask) in
      let bit_here : bit_at (placed mask n) i ≡ min (bit_at n (i - lowest_of mask)) (bit_at mask i) =
      rw there at bit in
      omega (arith, bit_here)
]
