-- Parts whose masks have no bit in common: what is gathered of them is received again.
use Rattle.std.proofs.Common.{◌≡◌, ℕ, ◌≤◌, Bool, true, false, ℤ, List, [], ◌∷◌, refl, sym, ap, ◌∙◌, arith}
use Rattle.std.specs.Prelude.{bit_and, bit_or, if◌then◌else◌, min}
use Rattle.std.specs.Int.{bit_at}
use Rattle.std.proofs.lemmas.Nat.{and_le_r}
use Rattle.std.proofs.lemmas.Nat.Bits.{bit_at_and, bit_at_or, bit_at-zero, same_from_bits}
use Rattle.edd_syntax.specs.DeviceValues.{VariableType}
use Rattle.edd_octets.specs.declared.fields.Part.{Part}
use Rattle.edd_octets.specs.Decoding.{Received, received_in}
use Rattle.edd_octets.specs.Encoding.{bits_at, gathered}
use Rattle.edd_octets.specs.Fields.{union}
use Rattle.edd_octets.specs.Masks.{named_by, picked, placed}
use Rattle.edd_octets.proofs.MaskLaws.{apart_bit, picked_own, placed_within}

-- ---- bits

pub apart_from_bits : (a b : ℕ) → ((i : ℕ) → min (bit_at a i) (bit_at b i) ≡ 0) → bit_and a b ≡ 0
apart_from_bits a b none =
    same_from_bits _ _ (λ i. bit_at_and a b i ∙ none i ∙ sym (bit_at-zero i))

pub le_from_bits : (a b : ℕ) → ((i : ℕ) → bit_at a i ≤ bit_at b i) → a ≤ b
le_from_bits a b within =
    let same : bit_and a b ≡ a =
    same_from_bits _ _ (λ i. omega (arith, bit_at_and a b i, within i)) in
    omega (arith, and_le_r a b, same)

pub or_again : (a b c : ℕ) → bit_or a (bit_or b c) ≡ bit_or (bit_or a b) c
or_again a b c = same_from_bits _ _ (λ i. omega (
  arith,
  bit_at_or a (bit_or b c) i,
  bit_at_or b c i,
  bit_at_or (bit_or a b) c i,
  bit_at_or a b i,
))

-- ---- parts

-- no two parts have a bit in common
abbrev pub AreApart : List Part → Type 0
AreApart [] = Unit {0}
AreApart (p ∷ rest) = (bit_and p.mask (union rest) ≡ 0) × AreApart rest

pub gathered_within : (types : List VariableType) (values : List ℤ) (parts : List Part) (i : ℕ)
    → bit_at (gathered types values parts) i ≤ bit_at (union parts) i
gathered_within types values [] i = omega arith
gathered_within types values (p ∷ rest) i = omega (
  arith,
  gathered_within types values rest i,
  placed_within p.mask (bits_at types values p) i,
  bit_at_or (placed p.mask (bits_at types values p)) (gathered types values rest) i,
  bit_at_or p.mask (union rest) i,
)

-- what a part has of its variable's bits, where it is kept
abbrev pub own_before : List VariableType → List ℤ → Part → Bool → List Received → List Received
own_before types values p true rest = record {
  variable = p.variable;
  named = named_by p.mask;
  bits = bit_and (bits_at types values p) (named_by p.mask);
} ∷ rest
own_before types values p false rest = rest

abbrev pub own : List VariableType → List ℤ → List Part → List Received
own types values [] = []
own types values (p ∷ rest) = own_before types values p p.is_kept (own types values rest)

module _ (types : List VariableType) (values : List ℤ) where
  one_more : (p : Part) (is_kept : Bool) (number : ℕ) (rest others : List Received)
      → picked p.mask number ≡ bit_and (bits_at types values p) (named_by p.mask)
      → rest ≡ others
      → (if is_kept then record {
        variable = p.variable;
        named = named_by p.mask;
        bits = picked p.mask number;
      } ∷ rest else rest) ≡ own_before types values p is_kept others
  one_more p true number rest others bits same = rw (bits, same) refl
  one_more p false number rest others bits same = same

  pub received_own : (parts : List Part) (x : ℕ) → bit_and x (union parts) ≡ 0 → AreApart parts
      → received_in (bit_or x (gathered types values parts)) parts ≡ own types values parts
  received_own [] x free apart = refl
  received_own (p ∷ rest) x free apart =
      let placed_bits = placed p.mask (bits_at types values p) in
      let more = gathered types values rest in
      let before : bit_and x p.mask ≡ 0 = apart_from_bits x p.mask (λ i. omega (
        arith,
        apart_bit x (bit_or p.mask (union rest)) i free,
        bit_at_or p.mask (union rest) i,
      )) in
      let behind : bit_and more p.mask ≡ 0 = apart_from_bits more p.mask (λ i. omega (
        arith,
        gathered_within types values rest i,
        apart_bit p.mask (union rest) i apart.0,
      )) in
      let onward : bit_and (bit_or x placed_bits) (union rest) ≡ 0 =
      apart_from_bits (bit_or x placed_bits) (union rest) (λ i. omega (
        arith,
        bit_at_or x placed_bits i,
        apart_bit x (bit_or p.mask (union rest)) i free,
        bit_at_or p.mask (union rest) i,
        placed_within p.mask (bits_at types values p) i,
        apart_bit p.mask (union rest) i apart.0,
      )) in
      let others : received_in (bit_or x (bit_or placed_bits more)) rest ≡ own types values rest =
      ap (λ (n : ℕ). received_in n rest) (or_again x placed_bits more)
      ∙ received_own rest (bit_or x placed_bits) onward apart.1 in
      one_more p p.is_kept (bit_or x (bit_or placed_bits more)) _ _
      (picked_own p.mask x (bits_at types values p) more before behind) others
