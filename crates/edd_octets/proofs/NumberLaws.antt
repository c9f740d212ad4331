-- The octets of a number are read as that number, and a field has room for its number.
use Rattle.std.proofs.Common.{◌≡◌, ℕ, zero, suc, ◌-◌, ◌*◌, ◌%◌, ◌^◌, ◌<◌, ltb, cond, Bool, true, false, ℤ, pos, negsuc, length, refl, ap, ◌∙◌, arith}
use Rattle.std.specs.Prelude.{nat_lt, if◌then◌else◌}
use Rattle.std.specs.Int.{bytes_high_first}
use Rattle.std.proofs.lemmas.Nat.{pow_pos}
use Rattle.std.proofs.lemmas.Bool.{ltb-true}
use Rattle.std.proofs.Math.Nat.{mod-lt, mod-eq_of_lt}
use Rattle.edd_syntax.specs.declared.types.VarType.{VarType}
use Rattle.edd_syntax.specs.declared.types.VarType.TheVariants as var_type
use Rattle.edd_syntax.specs.DeviceValues.{VariableType}
use Rattle.edd_syntax.specs.TwosComplement.{residue, as_signed, store, wrap}
use Rattle.edd_octets.specs.Decoding.{number_of}
use Rattle.edd_octets.specs.Fields.{octets_for}
use Rattle.edd_octets.specs.Masks.{bits_of, value_of}

-- ---- octets

pub length_of_octets : (w n : ℕ) → length (bytes_high_first w n) ≡ w
length_of_octets zero n = refl
length_of_octets (suc w) n = omega (arith, length_of_octets w n)

-- n has at most so many octets, which are 1 to 4
pub data IsWidth : ℕ → Type 0 where
  one : IsWidth 1
  two : IsWidth 2
  three : IsWidth 3
  four : IsWidth 4

pub octets_back : (w n : ℕ) → IsWidth w → n < 2 ^ (8 * w) → number_of (bytes_high_first w n) ≡ n
octets_back _ n one small = omega arith
octets_back _ n two small = omega arith
octets_back _ n three small = omega arith
octets_back _ n four small = omega arith

by_width : (a b c : Bool) → IsWidth (if a then 1 else (if b then 2 else (if c then 3 else 4)))
by_width true b c = one
by_width false true c = two
by_width false false true = three
by_width false false false = four

pub width_known : (n : ℕ) → IsWidth (octets_for n)
width_known n = by_width (nat_lt n (2 ^ 8)) (nat_lt n (2 ^ 16)) (nat_lt n (2 ^ 24))

has_room : (n : ℕ) (a b c : Bool) → nat_lt n (2 ^ 8) ≡ a → nat_lt n (2 ^ 16) ≡ b
    → nat_lt n (2 ^ 24) ≡ c → n < 2 ^ 32
    → n < 2 ^ (8 * (if a then 1 else (if b then 2 else (if c then 3 else 4))))
has_room n true b c e f g small = let h = ltb-true n (2 ^ 8) e in omega arith
has_room n false true c e f g small = let h = ltb-true n (2 ^ 16) f in omega arith
has_room n false false true e f g small = let h = ltb-true n (2 ^ 24) g in omega arith
has_room n false false false e f g small = omega arith

pub room : (n : ℕ) → n < 2 ^ 32 → n < 2 ^ (8 * octets_for n)
room n small = has_room n _ _ _ refl refl refl small

-- ---- two's complement

module _ (w n : ℕ) (small : n < 2 ^ w) where
  signed_back : (low : Bool) → ltb n (2 ^ (w - 1)) ≡ low
      → residue w (cond low (pos n) (negsuc (2 ^ w - suc n))) ≡ n
  signed_back true e = mod-eq_of_lt small
  signed_back false e =
      let rest : (2 ^ w - suc n) % 2 ^ w ≡ 2 ^ w - suc n = mod-eq_of_lt (omega arith) in
      omega (arith, rest)

  pub unsigned_back : residue w (pos n) ≡ n
  unsigned_back = mod-eq_of_lt small

  pub wrapped_back : residue w (as_signed w (residue w (pos n))) ≡ n
  wrapped_back = ap (λ (m : ℕ). residue w (as_signed w m)) unsigned_back
      ∙ signed_back (ltb n (2 ^ (w - 1))) refl

by_type : (type : VarType) (size n : ℕ) → n < 2 ^ (8 * size)
    → residue (8 * size) (store type size (pos n)) ≡ n
unfolding store wrap
by_type var_type.Integer size n small = wrapped_back (8 * size) n small
by_type var_type.UnsignedInteger size n small =
    ap (λ (m : ℕ). residue (8 * size) (pos m)) (unsigned_back (8 * size) n small)
    ∙ unsigned_back (8 * size) n small
by_type var_type.Enumerated size n small =
    ap (λ (m : ℕ). residue (8 * size) (pos m)) (unsigned_back (8 * size) n small)
    ∙ unsigned_back (8 * size) n small
by_type var_type.BitEnumerated size n small =
    ap (λ (m : ℕ). residue (8 * size) (pos m)) (unsigned_back (8 * size) n small)
    ∙ unsigned_back (8 * size) n small

-- the bits of the value that has these bits
pub bits_back : (t : VariableType) (n : ℕ) → n < 2 ^ (8 * t.size) → bits_of t (value_of t n) ≡ n
bits_back t n small = by_type t.type t.size n small

pub residue_small : (w : ℕ) (z : ℤ) → residue w z < 2 ^ w
residue_small w (pos a) = mod-lt a (pow_pos w)
residue_small w (negsuc a) = let h = pow_pos w in omega arith
