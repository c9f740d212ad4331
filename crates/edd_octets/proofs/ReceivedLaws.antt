-- What is encoded under values is received with the bits of these values, and without a fault.
use Rattle.std.proofs.Common.{◌≡◌, ℕ, ◌+◌, ◌*◌, ◌^◌, ◌<◌, ◌≤◌, ◌==◌, Bool, true, false, ℤ, List, [], ◌∷◌, ◌++◌, length, take, drop, Option, Some, None, refl, sym, ap, ◌∙◌, arith}
use Rattle.std.specs.Prelude.{bit_and}
use Rattle.std.specs.Int.{bytes_high_first}
use Rattle.std.specs.Int.Bits.{or_zero_l, and_zero_l}
use Rattle.std.proofs.Math.Seq.{take-append_seam, drop-append_seam}
use Rattle.std.proofs.Math.Nat.{div-le_self}
use Rattle.std.proofs.lemmas.List.{length-append}
use Rattle.std.proofs.lemmas.Nat.{and_le_l, or_lt}
use Rattle.std.proofs.lemmas.Bool.{lt-ltb, eq-eqb}
use Rattle.edd_syntax.specs.declared.numbers.VarNo.{VarNo}
use Rattle.edd_syntax.specs.DeviceValues.{VariableType, type_at, value_at}
use Rattle.edd_octets.specs.declared.fields.Part.{Part}
use Rattle.edd_octets.specs.Arrival.{bits_under}
use Rattle.edd_octets.specs.Decoding.{Received, misfit, number_of, received, received_in, wrong_constant}
use Rattle.edd_octets.specs.Encoding.{encoded, gathered, number_in}
use Rattle.edd_octets.specs.Fields.{Constant, Field, Variables, length_of, union, width_of}
use Rattle.edd_octets.specs.Masks.{lowest_of}
use Rattle.edd_octets.proofs.NumberLaws.{IsWidth, length_of_octets, octets_back, residue_small, room, width_known}
use Rattle.edd_octets.proofs.PartLaws.{AreApart, gathered_within, le_from_bits, own, own_before, received_own}

-- ---- fields

abbrev pub AreMasks : List Part → Type 0
AreMasks [] = Unit {0}
AreMasks (p ∷ rest) = (p.mask < 2 ^ 32) × AreMasks rest

abbrev pub IsFit : Field → Type 0
IsFit (Constant n) = n < 2 ^ 8
IsFit (Variables parts) = AreApart parts × AreMasks parts

abbrev pub AreFit : List Field → Type 0
AreFit [] = Unit {0}
AreFit (f ∷ rest) = IsFit f × AreFit rest

union_small : (parts : List Part) → AreMasks parts → union parts < 2 ^ 32
union_small [] masks = omega arith
union_small (p ∷ rest) masks = or_lt 32 p.mask (union rest) masks.0 (union_small rest masks.1)

module _ (types : List VariableType) (sender : List ℤ) where
  abbrev pub owns : List Field → List Received
  owns [] = []
  owns (Constant n ∷ rest) = owns rest
  owns (Variables parts ∷ rest) = own types sender parts ++ owns rest

  -- the number of a field fits its octets, and is read again
  number_back : (parts : List Part) → AreMasks parts
      → number_of (bytes_high_first (width_of (Variables parts)) (gathered types sender parts))
      ≡ gathered types sender parts
  number_back parts masks =
      let small : gathered types sender parts ≤ union parts =
      le_from_bits _ _ (gathered_within types sender parts) in
      let fits = room (union parts) (union_small parts masks) in
      octets_back (width_of (Variables parts)) (gathered types sender parts)
      (width_known (union parts)) (omega (arith, small, fits))

  gathered_own : (parts : List Part) → AreApart parts
      → received_in (gathered types sender parts) parts ≡ own types sender parts
  gathered_own parts apart =
      ap (λ (n : ℕ). received_in n parts) (sym (or_zero_l (gathered types sender parts)))
      ∙ received_own types sender parts 0 (and_zero_l (union parts)) apart

  front : (w n : ℕ) (more : List ℕ) → take w (bytes_high_first w n ++ more) ≡ bytes_high_first w n
  front w n more = ap (λ (k : ℕ). take k (bytes_high_first w n ++ more)) (sym (length_of_octets w n))
      ∙ take-append_seam (bytes_high_first w n) more

  pub behind : (w n : ℕ) (more : List ℕ) → drop w (bytes_high_first w n ++ more) ≡ more
  behind w n more = ap (λ (k : ℕ). drop k (bytes_high_first w n ++ more)) (sym (length_of_octets w n))
      ∙ drop-append_seam (bytes_high_first w n) more

  pub received_encoded : (fields : List Field) → AreFit fields
      → received fields (encoded types sender fields) ≡ owns fields
  received_encoded [] fit = refl
  received_encoded (Constant n ∷ rest) fit = received_encoded rest fit.1
  received_encoded (Variables parts ∷ rest) fit =
      let w = width_of (Variables parts) in
      let n = gathered types sender parts in
      let more = encoded types sender rest in
      rw (
        front w n more,
        behind w n more,
        number_back parts fit.0.1,
        gathered_own parts fit.0.0,
        received_encoded rest fit.1,
      ) refl

  pub length_encoded : (fields : List Field) → length (encoded types sender fields) ≡ length_of fields
  length_encoded [] = refl
  length_encoded (f ∷ rest) =
      omega (
        arith,
        length-append (bytes_high_first (width_of f) (number_in types sender f)) (encoded types sender rest),
        length_of_octets (width_of f) (number_in types sender f),
        length_encoded rest,
      )

  goes_on : (place : ℕ) (is_right : Bool) (next : Option ℕ) → is_right ≡ true
      → elim is_right as (λ (b : Bool). Option ℕ) [ true ↦ next | false ↦ Some place ] ≡ next
  goes_on place true next e = refl
  goes_on place false next e = absurd cc

  pub constants_right : (place : ℕ) (fields : List Field) → AreFit fields
      → wrong_constant place fields (encoded types sender fields) ≡ None
  constants_right place [] fit = refl
  constants_right place (Constant n ∷ rest) fit =
      let more = encoded types sender rest in
      let same : (number_of (take 1 (bytes_high_first 1 n ++ more)) == n) ≡ true =
      ap (λ (octets : List ℕ). number_of octets == n) (front 1 n more)
      ∙ eq-eqb _ _ (octets_back 1 n IsWidth.one fit.0) in
      goes_on place _ (wrong_constant (place + 1) rest more) same
      ∙ constants_right (place + 1) rest fit.1
  constants_right place (Variables parts ∷ rest) fit =
      let w = width_of (Variables parts) in
      rw (behind w (gathered types sender parts) (encoded types sender rest))
      (constants_right (place + w) rest fit.1)

  -- ---- the bits are the sender's

  abbrev pub IsOwn : Received → Type 0
  IsOwn r = (r.bits ≡ bit_and (bits_under types sender r.variable) r.named) × (r.named < 2 ^ 32)

  abbrev pub AreOwn : List Received → Type 0
  AreOwn [] = Unit {0}
  AreOwn (r ∷ rest) = IsOwn r × AreOwn rest

  own_one : (p : Part) (is_kept : Bool) (rest more : List Received) → p.mask < 2 ^ 32
      → AreOwn (rest ++ more) → AreOwn (own_before types sender p is_kept rest ++ more)
  own_one p true rest more small others =
      ((refl, omega (arith, div-le_self p.mask (2 ^ lowest_of p.mask), small)), others)
  own_one p false rest more small others = others

  own_after : (parts : List Part) (more : List Received) → AreMasks parts → AreOwn more
      → AreOwn (own types sender parts ++ more)
  own_after [] more masks others = others
  own_after (p ∷ rest) more masks others =
      own_one p p.is_kept (own types sender rest) more masks.0 (own_after rest more masks.1 others)

  pub owns_own : (fields : List Field) → AreFit fields → AreOwn (owns fields)
  owns_own [] fit = tt
  owns_own (Constant n ∷ rest) fit = owns_own rest fit.1
  owns_own (Variables parts ∷ rest) fit = own_after parts (owns rest) fit.0.1 (owns_own rest fit.1)

  fits_on : (v : VarNo) (fits : Bool) (next : Option VarNo) → fits ≡ true
      → elim fits as (λ (b : Bool). Option VarNo) [ true ↦ next | false ↦ Some v ] ≡ next
  fits_on v true next e = refl
  fits_on v false next e = absurd cc

  pub none_misfits : (all : List Received) → AreOwn all → misfit types all ≡ None
  none_misfits [] ours = refl
  none_misfits (r ∷ rest) ours =
      let t = type_at types r.variable in
      let small : r.bits < 2 ^ (8 * t.size) =
      omega (
        arith,
        ours.0.0,
        and_le_l (bits_under types sender r.variable) r.named,
        residue_small (8 * t.size) (value_at sender r.variable),
      ) in
      fits_on r.variable _ (misfit types rest) (lt-ltb _ _ small) ∙ none_misfits rest ours.1
