-- The masks of a field have no bit in common.
use Rattle.std.proofs.Common.{◌≡◌, ℕ, zero, suc, ◌-◌, ◌*◌, ◌%◌, ◌^◌, ◌<◌, ◌≤◌, ◌==◌, Bool, true, false, not, List, [], ◌∷◌, ◌++◌, refl, arith}
use Rattle.std.specs.Prelude.{bit_and, bit_or, if◌then◌else◌, max}
use Rattle.std.specs.Int.{bit_at}
use Rattle.std.specs.Int.Bits.{and_zero_r}
use Rattle.std.proofs.lemmas.Bool.{eqb-true}
use Rattle.std.proofs.lemmas.Nat.Bits.{bit_at_or, bit_at-zero}
use Rattle.edd_syntax.specs.declared.numbers.VarNo.{VarNo}
use Rattle.edd_syntax.specs.DeviceValues.{VariableType, type_at}
use Rattle.edd_instructions.specs.declared.records.Record.{Record}
use Rattle.edd_instructions.specs.declared.records.Record.TheVariants as records
use Rattle.edd_octets.specs.declared.fields.Part.{Part}
use Rattle.edd_octets.specs.Fields.{AreItems, Field, Variables, closed, ended, fields_after, masked, sharing, union, whole}
use Rattle.edd_octets.proofs.ArrivalLaws.{AreSmall}
use Rattle.edd_octets.proofs.MaskLaws.{apart_bit}
use Rattle.edd_octets.proofs.PartLaws.{AreApart, apart_from_bits}
use Rattle.edd_octets.proofs.ReceivedLaws.{AreFit, AreMasks}

all_bits_small : (size : ℕ) → size ≤ 4 → 2 ^ (8 * size) - 1 < 2 ^ 32
all_bits_small zero few = omega arith
all_bits_small (suc zero) few = omega arith
all_bits_small (suc (suc zero)) few = omega arith
all_bits_small (suc (suc (suc zero))) few = omega arith
all_bits_small (suc (suc (suc (suc zero)))) few = omega arith
all_bits_small (suc (suc (suc (suc (suc size))))) few = absurd (omega arith)

closed_fit : (begun : List Part) → AreApart begun → AreMasks begun → AreFit (closed begun)
closed_fit [] apart masks = tt
closed_fit (p ∷ rest) apart masks = ((apart, masks), tt)

fit_append : (xs ys : List Field) → AreFit xs → AreFit ys → AreFit (xs ++ ys)
fit_append [] ys fit more = more
fit_append (f ∷ rest) ys fit more = (fit.0, fit_append rest ys fit.1 more)

union_append : (begun : List Part) (p : Part) (i : ℕ)
    → bit_at (union (begun ++ (p ∷ []))) i ≡ max (bit_at (union begun) i) (bit_at p.mask i)
union_append [] p i = omega (arith, bit_at_or p.mask 0 i, bit_at-zero i)
union_append (q ∷ rest) p i = omega (
  arith,
  bit_at_or q.mask (union (rest ++ (p ∷ []))) i,
  union_append rest p i,
  bit_at_or q.mask (union rest) i,
)

-- one part more, whose bits are free
apart_append : (begun : List Part) (p : Part) → bit_and (union begun) p.mask ≡ 0
    → AreApart begun → AreApart (begun ++ (p ∷ []))
apart_append [] p free apart = (and_zero_r p.mask, tt)
apart_append (q ∷ rest) p free apart =
    let first : bit_and q.mask (union (rest ++ (p ∷ []))) ≡ 0 =
    apart_from_bits q.mask (union (rest ++ (p ∷ []))) (λ i. omega (
      arith,
      union_append rest p i,
      apart_bit q.mask (union rest) i apart.0,
      apart_bit (bit_or q.mask (union rest)) p.mask i free,
      bit_at_or q.mask (union rest) i,
    )) in
    let others : bit_and (union rest) p.mask ≡ 0 = apart_from_bits (union rest) p.mask (λ i. omega (
      arith,
      apart_bit (bit_or q.mask (union rest)) p.mask i free,
      bit_at_or q.mask (union rest) i,
    )) in
    (first, apart_append rest p others apart.1)

masks_append : (begun : List Part) (p : Part) → p.mask < 2 ^ 32 → AreMasks begun
    → AreMasks (begun ++ (p ∷ []))
masks_append [] p small masks = (small, tt)
masks_append (q ∷ rest) p small masks = (masks.0, masks_append rest p small masks.1)

module _ (begun : List Part) (apart : AreApart begun) (masks : AreMasks begun) where
  free_of : (mask : ℕ) → (bit_and (union begun) mask == 0) ≡ true → bit_and (union begun) mask ≡ 0
  free_of mask e = eqb-true (bit_and (union begun) mask) 0 e

  ended_by : (mask : ℕ) (is_free : Bool) → AreFit (if not is_free then closed begun else [])
  ended_by mask true = tt
  ended_by mask false = closed_fit begun apart masks

  shared_by : (p : Part) (is_free : Bool) → (bit_and (union begun) p.mask == 0) ≡ is_free
      → p.mask < 2 ^ 32
      → AreApart ((if not is_free then [] else begun) ++ (p ∷ []))
      × AreMasks ((if not is_free then [] else begun) ++ (p ∷ []))
  shared_by p true e small =
      (apart_append begun p (free_of p.mask e) apart, masks_append begun p small masks)
  shared_by p false e small = ((and_zero_r p.mask, tt), (small, tt))

module _ (types : List VariableType) (sizes : AreSmall types) where
  -- an item without a mask, and one with a mask, after which the fields of the rest are fit
  of_whole : (v : VarNo) (q : ℕ) (begun : List Part) (rest : List Field) → AreApart begun
      → AreMasks begun → AreFit rest
      → AreFit (closed begun ++ (Variables (whole types v q ∷ []) ∷ rest))
  of_whole v q begun rest apart masks fit =
      fit_append (closed begun) _ (closed_fit begun apart masks)
      (((and_zero_r _, tt), (all_bits_small (type_at types v).size (sizes v), tt)), fit)

  by_mask : (items : List Record) (v : VarNo) (mask q : ℕ) (begun : List Part) → AreApart begun
      → AreMasks begun → mask < 2 ^ 32
      → ((more : List Part) → AreApart more → AreMasks more → AreFit (fields_after types more items))
      → (is_whole goes_on : Bool)
      → AreFit (elim is_whole as (λ (b : Bool). List Field) [
        | true ↦ closed begun ++ (Variables (whole types v q ∷ []) ∷ fields_after types [] items)
        | false ↦ ended begun mask ++ elim goes_on as (λ (b : Bool). List Field) [
          | true ↦ fields_after types (sharing begun mask ++ (masked v mask q ∷ [])) items
          | false ↦ Variables (sharing begun mask ++ (masked v mask q ∷ []))
              ∷ fields_after types [] items
        ]
      ])
  by_mask items v mask q begun apart masks small others true goes_on =
      of_whole v q begun (fields_after types [] items) apart masks (others [] tt tt)
  by_mask items v mask q begun apart masks small others false true =
      let shared = shared_by begun apart masks (masked v mask q) _ refl small in
      fit_append (ended begun mask) _ (ended_by begun apart masks mask _)
      (others (sharing begun mask ++ (masked v mask q ∷ [])) shared.0 shared.1)
  by_mask items v mask q begun apart masks small others false false =
      let shared = shared_by begun apart masks (masked v mask q) _ refl small in
      fit_append (ended begun mask) _ (ended_by begun apart masks mask _)
      ((shared.0, shared.1), others [] tt tt)

  pub fields_fit : (items : List Record) (begun : List Part) → AreApart begun → AreMasks begun
      → AreItems items → AreFit (fields_after types begun items)
  fields_fit [] begun apart masks items = closed_fit begun apart masks
  fields_fit (records.DataConst n ∷ rest) begun apart masks items =
      fit_append (closed begun) _ (closed_fit begun apart masks)
      (items.0, fields_fit rest [] tt tt items.1)
  fields_fit (records.DataVar v mask q ∷ rest) begun apart masks items =
      by_mask rest v mask q begun apart masks items.0
      (λ more a m. fields_fit rest more a m items.1) (mask == 0) (mask % 2 == 0)
  fields_fit (_ ∷ rest) begun apart masks items = fields_fit rest begun apart masks items.1
