-- A string that was written is read again.
use Rattle.std.proofs.Common.{◌≡◌, ℕ, zero, suc, ◌≤◌, false, ltb, List, [], ◌∷◌, ◌++◌, length, Some, refl, append_assoc, arith, length-append}
use Rattle.std.proofs.lemmas.Bool.{le-ltb}
use Rattle.std.proofs.lemmas.List.{take_at, drop_at}
use Rattle.std.specs.List.{AllByRecursion, flat_map}
use Rattle.edd_syntax.specs.Words.{Words, Variants, Key, Variant}
use Rattle.edd_image.specs.Layout.{u32}
use Rattle.edd_image.specs.Front.{byte_from}
use Rattle.edd_image.specs.Strings.{variant_bytes, string_bytes, VariantFits, WordsFit, front_of, variant_from, variants_from, string_in}
use Rattle.edd_image.proofs.FrontRead.{u32_again}

front_again : (front rest : List ℕ) → front_of (length front) (front ++ rest) ≡ Some (front, rest)
front_again front rest =
    let long : ltb (length (front ++ rest)) (length front) ≡ false =
    le-ltb _ _ (omega (arith, length-append front rest)) in
    rw (long, take_at front rest (length front) refl, drop_at front rest (length front) refl) refl

variant_again : (v : Variant) (rest : List ℕ) → VariantFits v
    → variant_from (variant_bytes v ++ rest) ≡ Some (v, rest)
unfolding byte_from
variant_again v rest fits =
    let text = u32 (length v.text) ++ v.text in
    rw (
      append_assoc v.code text rest,
      front_again v.code (text ++ rest),
      u32_again (length v.text) (v.text ++ rest) fits.1,
      front_again v.text rest,
    ) refl

variants_again : (n : ℕ) (vs : List Variant) → length vs ≤ n → AllByRecursion VariantFits vs
    → variants_from n (flat_map variant_bytes vs) ≡ Some vs
unfolding variants_from
variants_again n [] le fits = refl
variants_again zero (v ∷ vs) le fits = absurd (omega arith)
variants_again (suc n) (v ∷ vs) le fits =
    rw (
      variant_again v (flat_map variant_bytes vs) fits.0,
      variants_again n vs (omega arith)
          fits.1,
    ) refl

enough : (vs : List Variant) → length vs ≤ length (flat_map variant_bytes vs)
enough [] = omega arith
enough (v ∷ vs) = omega (
  arith,
  enough vs,
  length-append (variant_bytes v)
      (flat_map variant_bytes vs),
)

pub string_again : (w : Words) → WordsFit w → string_in (string_bytes w) ≡ Some w
unfolding string_in
string_again (Variants first rest) fits =
    rw (variants_again (length (flat_map variant_bytes (first ∷ rest))) (first ∷ rest)
    (enough (first ∷ rest)) fits) refl
string_again (Key name) fits = refl
