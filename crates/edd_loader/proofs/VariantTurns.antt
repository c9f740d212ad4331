-- What one turn of the loop over the variants of a string does to the test of them all.
use Rattle.std.proofs.Common.{◌≡◌, ℕ, zero, suc, ◌<◌, ◌≤◌, nat_eq, Bool, true, false, not, ◌&&◌, List, [], ◌∷◌, length, Option, Some, None, refl, sym, ap, ◌∙◌, arith}
use Rattle.std.specs.List.{list_all}
use Rattle.std.specs.Option.{option_map_or}
use Rattle.std.proofs.lemmas.Bool.{and_left, eqb-true, ne_eqb}
use Rattle.edd_syntax.specs.Words.{Variant}
use Rattle.edd_image.specs.Front.{◌>>=◌}
use Rattle.edd_image.specs.Strings.{variant_from, variants_from, as_words, is_words, is_variant}
use Rattle.edd_loader.specs.Variants.{all_variants, are_variants}

first_and_rest : (v : Variant) (o : Option (List Variant))
    → option_map_or (list_all is_variant) (o >>= λ rest. Some (v ∷ rest)) false
    ≡ (is_variant v && option_map_or (list_all is_variant) o false)
first_and_rest v None = and_false (is_variant v)
  where
    and_false : (b : Bool) → false ≡ (b && false)
    and_false true = refl
    and_false false = refl
first_and_rest v (Some vs) = refl

pub variants_split : (n b : ℕ) (bytes : List ℕ) (found : Variant × List ℕ)
    → variant_from (b ∷ bytes) ≡ Some found → all_variants (suc n) (b ∷ bytes)
    ≡ (is_variant found.0 && all_variants n found.1)
unfolding variants_from
variants_split n b bytes found e = rw e (first_and_rest found.0 (variants_from n found.1))

pub variants_stop : (n b : ℕ) (bytes : List ℕ) → variant_from (b ∷ bytes) ≡ None
    → all_variants n (b ∷ bytes) ≡ false
unfolding variants_from
variants_stop zero b bytes e = refl
variants_stop (suc n) b bytes e = rw e refl

-- variants are a string where there is one
some_words : (v : Variant) (o : Option (List Variant))
    → option_map_or is_words ((o >>= λ rest. Some (v ∷ rest)) >>= as_words) false
    ≡ option_map_or (list_all is_variant) (o >>= λ rest. Some (v ∷ rest)) false
some_words v None = refl
some_words v (Some vs) = refl

by_first : (n : ℕ) (o : Option (Variant × List ℕ))
    → option_map_or is_words
    ((o >>= λ first. variants_from n first.1 >>= λ rest. Some (first.0 ∷ rest)) >>= as_words) false
    ≡ option_map_or (list_all is_variant) (o >>= λ first. variants_from n first.1
    >>= λ rest. Some (first.0 ∷ rest)) false
by_first n None = refl
by_first n (Some found) = some_words found.0 (variants_from n found.1)

pub words_are_variants : (b : ℕ) (bytes : List ℕ) → are_variants (b ∷ bytes)
    ≡ all_variants (length (b ∷ bytes)) (b ∷ bytes)
unfolding variants_from
words_are_variants b bytes = by_first (length bytes) (variant_from (b ∷ bytes))

pub no_variants : are_variants [] ≡ false
unfolding variants_from
no_variants = refl

-- ---- the turns

pub more_goes : (rest behind : List ℕ) (v : Variant) (n : ℕ) (total : Bool)
    → variant_from rest ≡ Some (v, behind) → is_variant v ≡ true → length behind < length rest
    → length rest ≤ n → all_variants n rest ≡ total
    → (m : ℕ) × (length behind ≤ m) × (all_variants m behind ≡ total)
more_goes [] behind v n total e passes shorter le so_far = absurd (omega arith)
more_goes (b ∷ bytes) behind v zero total e passes shorter le so_far = absurd (omega arith)
more_goes (b ∷ bytes) behind v (suc n) total e passes shorter le so_far =
    (n, omega arith, rw passes at (sym (variants_split n b bytes (v, behind) e) ∙ so_far))

pub more_fails : (rest behind : List ℕ) (v : Variant) (n : ℕ) (total : Bool)
    → variant_from rest ≡ Some (v, behind) → is_variant v ≡ false → length behind < length rest
    → length rest ≤ n → all_variants n rest ≡ total → total ≡ false
more_fails [] behind v n total e fails shorter le so_far = absurd (omega arith)
more_fails (b ∷ bytes) behind v zero total e fails shorter le so_far = absurd (omega arith)
more_fails (b ∷ bytes) behind v (suc n) total e fails shorter le so_far =
    sym so_far ∙ variants_split n b bytes (v, behind) e ∙ and_left (is_variant v) _ fails

pub more_stops : (rest : List ℕ) (n : ℕ) (total : Bool) → nat_eq (length rest) 0 ≡ false
    → variant_from rest ≡ None → all_variants n rest ≡ total → total ≡ false
more_stops [] n total some e so_far = absurd cc
more_stops (b ∷ bytes) n total some e so_far = sym so_far ∙ variants_stop n b bytes e

pub none_left : (rest : List ℕ) (n : ℕ) (total : Bool) → nat_eq (length rest) 0 ≡ true
    → all_variants n rest ≡ total → total ≡ true
unfolding variants_from
none_left [] zero total none so_far = sym so_far
none_left [] (suc n) total none so_far = sym so_far
none_left (b ∷ bytes) n total none so_far =
    absurd (omega (arith, eqb-true (length (b ∷ bytes)) 0 none))

pub refused : (bytes : List ℕ) → all_variants (length bytes) bytes ≡ false
    → false ≡ are_variants bytes
refused [] e = sym no_variants
refused (b ∷ bytes) e = sym e ∙ sym (words_are_variants b bytes)

pub accepted : (bytes : List ℕ) → all_variants (length bytes) bytes ≡ true
    → not (nat_eq (length bytes) 0) ≡ are_variants bytes
accepted [] e = sym no_variants
accepted (b ∷ bytes) e =
    let some : nat_eq (length (b ∷ bytes)) 0 ≡ false =
    ne_eqb (length (b ∷ bytes)) 0 (λ h. omega (arith, h)) in
    ap not some ∙ sym e ∙ sym (words_are_variants b bytes)
