-- Strings that are the same by `==` stand for the same string, and only these.
use Rattle.std.proofs.Common.{rules, ◌≡◌, Bool, true, List, [], ◌∷◌, map, refl, ap, ◌∙◌, string_bytes}
use Rattle.std.proofs.lemmas.Bool.{and_parts}
use Rattle.std.specs.Cmp.Lexicographic.{pointwise}
use Rattle.edd_syntax.specs.Words as strings
use Rattle.edd_syntax.specs.WordsView.{string_of, variant_of}
use Rattle.edd_syntax.specs.declared.words.Key.{Key}
use Rattle.edd_syntax.specs.declared.words.Variant.{Variant}
use Rattle.edd_syntax.specs.declared.words.Words.{Words}
use Rattle.edd_syntax.specs.declared.words.Words.TheVariants as words
use Rattle.edd_syntax.specs.contracts.words.KeyPartialEq.TheImpl as key_eq
use Rattle.edd_syntax.specs.contracts.words.VariantPartialEq.TheImpl as variant_eq
use Rattle.edd_syntax.specs.contracts.words.WordsPartialEq.TheImpl as words_eq

abbrev pub same_words : Words → Words → Bool
same_words = (words_eq.ghosts).eq

abbrev same_variant : Variant → Variant → Bool
same_variant = (variant_eq.ghosts).eq

abbrev same_key : Key → Key → Bool
same_key = (key_eq.ghosts).eq

same_variant_is : (a b : Variant) → same_variant a b ≡ true → variant_of a ≡ variant_of b
same_variant_is a b e = search rules

same_key_is : (a b : Key) → same_key a b ≡ true → string_bytes a.name ≡ string_bytes b.name
same_key_is a b e = search rules

same_variants_are : (xs ys : List Variant) → pointwise same_variant xs ys ≡ true
    → map variant_of xs ≡ map variant_of ys
same_variants_are [] [] e = refl
same_variants_are [] (y ∷ ys) e = absurd cc
same_variants_are (x ∷ xs) [] e = absurd cc
same_variants_are (x ∷ xs) (y ∷ ys) e =
    let parts = and_parts (same_variant x y) (pointwise same_variant xs ys) e in
    ap (λ v. v ∷ map variant_of xs) (same_variant_is x y parts.0)
    ∙ ap (λ vs. variant_of y ∷ vs) (same_variants_are xs ys parts.1)

pub same_words_are : (a b : Words) → same_words a b ≡ true → string_of a ≡ string_of b
same_words_are (words.Variants first rest) (words.Variants other others) e =
    let parts = and_parts (same_variant first other)
    (pointwise same_variant rest.items others.items) e in
    ap (λ v. strings.Variants v (map variant_of rest.items))
    (same_variant_is first other parts.0)
    ∙ ap (λ vs. strings.Variants (variant_of other) vs)
    (same_variants_are rest.items others.items parts.1)
same_words_are (words.Variants first rest) (words.Key other) e = absurd cc
same_words_are (words.Key key) (words.Variants other others) e = absurd cc
same_words_are (words.Key key) (words.Key other) e = search (rules, same_key_is)

same_variant_when : (a b : Variant) → variant_of a ≡ variant_of b → same_variant a b ≡ true
same_variant_when a b e = search rules

same_key_when : (a b : Key) → string_bytes a.name ≡ string_bytes b.name → same_key a b ≡ true
same_key_when a b e = search rules

same_variants_when : (xs ys : List Variant) → map variant_of xs ≡ map variant_of ys
    → pointwise same_variant xs ys ≡ true
same_variants_when [] [] e = refl
same_variants_when [] (y ∷ ys) e = absurd cc
same_variants_when (x ∷ xs) [] e = absurd cc
same_variants_when (x ∷ xs) (y ∷ ys) e = search (rules, same_variant_when, same_variants_when xs ys)

pub same_words_when : (a b : Words) → string_of a ≡ string_of b → same_words a b ≡ true
same_words_when (words.Variants first rest) (words.Variants other others) e =
    search (rules, same_variant_when, same_variants_when)
same_words_when (words.Variants first rest) (words.Key other) e = absurd cc
same_words_when (words.Key key) (words.Variants other others) e = absurd cc
same_words_when (words.Key key) (words.Key other) e = search (rules, same_key_when)
