-- The codes of a string are codes, and the name of a key is a name.
use Rattle.std.proofs.Common.{◌≡◌, zero, suc, true, List, [], ◌∷◌, map, refl, arith, IsTrue}
use Rattle.std.specs.List.{All, list_all}
use Rattle.std.proofs.lemmas.Bool.{and_from}
use Rattle.edd_syntax.specs.declared.words.Variant.{Variant}
use Rattle.edd_syntax.specs.declared.words.Words.{Words}
use Rattle.edd_syntax.specs.declared.words.Words.TheVariants.{Variants, Key}
use Rattle.edd_syntax.specs.Words.{are_words, is_variant}
use Rattle.edd_syntax.specs.WordsView.{string_of, variant_of}

are_variants : (vs : List Variant) → list_all is_variant (map variant_of vs) ≡ true
are_variants [] = refl
are_variants (v ∷ vs) = and_from _ _ v.coded (are_variants vs)

pub are_words-string_of : (words : Words) → IsTrue (are_words (string_of words))
are_words-string_of (Variants first rest) = and_from _ _ first.coded (are_variants rest.items)
are_words-string_of (Key key) = key.named

pub all_are_words : (all : List Words) → All (λ w. IsTrue (are_words w)) (map string_of all)
all_are_words [] k d below = absurd (omega arith)
all_are_words (w ∷ ws) zero d below = are_words-string_of w
all_are_words (w ∷ ws) (suc k) d below = all_are_words ws k d (omega arith)
