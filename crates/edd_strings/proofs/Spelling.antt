-- The string of a raw text, by its first part.
use Rattle.std.proofs.Common.{◌≡◌, ℕ, ◌<◌, List, [], ◌∷◌, ◌++◌, Option, Some, None, ◌⊎◌, inl, inr, length, map, refl, ap, append-nil, arith}
use Rattle.edd_syntax.specs.Words.{Variants, Words, english, unescape, unescaped, variants_of}
use Rattle.edd_strings.specs.declared.parts.Opened.{Opened}
use Rattle.edd_strings.specs.Parts.{pieces_from, variants_from}

-- English text comes first: there is some, or no code follows
pub words-english_first : (text : List ℕ) (next : Option Opened) → (0 < length text) ⊎ (next ≡ None)
    → variants_of (text ++ (pieces_from next).before) (variants_from next)
    ≡ Variants (record { code = english; text = unescape text })
    (map unescaped (variants_from next))
unfolding unescape
words-english_first [] None h = refl
words-english_first [] (Some opened) (inl h) = absurd (omega arith)
words-english_first [] (Some opened) (inr h) = cc
words-english_first (c ∷ text) None h =
    ap (λ t. let w : Words = Variants (record { code = english; text = unescape (c ∷ t) }) [] in w)
    (append-nil text)
words-english_first (c ∷ text) (Some opened) h =
    ap (λ t. let w : Words = Variants (record { code = english; text = unescape (c ∷ t) })
    (map unescaped (variants_from (Some opened))) in w) (append-nil text)
