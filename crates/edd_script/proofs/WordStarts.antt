-- The first of the words of a text.
use Rattle.std.proofs.Common.{◌≡◌, ℕ, ◌<◌, Bool, false, List, [], ◌∷◌, length, refl, ap, sym, ◌∙◌, arith}
use Rattle.std.specs.Prelude.{◌==◌, nat_lt}
use Rattle.std.specs.List.{All, position_or_len, before_first, after_first, slice_split, filter}
use Rattle.std.proofs.lemmas.List.Splits.{slice_split_first, slice_split_none}
use Rattle.std.proofs.lemmas.List.Sums.{fails_before_first}
use Rattle.std.proofs.lemmas.Bool.{lt-ltb}
use Rattle.edd_script.specs.Words.{words}

abbrev is_space : ℕ → Bool
is_space b = b == 32

-- a space parts the first word, or nothing, from what is behind it
parted : (text : List ℕ) → position_or_len is_space text < length text
    → slice_split is_space text ≡ before_first is_space text ∷ slice_split is_space (after_first is_space text)
parted text there = slice_split_first is_space text 0 there

pub behind_word : (text word rest : List ℕ) → position_or_len is_space text < length text
    → word ≡ before_first is_space text → rest ≡ after_first is_space text → 0 < length word
    → words text ≡ word ∷ words rest
behind_word text word rest there before after some =
    ap (filter (λ part. nat_lt 0 (length part))) (parted text there)
    ∙ rw (sym before, sym after, lt-ltb 0 (length word) some) refl

pub last_word : (text : List ℕ) → position_or_len is_space text ≡ length text → 0 < length text
    → words text ≡ text ∷ []
last_word text none some =
    let lacks : All (λ b. is_space b ≡ false) text =
    λ k d small. fails_before_first is_space text k d (omega (arith, none)) in
    ap (filter (λ part. nat_lt 0 (length part))) (slice_split_none is_space text lacks)
    ∙ rw (lt-ltb 0 (length text) some) refl
