-- A text with its escapes, character by character.
use Rattle.std.proofs.Common.{◌≡◌, ℕ, suc, ◌<◌, ◌≤◌, List, [], ◌∷◌, ◌++◌, length, get_or, refl, sym, ap, ◌∙◌, arith, inl, inr, append-nil, append_assoc}
use Rattle.std.proofs.lemmas.Bool.{cases_lt}
use Rattle.std.proofs.lemmas.Bool.Decides.{nat_tests}
use Rattle.std.proofs.lemmas.Str.{encode_ascii, inside_one}
use Rattle.std.specs.Char.{encode_utf8}
use Rattle.std.specs.List.{flat_map}
use Rattle.edd_display.specs.Words.{escape, quoted}

-- each byte belongs to a character past ASCII
abbrev IsPastAscii : List ℕ → Type 0
IsPastAscii xs = (i : ℕ) → i < length xs → 128 ≤ get_or xs i 0

past_ascii : (c : ℕ) → 128 ≤ c → IsPastAscii (encode_utf8 c)
past_ascii c large i inside =
    elim (cases_lt (get_or (encode_utf8 c) i 0) 128) [
      | inr enough ↦ enough
      | inl small ↦
          let same : encode_utf8 c ≡ encode_utf8 c ++ [] = sym (append-nil (encode_utf8 c)) in
          let ascii : c ≡ get_or (encode_utf8 c) i 0 = inside_one c [] (encode_utf8 c) i same inside
          small in
          absurd (omega arith)
    ]

-- a byte past ASCII has no escape
past_plain : (x : ℕ) → 128 ≤ x → escape x ≡ x ∷ []
past_plain x large = grind (arith, nat_tests)

past_same : (xs : List ℕ) → IsPastAscii xs → flat_map escape xs ≡ xs
past_same [] h = refl
past_same (x ∷ xs) h =
    rw (past_plain x (h 0 (omega arith)), past_same xs (λ i l. h (suc i) (omega arith))) refl

-- a character that needs no escape
pub plain_char : (c : ℕ) → escape c ≡ c ∷ [] → flat_map escape (encode_utf8 c) ≡ encode_utf8 c
plain_char c plain =
    elim (cases_lt c 128) [
      | inr large ↦ past_same (encode_utf8 c) (past_ascii c large)
      | inl small ↦ rw (encode_ascii c small, plain) refl
    ]

-- the text is over, and the last quote is written
pub quoted_end : (old line last rest text : List ℕ) → length rest ≡ 0
    → line ++ flat_map escape rest ≡ (old ++ 34 ∷ []) ++ flat_map escape text
    → last ≡ line ++ 34 ∷ [] → last ≡ old ++ quoted text
unfolding quoted
quoted_end old line last [] text none all closed =
    closed ∙ ap (λ xs. xs ++ 34 ∷ []) (sym (append-nil line) ∙ all)
    ∙ append_assoc (old ++ 34 ∷ []) (flat_map escape text) (34 ∷ [])
    ∙ append_assoc old (34 ∷ []) (flat_map escape text ++ 34 ∷ [])
quoted_end old line last (x ∷ rest) text none all closed = absurd (omega arith)
