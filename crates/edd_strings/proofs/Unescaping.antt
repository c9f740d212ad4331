-- Escapes of a text that is read in pieces: what comes before a backslash, and the character after
-- it.
use Rattle.std.proofs.Common.{◌≡◌, ◌≢◌, eqb, false, ℕ, suc, ◌<◌, ◌≤◌, List, [], ◌∷◌, ◌++◌, length, get_or, refl, sym, ap, ◌∙◌, arith, inl, inr, append_assoc, append-nil}
use Rattle.std.proofs.lemmas.Bool.{cases_lt, ne_eqb}
use Rattle.std.proofs.lemmas.Bool.Decides.{nat_tests}
use Rattle.std.proofs.lemmas.Str.{encode_ascii, inside_one, length-encode, len_utf8_bounds}
use Rattle.std.specs.Char.{encode_utf8}
use Rattle.edd_syntax.specs.Words.{after_backslash, escaped, unescape}

-- no byte is a backslash
abbrev pub IsPlain : List ℕ → Type 0
IsPlain xs = (i : ℕ) → i < length xs → get_or xs i 0 ≢ 92

-- each byte belongs to a character past ASCII
abbrev pub IsPastAscii : List ℕ → Type 0
IsPastAscii xs = (i : ℕ) → i < length xs → 128 ≤ get_or xs i 0

pub IsPlain-tail : (x : ℕ) (xs : List ℕ) → IsPlain (x ∷ xs) → IsPlain xs
IsPlain-tail x xs h = λ i l. h (suc i) (omega arith)

pub unescape-append : (xs ys : List ℕ) → IsPlain xs → unescape (xs ++ ys) ≡ xs ++ unescape ys
unfolding unescape
unescape-append [] ys h = refl
unescape-append (x ∷ xs) ys h =
    let head : eqb x 92 ≡ false = ne_eqb x 92 (h 0 (omega arith)) in
    rw (unescape, head) (ap (λ zs. x ∷ zs) (unescape-append xs ys (IsPlain-tail x xs h)))

pub unescape-plain : (xs : List ℕ) → IsPlain xs → unescape xs ≡ xs
unfolding unescape
unescape-plain [] h = refl
unescape-plain (x ∷ xs) h =
    let head : eqb x 92 ≡ false = ne_eqb x 92 (h 0 (omega arith)) in
    rw (unescape, head) (ap (λ zs. x ∷ zs) (unescape-plain xs (IsPlain-tail x xs h)))

pub after_backslash-past_ascii : (xs rest : List ℕ) → 0 < length xs → IsPastAscii xs
    → after_backslash (xs ++ rest) ≡ xs ++ unescape rest
unfolding unescape
after_backslash-past_ascii [] rest some h = absurd (omega arith)
after_backslash-past_ascii (x ∷ xs) rest some h =
    let large : 128 ≤ x = h 0 (omega arith) in
    let same : escaped x ≡ x = grind (arith, nat_tests) in
    let plain : IsPlain xs = (λ i l e. absurd (omega (arith, h (suc i) (omega arith)))) in
    rw (same, unescape-append xs rest plain) refl

pub unescape-backslash : (xs : List ℕ) → unescape (92 ∷ xs) ≡ after_backslash xs
unfolding unescape
unescape-backslash xs = refl

both_nil : after_backslash [] ≡ unescape []
unfolding unescape
both_nil = refl

past_ascii : (c : ℕ) → 128 ≤ c → IsPastAscii (encode_utf8 c)
past_ascii c large i inside =
    elim (cases_lt (get_or (encode_utf8 c) i 0) 128) [
      | inr enough ↦ enough
      | inl small ↦
          let same : encode_utf8 c ≡ encode_utf8 c ++ [] = sym (append-nil (encode_utf8 c)) in
          let ascii : c ≡ get_or (encode_utf8 c) i 0 = inside_one c [] (encode_utf8 c) i same inside
          small in
          absurd (omega arith)
    ]

ascii_char : (c : ℕ) (rest : List ℕ) → c < 128 → after_backslash (encode_utf8 c ++ rest)
    ≡ encode_utf8 (escaped c) ++ unescape rest
unfolding unescape
ascii_char c rest small =
    let ascii : escaped c < 128 = grind (arith, nat_tests) in
    rw (encode_ascii c small, encode_ascii (escaped c) ascii) refl

-- a character after a backslash stands for one character
pub after_backslash-char : (c : ℕ) (rest : List ℕ) → after_backslash (encode_utf8 c ++ rest)
    ≡ encode_utf8 (escaped c) ++ unescape rest
after_backslash-char c rest =
    elim (cases_lt c 128) [
      | inr large ↦
          let same : escaped c ≡ c = grind (arith, nat_tests) in
          let long : 0 < length (encode_utf8 c) =
          omega (arith, length-encode c, len_utf8_bounds c) in
          let past : IsPastAscii (encode_utf8 c) = past_ascii c large in
          rw same (after_backslash-past_ascii (encode_utf8 c) rest long past)
      | inl small ↦ ascii_char c rest small
    ]

-- a backslash and what comes before it have been read
pub unescape-step : (done before after rest text : List ℕ) → rest ≡ before ++ 92 ∷ after
    → IsPlain before → done ++ unescape rest ≡ text → (done ++ before) ++ after_backslash after
    ≡ text
unescape-step done before after rest text parts plain so_far =
    let unescaped : unescape rest ≡ before ++ after_backslash after = ap unescape parts
    ∙ unescape-append before (92 ∷ after) plain
    ∙ ap (λ t. before ++ t) (unescape-backslash after) in
    append_assoc done before (after_backslash after) ∙ sym (ap (λ t. done ++ t) unescaped) ∙ so_far

-- the character after the backslash has been read too
pub unescape-char : (done before after rest text : List ℕ) (c : ℕ) → after ≡ encode_utf8 c ++ rest
    → (done ++ before) ++ after_backslash after ≡ text
    → ((done ++ before) ++ encode_utf8 (escaped c)) ++ unescape rest ≡ text
unescape-char done before after rest text c parts so_far =
    let char : after_backslash after ≡ encode_utf8 (escaped c) ++ unescape rest =
    ap after_backslash parts ∙ after_backslash-char c rest in
    append_assoc (done ++ before) (encode_utf8 (escaped c)) (unescape rest)
    ∙ sym (ap (λ t. (done ++ before) ++ t) char) ∙ so_far

-- nothing comes after the backslash
pub unescape-end : (done before after rest text : List ℕ) → length after ≡ 0 → rest ≡ after
    → (done ++ before) ++ after_backslash after ≡ text → (done ++ before) ++ unescape rest ≡ text
unescape-end done before [] rest text none same so_far =
    ap (λ t. (done ++ before) ++ unescape t) same ∙ sym (ap (λ t. (done ++ before) ++ t) both_nil)
    ∙ so_far
unescape-end done before (x ∷ after) rest text none same so_far = absurd (omega arith)
