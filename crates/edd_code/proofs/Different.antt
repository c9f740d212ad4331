-- Different strings that are all in a list are no more than its different strings.
use Rattle.std.proofs.Common.{◌≡◌, refl, sym, ap, subst, ◌∙◌, ℕ, zero, suc, ◌+◌, ◌≤◌, ◌⊎◌, inl, inr, Bool, true, false, cond, List, [], ◌∷◌, length, arith}
use Rattle.std.specs.Prelude.{◌&&◌, ◌||◌}
use Rattle.std.specs.Str.{bytes_eq}
use Rattle.std.specs.List.{Contains, list_any}
use Rattle.std.proofs.lemmas.Slice.Eq.{bytes_eq-Decides}
use Rattle.edd_syntax.specs.Words.{Variant, Words, Variants, Key}
use Rattle.edd_syntax.specs.Strings.{same_variants, same_words, different}
use Rattle.edd_code.specs.Tables.{AreDifferent}
use Rattle.edd_code.proofs.BothTests.{both_of}

-- ---- the test of strings

same_bytes : (xs : List ℕ) → bytes_eq xs xs ≡ true
same_bytes xs = (bytes_eq-Decides xs xs).1 refl

variants_same : (vs ws : List Variant) → same_variants vs ws ≡ true → vs ≡ ws
variants_same [] [] h = refl
variants_same [] (w ∷ ws) h = absurd cc
variants_same (v ∷ vs) [] h = absurd cc
variants_same (v ∷ vs) (w ∷ ws) h =
    let parts = both_of (bytes_eq v.code w.code && bytes_eq v.text w.text) (same_variants vs ws)
    h in
    let first = both_of (bytes_eq v.code w.code) (bytes_eq v.text w.text) parts.0 in
    let code = (bytes_eq-Decides v.code w.code).0 first.0 in
    let text = (bytes_eq-Decides v.text w.text).0 first.1 in
    ap (λ (c : List ℕ). record { code = c; text = v.text } ∷ vs) code
    ∙ ap (λ (t : List ℕ). record { code = w.code; text = t } ∷ vs) text
    ∙ ap (λ (us : List Variant). w ∷ us) (variants_same vs ws parts.1)

variants_refl : (vs : List Variant) → same_variants vs vs ≡ true
variants_refl [] = refl
variants_refl (v ∷ vs) = rw (same_bytes v.code, same_bytes v.text, variants_refl vs) refl

pub words_same : (a b : Words) → same_words a b ≡ true → a ≡ b
words_same (Variants v vs) (Variants w ws) h = let e = variants_same (v ∷ vs) (w ∷ ws) h in cc
words_same (Variants v vs) (Key b) h = absurd cc
words_same (Key a) (Variants w ws) h = absurd cc
words_same (Key a) (Key b) h = ap Key ((bytes_eq-Decides a b).0 h)

pub words_refl : (a : Words) → same_words a a ≡ true
words_refl (Variants v vs) = variants_refl (v ∷ vs)
words_refl (Key a) = same_bytes a

-- ---- membership as a test

abbrev pub has : Words → List Words → Bool
has w ws = list_any (same_words w) ws

or_right : (a : Bool) {b : Bool} → b ≡ true → (a || b) ≡ true
or_right true h = refl
or_right false h = h

or_cases : (a b : Bool) → (a || b) ≡ true → (a ≡ true) ⊎ (b ≡ true)
or_cases true b h = inl refl
or_cases false b h = inr h

pub Contains-has : (ws : List Words) (w : Words) → Contains ws w → has w ws ≡ true
Contains-has [] w held = absurd (omega (arith, held.1))
Contains-has (x ∷ ws) w (zero, below, is) = rw (ap (same_words w) is ∙ words_refl w) refl
Contains-has (x ∷ ws) w (suc k, below, is) =
    or_right (same_words w x) (Contains-has ws w (k, omega arith, is))

pub has-Contains : (ws : List Words) (w : Words) → has w ws ≡ true → Contains ws w
has-Contains [] w h = absurd cc
has-Contains (x ∷ ws) w h = elim (or_cases (same_words w x) (has w ws) h) [
  | inl e ↦ (0, omega arith, sym (words_same w x e))
  | inr e ↦ let held = has-Contains ws w e in (suc held.0, omega (arith, held.1), held.2)
]

-- ---- one string taken out

abbrev out : Words → List Words → List Words
out w [] = []
out w (x ∷ xs) = cond (same_words w x) xs (x ∷ out w xs)

-- no string comes after itself
abbrev Apart : List Words → Type 0
Apart [] = Unit {0}
Apart (x ∷ xs) = (has x xs ≡ false) × Apart xs

out_length : (w : Words) (xs : List Words) → length xs ≤ length (out w xs) + 1
out_length w [] = omega arith
out_length w (x ∷ xs) = here (same_words w x) (out_length w xs)
  where
    here : (b : Bool) → length xs ≤ length (out w xs) + 1
        → length (x ∷ xs) ≤ length (cond b xs (x ∷ out w xs)) + 1
    here true h = omega arith
    here false h = omega (arith, h)

out_keeps : (w v : Words) (xs : List Words) → has v (out w xs) ≡ true → has v xs ≡ true
out_keeps w v [] h = h
out_keeps w v (x ∷ xs) h = here (same_words w x) (out_keeps w v xs) h
  where
    here : (b : Bool) → (has v (out w xs) ≡ true → has v xs ≡ true)
        → has v (cond b xs (x ∷ out w xs)) ≡ true → has v (x ∷ xs) ≡ true
    here true keeps h = or_right (same_words v x) h
    here false keeps h = elim (or_cases (same_words v x) (has v (out w xs)) h) [
      | inl e ↦ rw e refl
      | inr e ↦ or_right (same_words v x) (keeps e)
    ]

not_true : {b : Bool} → ¬ (b ≡ true) → b ≡ false
not_true {b} h = by_cases b h
  where
    by_cases : (b : Bool) → ¬ (b ≡ true) → b ≡ false
    by_cases true h = absurd (h refl)
    by_cases false h = refl

out_apart : (w : Words) (xs : List Words) → Apart xs → Apart (out w xs)
out_apart w [] a = tt
out_apart w (x ∷ xs) a = here (same_words w x) (out_apart w xs a.1)
  where
    here : (b : Bool) → Apart (out w xs) → Apart (cond b xs (x ∷ out w xs))
    here true h = a.1
    here false h = (not_true (λ e. absurd (cc (out_keeps w x xs e, a.0))), h)

-- once it is taken out it is not there
out_gone : (w : Words) (xs : List Words) → Apart xs → has w (out w xs) ≡ false
out_gone w [] a = refl
out_gone w (x ∷ xs) a = here (same_words w x) refl (out_gone w xs a.1)
  where
    here : (b : Bool) → same_words w x ≡ b → has w (out w xs) ≡ false
        → has w (cond b xs (x ∷ out w xs)) ≡ false
    here true is h = subst (λ (v : Words). has v xs ≡ false) (sym (words_same w x is)) a.0
    here false is h = rw is h

-- ---- different strings of a list are no more than its different strings

fewer : (ys zs : List Words) → Apart zs → ((w : Words) → has w zs ≡ true → has w ys ≡ true)
    → length zs ≤ length (different ys)
fewer [] [] a within = omega arith
fewer [] (z ∷ zs) a within = absurd (cc (within z (ap (λ b. b || has z zs) (words_refl z))))
fewer (y ∷ ys) zs a within = here (has y ys) refl (fewer ys)
  where
    here : (b : Bool) → has y ys ≡ b
        → ((zs : List Words) → Apart zs → ((w : Words) → has w zs ≡ true → has w ys ≡ true)
        → length zs ≤ length (different ys))
        → length zs ≤ length (cond b (different ys) (y ∷ different ys))
    here true is less = less zs a (λ w h. elim (or_cases (same_words w y) (has w ys) (within w h)) [
      | inl e ↦ subst (λ (v : Words). has v ys ≡ true) (sym (words_same w y e)) is
      | inr e ↦ e
    ])
    here false is less =
        let short = less (out y zs) (out_apart y zs a)
        (λ w h. elim (or_cases (same_words w y) (has w ys) (within w (out_keeps y w zs h))) [
          | inl e ↦ absurd (cc (
            h,
            subst (λ (v : Words). has v (out y zs) ≡ false)
                (sym (words_same w y e)) (out_gone y zs a),
          ))
          | inr e ↦ e
        ]) in
        omega (arith, short, out_length y zs)

-- ---- the same of what `AllPairs` says

apart : (ws : List Words) → AreDifferent ws → Apart ws
apart [] d = tt
apart (x ∷ ws) d = (
  not_true (λ e. here (has-Contains ws x e)),
  apart ws (λ i j e before below. d (suc i) (suc j) e (omega arith) (omega arith)),
)
  where
    here : Contains ws x → ⊥
    here held = d 0 (suc held.0) x (omega arith) (omega (arith, held.1)) (sym held.2)

pub fewer_different : (ys zs : List Words) → AreDifferent zs
    → ((w : Words) → Contains zs w → Contains ys w) → length zs ≤ length (different ys)
fewer_different ys zs d within =
    fewer ys zs (apart zs d) (λ w h. Contains-has ys w (within w (has-Contains zs w h)))
