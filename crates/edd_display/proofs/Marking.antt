-- Words between parentheses, one by one.
use Rattle.std.proofs.Common.{◌≡◌, ℕ, ◌+◌, ◌<◌, length, take, get_or, Bor, true, false, not, ◌==◌, bit_and, List, [], ◌∷◌, ◌++◌, map, refl, sym, ap, ◌∙◌, arith, append_assoc, append-nil}
use Rattle.std.proofs.lemmas.Grind.{flat_map-append}
use Rattle.std.proofs.lemmas.Bool.{ne_eqb}
use Rattle.std.proofs.lemmas.List.{take_more, map-append}
use Rattle.std.proofs.lemmas.List.Elements.{filter-append}
use Rattle.std.specs.List.{filter, flat_map}
use Rattle.edd_display.specs.Words.{words_set, in_parentheses, qualifiers_shown}

-- the words with what is before each
abbrev pub opened : List (List ℕ) → List ℕ
opened [] = []
opened (w ∷ ws) = (40 ∷ w) ++ flat_map (λ v. 32 ∷ v) ws

-- what is before the next word
abbrev pub sign : List (List ℕ) → ℕ
sign [] = 40
sign (w ∷ ws) = 32

pub sign_small : (ws : List (List ℕ)) → sign ws < 128
sign_small [] = omega arith
sign_small (w ∷ ws) = omega arith

opened_more : (ws : List (List ℕ)) (w : List ℕ) → opened (ws ++ w ∷ []) ≡ opened ws ++ (sign ws ∷ w)
opened_more [] w = rw append-nil refl
opened_more (x ∷ ws) w =
    ap (λ zs. (40 ∷ x) ++ zs) (flat_map-append (λ v. 32 ∷ v) ws (w ∷ [])
    ∙ ap (λ zs. flat_map (λ v. 32 ∷ v) ws ++ zs) (append-nil (32 ∷ w)))
    ∙ sym (append_assoc (40 ∷ x) (flat_map (λ v. 32 ∷ v) ws) (32 ∷ w))

sign_more : (ws : List (List ℕ)) (w : List ℕ) → sign (ws ++ w ∷ []) ≡ 32
sign_more [] w = refl
sign_more (x ∷ ws) w = refl

closed : (ws : List (List ℕ)) → 32 ≡ sign ws → opened ws ++ 41 ∷ [] ≡ in_parentheses ws
closed [] e = absurd (omega (arith, e))
closed (w ∷ ws) e = refl

unopened : (ws : List (List ℕ)) (before : ℕ) → before ≡ sign ws → (before ≡ 32 → ⊥)
    → opened ws ≡ in_parentheses ws
unopened [] before e other = refl
unopened (w ∷ ws) before e other = absurd (other e)

-- the words of the bits that are set have been written
pub record Marked (bits : ℕ) (words : List (ℕ × List ℕ)) (before : ℕ) (old new : List ℕ) : Type 0 where
  pub written : new ≡ old ++ opened (words_set bits words)
  pub next : before ≡ sign (words_set bits words)

set_append : (bits : ℕ) (words more : List (ℕ × List ℕ))
    → words_set bits (words ++ more) ≡ words_set bits words ++ words_set bits more
set_append bits words more =
    ap (map (λ w. w.1)) (filter-append (λ w. not (bit_and bits w.0 == 0)) words more)
    ∙ map-append (λ w. w.1) (filter (λ w. not (bit_and bits w.0 == 0)) words)
    (filter (λ w. not (bit_and bits w.0 == 0)) more)

set_more : (bits : ℕ) (words : List (ℕ × List ℕ)) (w : ℕ × List ℕ) → (bit_and bits w.0 == 0) ≡ false
    → words_set bits (words ++ w ∷ []) ≡ words_set bits words ++ w.1 ∷ []
set_more bits words w set =
    let one : words_set bits (w ∷ []) ≡ w.1 ∷ [] = rw set refl in
    set_append bits words (w ∷ []) ∙ ap (λ zs. words_set bits words ++ zs) one

unset_more : (bits : ℕ) (words : List (ℕ × List ℕ)) (w : ℕ × List ℕ) → (bit_and bits w.0 == 0) ≡ true
    → words_set bits (words ++ w ∷ []) ≡ words_set bits words
unset_more bits words w unset =
    let one : words_set bits (w ∷ []) ≡ [] = rw unset refl in
    set_append bits words (w ∷ []) ∙ ap (λ zs. words_set bits words ++ zs) one
    ∙ append-nil (words_set bits words)

pub marked_none : (bits : ℕ) (old : List ℕ) → Marked bits [] 40 old old
marked_none bits old = record { written = sym (append-nil old); next = refl }

pub marked_set : (bits : ℕ) (words : List (ℕ × List ℕ)) (w : ℕ × List ℕ) (before : ℕ)
    (old line : List ℕ) → (bit_and bits w.0 == 0) ≡ false → Marked bits words before old line
    → Marked bits (words ++ w ∷ []) 32 old ((line ++ before ∷ []) ++ w.1)
marked_set bits words w before old line set so_far = record {
  written = rw (set_more bits words w set, opened_more, so_far.written, so_far.next, append_assoc, append_assoc) refl;
  next = rw (set_more bits words w set) (sym (sign_more (words_set bits words) w.1));
}

pub marked_unset : (bits : ℕ) (words : List (ℕ × List ℕ)) (w : ℕ × List ℕ) (before : ℕ)
    (old line : List ℕ) → (bit_and bits w.0 == 0) ≡ true → Marked bits words before old line
    → Marked bits (words ++ w ∷ []) before old line
marked_unset bits words w before old line set so_far = record {
  written = rw (unset_more bits words w set) so_far.written;
  next = rw (unset_more bits words w set) so_far.next;
}

-- a bit and its word, as the code has them
abbrev pub worded : List (ℕ × Bor (List ℕ)) → List (ℕ × List ℕ)
worded words = map (λ w. (w.0, w.1.now)) words

worded_more : (words : List (ℕ × Bor (List ℕ))) (i : ℕ) (d : ℕ × Bor (List ℕ)) → i < length words
    → worded (take (i + 1) words)
    ≡ worded (take i words) ++ ((get_or words i d).0, (get_or words i d).1.now) ∷ []
worded_more words i d inside = rw (take_more words i d inside, map-append) refl

pub set_at : (bits : ℕ) (words : List (ℕ × Bor (List ℕ))) (i : ℕ) (d : ℕ × Bor (List ℕ)) (before : ℕ)
    (old line : List ℕ) → i < length words → (bit_and bits (get_or words i d).0 ≡ 0 → ⊥)
    → Marked bits (worded (take i words)) before old line
    → Marked bits (worded (take (i + 1) words)) 32 old
    ((line ++ before ∷ []) ++ (get_or words i d).1.now)
set_at bits words i d before old line inside set so_far =
    rw (worded_more words i d inside)
    (marked_set bits (worded (take i words)) ((get_or words i d).0, (get_or words i d).1.now) before
    old line (ne_eqb _ _ set) so_far)

pub unset_at : (bits : ℕ) (words : List (ℕ × Bor (List ℕ))) (i : ℕ) (d : ℕ × Bor (List ℕ))
    (before : ℕ) (old line : List ℕ) → i < length words → bit_and bits (get_or words i d).0 ≡ 0
    → Marked bits (worded (take i words)) before old line
    → Marked bits (worded (take (i + 1) words)) before old line
unset_at bits words i d before old line inside set so_far =
    rw (worded_more words i d inside)
    (marked_unset bits (worded (take i words)) ((get_or words i d).0, (get_or words i d).1.now)
    before old line (ap (λ n. n == 0) set) so_far)

-- after the last word, where there is one
pub marked_some : (bits : ℕ) (words : List (ℕ × List ℕ)) (old line : List ℕ)
    → Marked bits words 32 old line → line ++ 41 ∷ [] ≡ old ++ qualifiers_shown bits words
unfolding qualifiers_shown
marked_some bits words old line all = rw (all.written, append_assoc) (ap (λ zs. old ++ zs) (closed (words_set bits words) all.next))

pub marked_nothing : (bits : ℕ) (words : List (ℕ × List ℕ)) (before : ℕ) (old line : List ℕ)
    → (before ≡ 32 → ⊥) → Marked bits words before old line → line ≡ old ++ qualifiers_shown bits words
unfolding qualifiers_shown
marked_nothing bits words before old line other all = all.written ∙ ap (λ zs. old ++ zs) (unopened (words_set bits words) before all.next other)
