-- A raw text that is read from left to right: what each step tells of its pieces.
use Rattle.std.proofs.Common.{◌≡◌, ◌≢◌, ℕ, suc, zero, ◌+◌, ◌<◌, ◌≤◌, List, [], ◌∷◌, ◌++◌, Some, None, length, get_or, take, drop, refl, sym, ap, ◌∙◌, arith, append_assoc, add-zero, get_or-drop, length-drop}
use Rattle.std.proofs.Math.ListN.{drop_of_length-le}
use Rattle.std.proofs.Math.Seq.{drop-drop, length-take-le, take-add}
use Rattle.std.proofs.lemmas.Bool.{ne_eqb}
use Rattle.std.proofs.lemmas.List.{drop_more, take_all}
use Rattle.std.proofs.lemmas.Str.{IsCharBoundary-after_ascii, IsCharBoundary-before_ascii, IsUtf8-drop}
use Rattle.std.specs.Str.{IsCharBoundary, IsUtf8}
use Rattle.edd_syntax.specs.Words.{Pieces, code_opened, pieces, with_code, with_text}

-- no code opens before this place
abbrev pub IsReadTo : List ℕ → ℕ → Type 0
IsReadTo raw at = pieces 0 raw ≡ with_text (take at raw) (pieces 0 (drop at raw))

pieces-read : (n : ℕ) (xs : List ℕ) → pieces n xs ≡ pieces 0 (drop n xs)
unfolding pieces
pieces-read zero xs = refl
pieces-read (suc n) [] = refl
pieces-read (suc n) (x ∷ xs) = pieces-read n xs

with_text-with_text : (a b : List ℕ) (p : Pieces) → with_text a (with_text b p)
    ≡ with_text (a ++ b) p
with_text-with_text a b p = ap (λ (t : List ℕ). let q : Pieces = record p { before = t } in q)
    (sym (append_assoc a b p.before))

pieces-nil : pieces 0 [] ≡ record { before = []; variants = [] }
unfolding pieces
pieces-nil = refl

pieces-backslash : (xs : List ℕ)
    → pieces 0 (92 ∷ xs) ≡ with_text (take 2 (92 ∷ xs)) (pieces 0 (drop 2 (92 ∷ xs)))
unfolding pieces
pieces-backslash xs = ap (with_text (92 ∷ take 1 xs)) (pieces-read 1 xs)

pieces-text : (c : ℕ) (xs : List ℕ) → c ≢ 92 → code_opened c xs ≡ None
    → pieces 0 (c ∷ xs) ≡ with_text (c ∷ []) (pieces 0 xs)
unfolding pieces
pieces-text c xs other none = rw (pieces, ne_eqb c 92 other, none) refl

pieces-code : (xs code : List ℕ) → code_opened 124 xs ≡ Some code
    → pieces 0 (124 ∷ xs) ≡ with_code code (pieces 0 (drop (length code + 1) xs))
unfolding pieces
pieces-code xs code opened =
    rw (pieces, opened) (ap (with_code code) (pieces-read (length code + 1) xs))

drop-again : (at n : ℕ) (xs : List ℕ) → drop n (drop at xs) ≡ drop (at + n) xs
drop-again at n xs = drop-drop n at xs

advance : (raw : List ℕ) (at n : ℕ) → IsReadTo raw at → pieces 0 (drop at raw)
    ≡ with_text (take n (drop at raw)) (pieces 0 (drop n (drop at raw))) → IsReadTo raw (at + n)
advance raw at n so_far step =
    so_far ∙ ap (with_text (take at raw)) step ∙ with_text-with_text (take at raw)
    (take n (drop at raw)) (pieces 0 (drop n (drop at raw)))
    ∙ ap (λ t. with_text t (pieces 0 (drop n (drop at raw)))) (sym (take-add at n raw))
    ∙ ap (λ t. with_text (take (at + n) raw) (pieces 0 t)) (drop-again at n raw)

code_opened-other : (c : ℕ) (xs : List ℕ) → c ≢ 124 → code_opened c xs ≡ None
code_opened-other c xs other = rw (ne_eqb c 124 other) refl

-- ---- the steps

pub read_start : (raw : List ℕ) → IsReadTo raw 0
read_start raw = refl

pub read_escape : (raw : List ℕ) (at : ℕ) → at < length raw → get_or raw at 0 ≡ 92 → IsReadTo raw at
    → IsReadTo raw (at + 2)
read_escape raw at inside backslash so_far =
    let here : drop at raw ≡ 92 ∷ drop (at + 1) raw = drop_more raw at 0 inside
    ∙ ap (λ c. c ∷ drop (at + 1) raw) backslash in
    advance raw at 2 so_far (rw here (pieces-backslash (drop (at + 1) raw)))

read_text : (raw : List ℕ) (at : ℕ) → at < length raw → get_or raw at 0 ≢ 92
    → code_opened (get_or raw at 0) (drop (at + 1) raw) ≡ None → IsReadTo raw at
    → IsReadTo raw (at + 1)
read_text raw at inside other none so_far =
    advance raw at 1 so_far (rw (drop_more raw at 0 inside)
    (pieces-text (get_or raw at 0) (drop (at + 1) raw) other none))

pub read_other : (raw : List ℕ) (at : ℕ) → at < length raw → get_or raw at 0 ≢ 92
    → get_or raw at 0 ≢ 124 → IsReadTo raw at → IsReadTo raw (at + 1)
read_other raw at inside no_backslash no_bar so_far =
    read_text raw at inside no_backslash (code_opened-other (get_or raw at 0) (drop (at + 1) raw)
    no_bar) so_far

-- a bar that opens no code is text
pub read_bar : (raw : List ℕ) (at : ℕ) → at < length raw → get_or raw at 0 ≡ 124
    → code_opened 124 (drop (at + 1) raw) ≡ None → IsReadTo raw at → IsReadTo raw (at + 1)
read_bar raw at inside is_bar none so_far =
    let none_here : code_opened (get_or raw at 0) (drop (at + 1) raw) ≡ None =
    ap (λ c. code_opened c (drop (at + 1) raw)) is_bar ∙ none in
    read_text raw at inside (λ e. absurd (omega arith)) none_here so_far

-- a bar opens the code of this length
pub read_code : (raw : List ℕ) (at len : ℕ) (here code behind : List ℕ) → at < length raw
    → get_or raw at 0 ≡ 124 → here ≡ drop (at + 1) raw → code_opened 124 here ≡ Some (take len here)
    → len < length here → code ≡ take len here → behind ≡ drop 1 (drop len here)
    → pieces 0 (drop at raw) ≡ with_code code (pieces 0 behind)
read_code raw at len here code behind inside is_bar is_here opened closed is_code is_behind =
    let start : drop at raw ≡ 124 ∷ here = drop_more raw at 0 inside
    ∙ ap (λ c. c ∷ drop (at + 1) raw) is_bar ∙ ap (λ t. 124 ∷ t) (sym is_here) in
    let long : length (take len here) ≡ len = length-take-le len here (omega arith) in
    let rest : drop (length (take len here) + 1) here ≡ behind = ap (λ n. drop (n + 1) here) long
    ∙ sym (drop-again len 1 here) ∙ sym is_behind in
    ap (pieces 0) start ∙ pieces-code here (take len here) opened
    ∙ ap (λ t. with_code (take len here) (pieces 0 t)) rest
    ∙ ap (λ t. with_code t (pieces 0 behind)) (sym is_code)

-- a text may be cut after a bar
pub IsCharBoundary-after_bar : (here rest : List ℕ) (len : ℕ) → IsUtf8 here → len < length here
    → get_or here len 0 ≡ 124 → rest ≡ drop len here → IsCharBoundary rest 1
IsCharBoundary-after_bar here rest len text closed is_bar is_rest =
    let starts : get_or (drop len here) 0 0 ≡ 124 = get_or-drop len here 0 0
    ∙ ap (λ i. get_or here i 0) (add-zero len) ∙ is_bar in
    let inside : 0 < length (drop len here) = omega (arith, length-drop len here) in
    let cut : IsUtf8 (drop len here) =
    IsUtf8-drop here len text (IsCharBoundary-before_ascii here len closed (omega arith)) in
    rw is_rest (IsCharBoundary-after_ascii (drop len here) 0 cut inside (omega arith))

-- no code opens at all
pub read_all : (raw : List ℕ) (at : ℕ) → length raw ≤ at → IsReadTo raw at
    → pieces 0 raw ≡ with_text raw (record { before = []; variants = [] })
read_all raw at over so_far =
    so_far ∙ ap (λ t. with_text t (pieces 0 (drop at raw))) (take_all at raw over)
    ∙ ap (λ t. with_text raw (pieces 0 t)) (drop_of_length-le raw over)
    ∙ ap (with_text raw) pieces-nil
