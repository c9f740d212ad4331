-- What is taken of a list, and what a piece that is added changes of it.
use Rattle.std.proofs.Common.{◌≡◌, ℕ, ◌+◌, ◌<◌, ◌≤◌, List, [], ◌∷◌, ◌++◌, length, get_or, take, Option, Some, None, refl, ap, sym, ◌∙◌, append-nil}
use Rattle.std.specs.List.{filter_map, cons_option}
use Rattle.std.proofs.lemmas.List.{map-append, take_all, take_more}
use Rattle.edd_cases.specs.declared.renewing.Piece.{Piece}
use Rattle.edd_cases.specs.declared.renewing.Piece.TheVariants as piece
use Rattle.edd_cases.specs.declared.printed.Seen.{Seen}
use Rattle.edd_cases.specs.Renewed.{HaveSeen, kept, kept_of, shown, shown_of, texts}

pub taken_both : {X Y : Type 0} (f : X → Option Y) (xs ys : List X)
    → filter_map f (xs ++ ys) ≡ filter_map f xs ++ filter_map f ys
taken_both f [] ys = refl
taken_both f (x ∷ xs) ys =
    elim (f x) as (λ o. cons_option o (filter_map f (xs ++ ys))
    ≡ cons_option o (filter_map f xs) ++ filter_map f ys) [
      | None ↦ taken_both f xs ys
      | Some z ↦ ap (λ l. z ∷ l) (taken_both f xs ys)
    ]

-- the first of a list is taken before the others
pub taken_first : {X Y : Type 0} (f : X → Option Y) (x : X) (xs : List X)
    → filter_map f (x ∷ xs) ≡ filter_map f (x ∷ []) ++ filter_map f xs
taken_first f x xs = taken_both f (x ∷ []) xs

pub seen_keeps : (pieces : List Piece) (text : _)
    → kept_of (pieces ++ piece.Seen text ∷ []) ≡ kept_of pieces
seen_keeps pieces text = taken_both kept pieces (piece.Seen text ∷ []) ∙ append-nil (kept_of pieces)

pub kept_more : (pieces : List Piece) (raw : _)
    → kept_of (pieces ++ piece.Kept raw ∷ []) ≡ kept_of pieces ++ raw.now ∷ []
kept_more pieces raw = taken_both kept pieces (piece.Kept raw ∷ [])

-- a line that stays is none that was seen
pub kept_shows_none : (pieces : List Piece) (raw : _)
    → shown_of (pieces ++ piece.Kept raw ∷ []) ≡ shown_of pieces
kept_shows_none pieces raw = taken_both shown pieces (piece.Kept raw ∷ []) ∙ append-nil (shown_of pieces)

-- the next line that was seen is added
pub one_more_seen : (pieces : List Piece) (seen : List Seen) (place : ℕ) (d : Seen)
    → place < length seen → HaveSeen pieces seen place
    → HaveSeen (pieces ++ piece.Seen (get_or seen place d).text ∷ []) seen (place + 1)
one_more_seen pieces seen place d within have =
    taken_both shown pieces (piece.Seen (get_or seen place d).text ∷ [])
    ∙ ap (λ l. l ++ (get_or seen place d).text.now ∷ []) have
    ∙ sym (ap texts (take_more seen place d within)
    ∙ map-append (λ s. s.text.now) (take place seen) (get_or seen place d ∷ []))

-- all lines that were seen were added
pub all_seen : (pieces : List Piece) (seen : List Seen) (place : ℕ) → length seen ≤ place
    → HaveSeen pieces seen place → shown_of pieces ≡ texts seen
all_seen pieces seen place past have = have ∙ ap texts (take_all place seen past)
