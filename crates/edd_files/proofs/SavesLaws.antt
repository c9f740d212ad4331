-- One saving or none, and what is read before.
use Rattle.std.proofs.Common.{rules, ◌≡◌, ◌++◌, ◌∷◌, [], List, sym, refl, subst, inl, inr, ◌<◌, length}
use Rattle.std.specs.Prelude.{Option, Some, None, map, ℕ, get_or}
use Rattle.std.specs.Option.{option_map}
use Rattle.std.specs.List.{All, Contains}
use Rattle.std.proofs.lemmas.List.{get_or-map, length-map}
use Rattle.std.proofs.lemmas.List.Elements.{All-push, Contains-get_or}
use Rattle.edd_layout.specs.Comments.{KeepsComments}
use Rattle.edd_layout.specs.Same.{HaveSameBytes, SameTokens}
use Rattle.edd_files.specs.Names.{input_name}
use Rattle.edd_files.specs.Saves.{Account, Gave, IsLayoutSaving, Saving, SavesOne, saving_in_place, with_saving}

-- one more such
pub all_pushed : {X : Type 0} (P : X → Type 0) (xs ys : List X) (x : X) → ys ≡ xs ++ x ∷ []
    → All P xs → P x → All P ys
all_pushed P xs ys x is all such = subst (All P) (sym is) (All-push P xs x all such)

-- what is made of the one at a place is among what is made of all
pub made_at : {X Y : Type 0} (f : X → Y) (xs : List X) (i : ℕ) (d : X) → i < length xs
    → Contains (map f xs) (f (get_or xs i d))
made_at f xs i d inside = subst (Contains (map f xs)) (get_or-map f xs i d (f d) inside)
    (Contains-get_or (map f xs) i (f d) (subst (λ n. i < n) (sym (length-map xs f)) inside))

-- nothing was saved
pub saves_none : (P : Saving → Type 0) (before after : Option Account) → after ≡ before
    → SavesOne P before after
saves_none P None after same = search rules
saves_none P (Some a) after same = inl same

-- one such saving
pub saves_this : (P : Saving → Type 0) (s : Saving) (before after : Option Account)
    → after ≡ option_map (with_saving s) before → P s → SavesOne P before after
saves_this P s None after is such = search rules
saves_this P s (Some a) after is such = inr (s, is, such)

-- what is true of the saving
pub saves_this_such : (P Q : Saving → Type 0) (before after : Option Account)
    → ((s : Saving) → P s → Q s) → SavesOne P before after → SavesOne Q before after
saves_this_such P Q None after more saves = search rules
saves_this_such P Q (Some a) after more (inl same) = inl same
saves_this_such P Q (Some a) after more (inr (s, is, such)) = inr (s, is, more s such)

-- a layout of what the file of a name gave
pub layout_saved : (account : Option Account) (names : List (List ℕ)) (name text bytes : List ℕ)
    → Contains names name → Gave account (input_name name) text → SameTokens text bytes
    → HaveSameBytes text bytes → KeepsComments text bytes
    → IsLayoutSaving account names (saving_in_place name bytes)
layout_saved account names name text bytes named gave same kept comments =
    (name, named, refl, text, gave, same, kept, comments)
