-- Tables of different strings: one more, and the first ones.
use Rattle.std.proofs.Common.{◌≡◌, ◌≢◌, ℕ, ◌<◌, List, [], ◌∷◌, ◌++◌, Some, length, map, take, drop, sym, ap, subst, refl, ◌∙◌, arith, length-append, rules, Bool, true, false, true≢false, ◌||◌, ◌⊎◌, inl, inr, zero, suc, option_map, if◌then◌else◌}
use Rattle.std.proofs.Math.ListN.{get_or-append}
use Rattle.std.proofs.lemmas.List.{get_or_default, length-map, map-append, take-append-drop}
use Rattle.std.proofs.lemmas.List.Quantifiers.{all_pairs_push}
use Rattle.std.proofs.lemmas.Option.{slice_get-map}
use Rattle.std.specs.List.{Contains, list_any, position_or_len, slice_get}
use Rattle.indexmap.specs.IndexSet.{insert_key}
use Rattle.edd_syntax.specs.Words.{Words}
use Rattle.edd_syntax.specs.WordsView.{string_of}
use Rattle.edd_syntax.specs.declared.words.Words as code
use Rattle.edd_strings.specs.Strings.{AreStrings, Adds}
use Rattle.edd_strings.proofs.Sameness.{same_words, same_words_are, same_words_when}

AreStrings-push : (strings : List Words) (words : Words) → length strings < 65535
    → ¬ (Contains strings words) → AreStrings strings → AreStrings (strings ++ words ∷ [])
AreStrings-push strings words room fresh are = record {
  few = omega (arith, length-append strings (words ∷ []));
  different = all_pairs_push (λ s t. s ≢ t) strings words are.different
      (λ k d below e. fresh (k, below, get_or_default strings k words d below ∙ e));
}

AreStrings-front : (strings more : List Words) → AreStrings (strings ++ more) → AreStrings strings
AreStrings-front strings more are = record {
  few = omega (arith, are.few, length-append strings more);
  different = λ i j d before below e. are.different i j d before
      (omega (arith, length-append strings more)) (get_or-append strings more d i (omega arith) ∙ e
      ∙ sym (get_or-append strings more d j below));
}

Contains-later : {X : Type 0} → (x : X) (xs : List X) (y : X) → Contains xs y → Contains (x ∷ xs) y
Contains-later x xs y (n, below, at) = (suc n, omega (arith, below), at)

held_or : (k : code.Words) (keys : List code.Words) (w : code.Words) (b c : Bool)
    → same_words w k ≡ b → list_any (same_words w) keys ≡ c → (b || c) ≡ true
    → (list_any (same_words w) keys ≡ true → Contains (map string_of keys) (string_of w))
    → Contains (map string_of (k ∷ keys)) (string_of w)
held_or k keys w true c here later e rest = (0, omega arith, sym (same_words_are w k here))
held_or k keys w false c here later e rest = Contains-later (string_of k) (map string_of keys)
    (string_of w) (rest (later ∙ e))

-- a string that a set of strings finds is held
pub held : (keys : List code.Words) (w : code.Words) → list_any (same_words w) keys ≡ true
    → Contains (map string_of keys) (string_of w)
held [] w e = absurd cc
held (k ∷ keys) w e = held_or k keys w _ _ refl refl e (held keys w)

or_left : (b c : Bool) → b ≡ true → (b || c) ≡ true
or_left true c e = refl
or_left false c e = absurd cc

or_right : (b c : Bool) → c ≡ true → (b || c) ≡ true
or_right true c e = refl
or_right false c e = e

-- a string that is held is found
pub found : (keys : List code.Words) (w : code.Words) → Contains (map string_of keys) (string_of w)
    → list_any (same_words w) keys ≡ true
found [] w (n, below, at) = absurd (omega (arith, below))
found (k ∷ keys) w (zero, below, at) = or_left _ _ (same_words_when w k (sym at))
found (k ∷ keys) w (suc n, below, at) = or_right _ _ (found keys w (n, omega (arith, below), at))

last_or : (k : code.Words) (keys : List code.Words) (w : code.Words) (b c : Bool)
    → same_words w k ≡ b → list_any (same_words w) keys ≡ c → (b || c) ≡ false
    → (list_any (same_words w) keys ≡ false → position_or_len (same_words w) keys ≡ length keys)
    → position_or_len (same_words w) (k ∷ keys) ≡ length (k ∷ keys)
last_or k keys w true c here later e rest = absurd cc
last_or k keys w false c here later e rest = search (rules, here, rest (later ∙ e))

-- a string that is not found would get the next number
last_place : (keys : List code.Words) (w : code.Words) → list_any (same_words w) keys ≡ false
    → position_or_len (same_words w) keys ≡ length keys
last_place [] w e = refl
last_place (k ∷ keys) w e = last_or k keys w _ _ refl refl e (last_place keys w)

numbered : (keys : List code.Words) (w : code.Words) (number : ℕ) (new : List code.Words) (b : Bool)
    → list_any (same_words w) keys ≡ b
    → new ≡ (if b then keys else keys ++ w ∷ []) → number ≡ position_or_len (same_words w) keys
    → (k : code.Words) → slice_get new number ≡ Some k → same_words w k ≡ true
    → Adds (map string_of keys) (string_of w) number (map string_of new)
numbered keys w number new true is_held is_new at k stored same =
    inl (
      slice_get-map string_of keys number
          ∙ ap (λ (ks : List code.Words). option_map string_of (slice_get ks number)) (sym is_new)
          ∙ ap (option_map string_of) stored ∙ ap Some (sym (same_words_are w k same)),
      ap (map string_of) is_new,
    )
numbered keys w number new false is_new_word is_new at k stored same =
    inr (
      (λ holds. true≢false (sym (found keys w holds) ∙ is_new_word)),
      at
          ∙ last_place keys w is_new_word ∙ sym (length-map keys string_of),
      ap (map string_of) is_new
          ∙ map-append string_of keys (w ∷ []),
    )

-- what a set of strings does with one more string is what a table does
pub Adds-inserted : (keys : List code.Words) (w : code.Words) (number : ℕ) (new : List code.Words)
    → new ≡ insert_key same_words keys w → number ≡ position_or_len (same_words w) keys
    → (k : code.Words) → slice_get new number ≡ Some k → same_words w k ≡ true
    → Adds (map string_of keys) (string_of w) number (map string_of new)
Adds-inserted keys w number new is_new at k stored same = numbered keys w number new _ refl is_new
    at k stored same

-- a table stays one when a string comes in for which there is room
pub AreStrings-added : (old : List Words) (words : Words) (number : ℕ) (new : List Words)
    → AreStrings old → (length old < 65535) ⊎ Contains old words → Adds old words number new
    → AreStrings new
AreStrings-added old words number new are room (inl (at, stays)) = subst AreStrings (sym stays) are
AreStrings-added old words number new are (inl room) (inr (fresh, last, grows)) =
    subst AreStrings (sym grows) (AreStrings-push old words room fresh are)
AreStrings-added old words number new are (inr holds) (inr (fresh, last, grows)) =
    absurd (fresh holds)

-- the first strings of a table are a table
pub AreStrings-take : (strings : List Words) (n : ℕ) → AreStrings strings
    → AreStrings (take n strings)
AreStrings-take strings n are = AreStrings-front (take n strings) (drop n strings)
    (subst AreStrings (sym (take-append-drop n strings)) are)
