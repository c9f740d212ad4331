-- The number of a string stays the same while the table grows.
use Rattle.std.proofs.Common.{◌≡◌, refl, sym, ap, subst, ◌∙◌, ℕ, zero, suc, Bool, true, false, List, [], ◌∷◌, ◌++◌, Some, arith}
use Rattle.std.specs.List.{Contains, slice_get}
use Rattle.std.proofs.lemmas.List.{append-nil}
use Rattle.std.specs.Prelude.{if◌then◌else◌}
use Rattle.edd_syntax.specs.declared.numbers.StrNo.{StrNo}
use Rattle.edd_syntax.specs.Strings.{same_words}
use Rattle.edd_syntax.specs.Words.{Words}
use Rattle.edd_code.specs.Tables.{AreDifferent, Keeps, place_in, number_in}
use Rattle.edd_code.proofs.Different.{words_same, words_refl}

place_here : (v w : Words) (rest : List Words) → place_in (v ∷ rest) w
    ≡ (if same_words v w then 0 else suc (place_in rest w))
unfolding place_in
place_here v w rest = refl

-- one more string in front
one_before : (v w : Words) (later rest : List Words) (b : Bool) → same_words v w ≡ b
    → (b ≡ false → place_in (rest ++ later) w ≡ place_in rest w)
    → place_in (v ∷ (rest ++ later)) w ≡ place_in (v ∷ rest) w
one_before v w later rest true is behind =
    place_here v w (rest ++ later)
    ∙ ap (λ (c : Bool). if c then 0 else suc (place_in (rest ++ later) w)) is
    ∙ sym (place_here v w rest ∙ ap (λ (c : Bool). if c then 0 else suc (place_in rest w)) is)
one_before v w later rest false is behind =
    place_here v w (rest ++ later)
    ∙ ap (λ (c : Bool). if c then 0 else suc (place_in (rest ++ later) w)) is
    ∙ ap suc (behind refl)
    ∙ sym (place_here v w rest ∙ ap (λ (c : Bool). if c then 0 else suc (place_in rest w)) is)

-- a string that the table holds has the same place in a longer one
pub place_stays : (table later : List Words) (w : Words) → Contains table w
    → place_in (table ++ later) w ≡ place_in table w
place_stays [] later w held = absurd (omega (arith, held.1))
place_stays (v ∷ rest) later w (zero, below, is) =
    one_before v w later rest true (ap (λ (x : Words). same_words x w) is ∙ words_refl w)
    (λ e. absurd cc)
place_stays (v ∷ rest) later w (suc k, below, is) = one_before v w later rest (same_words v w) refl
    (λ e. place_stays rest later w (k, omega arith, is))

abbrev numbered : ℕ → StrNo
numbered n = record { 0 = n }

pub number_stays : (table later : List Words) (w : Words) → Contains table w
    → number_in (table ++ later) w ≡ number_in table w
number_stays table later w held = ap numbered (place_stays table later w held)

-- what is at a place is held
pub held_at : (table : List Words) (w : Words) (n : ℕ) → slice_get table n ≡ Some w
    → Contains table w
held_at [] w n h = absurd cc
held_at (v ∷ rest) w zero h = (0, omega arith, cc)
held_at (v ∷ rest) w (suc n) h = let held =
    held_at rest w n h in (suc held.0, omega (arith, held.1), held.2)

-- no string is there twice, so a string's place is that of the first equal one
pub place_is : (table : List Words) (w : Words) (n : ℕ) → AreDifferent table
    → slice_get table n ≡ Some w → place_in table w ≡ n
place_is [] w n d h = absurd cc
place_is (v ∷ rest) w zero d h =
    let same : v ≡ w = cc in
    place_here v w rest ∙ ap (λ (c : Bool). if c then 0 else suc (place_in rest w))
    (ap (λ (x : Words). same_words x w) same ∙ words_refl w)
place_is (v ∷ rest) w (suc n) d h =
    behind (same_words v w) refl
    (place_is rest w n (λ i j e before below. d (suc i) (suc j) e (omega arith) (omega arith))
    h)
  where
    twice : Contains rest w → v ≡ w → ⊥
    twice held same = d 0 (suc held.0) w (omega arith) (omega (arith, held.1)) (same ∙ sym held.2)

    behind : (b : Bool) → same_words v w ≡ b → place_in rest w ≡ n → place_in (v ∷ rest) w ≡ suc n
    behind true is there = absurd (twice (held_at rest w n h) (words_same v w is))
    behind false is there = place_here v w rest
        ∙ ap (λ (c : Bool). if c then 0 else suc (place_in rest w)) is ∙ ap suc there

pub kept_held : (table : List Words) (w : Words) (n : StrNo) → Keeps table w n → Contains table w
kept_held table w n keeps =
    held_at table w n.0 (subst (λ (t : List Words). slice_get t n.0 ≡ Some w) (append-nil table)
    (keeps []))

-- the number that a string keeps is its own, in the table and in any that begins with it
pub number_is : (table later : List Words) (w : Words) (n : StrNo) → AreDifferent table
    → Keeps table w n → number_in (table ++ later) w ≡ n
number_is table later w n d keeps =
    number_stays table later w (kept_held table w n keeps)
    ∙ ap numbered (place_is table w n.0 d (subst (λ (t : List Words). slice_get t n.0 ≡ Some w)
    (append-nil table) (keeps [])))
