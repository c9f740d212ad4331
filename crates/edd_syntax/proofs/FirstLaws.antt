-- The first breach in lists that are one after the other.
use Rattle.std.proofs.Common.{◌≡◌, refl, sym, ap, ◌∙◌, ℕ, ◌+◌, ◌<◌, ◌≤◌, List, [], ◌∷◌, ◌++◌, length, get_or, drop, map, Option, Some, None, arith}
use Rattle.std.proofs.lemmas.Grind.{common_steps}
use Rattle.std.specs.List.{flat_map}
use Rattle.std.proofs.lemmas.List.{at_drop_more, append-nil}
use Rattle.std.proofs.Math.ListN.{drop_of_length-le}
use Rattle.edd_syntax.specs.Refusal.{first_of}

pub first_of-append_none : {A : Type 0} (xs ys : List A) → None ≡ first_of xs
    → first_of (xs ++ ys) ≡ first_of ys
first_of-append_none [] ys is = refl
first_of-append_none (x ∷ xs) ys is = grind (arith, common_steps)

pub first_of-append_some : {A : Type 0} (xs ys : List A) (x : A) → Some x ≡ first_of xs
    → first_of (xs ++ ys) ≡ Some x
first_of-append_some [] ys x is = grind (arith, common_steps)
first_of-append_some (y ∷ xs) ys x is = sym is

pub ruleset firsts = (first_of-append_none, first_of-append_some)

-- ---- a loop over a slice, where the breaches of a list are those of its first element and those
-- of the others

module _ {X Y A : Type 0} (breaches : List Y → List A) (view : X → Y)
    (splits : (y : Y) (ys : List Y) → breaches (y ∷ ys) ≡ breaches (y ∷ []) ++ breaches ys) where
  -- the first breach of the elements from the i-th on
  abbrev pub first_from : ℕ → List X → Option A
  first_from i xs = first_of (breaches (map view (drop i xs)))

  next_breach : (i : ℕ) (xs : List X) (x : X) → i < length xs → x ≡ get_or xs i x
      → first_from i xs ≡ first_of (breaches (view x ∷ []) ++ breaches (map view (drop (i + 1) xs)))
  next_breach i xs x h is =
      at_drop_more (λ ys. first_of (breaches (map view ys))) xs i x h ∙ ap first_of (splits _ _)
      ∙ ap (λ y. first_of (breaches (view y ∷ []) ++ breaches (map view (drop (i + 1) xs))))
      (sym is)

  -- after an element without a breach
  pub goes_on : (i : ℕ) (xs : List X) (x : X) → i < length xs → x ≡ get_or xs i x
      → None ≡ first_of (breaches (view x ∷ [])) → first_from i xs ≡ first_from 0 xs
      → first_from (i + 1) xs ≡ first_from 0 xs
  goes_on i xs x h is none invariant = sym (first_of-append_none _ _ none)
      ∙ sym (next_breach i xs x h is) ∙ invariant

  -- at an element with a breach
  pub stops_at : (i : ℕ) (xs : List X) (x : X) (why : A) → i < length xs → x ≡ get_or xs i x
      → Some why ≡ first_of (breaches (view x ∷ [])) → first_from i xs ≡ first_from 0 xs
      → Some why ≡ first_from 0 xs
  stops_at i xs x why h is some invariant = sym (first_of-append_some _ _ why some)
      ∙ sym (next_breach i xs x h is) ∙ invariant

  -- after the last element
  pub at_the_end : breaches [] ≡ [] → (i : ℕ) (xs : List X) → length xs ≤ i
      → first_from i xs ≡ first_from 0 xs → None ≡ first_from 0 xs
  at_the_end none i xs h invariant = sym (ap first_of none)
      ∙ ap (λ ys. first_of (breaches (map view ys))) (sym (drop_of_length-le xs h)) ∙ invariant

-- what each element gives
pub flat_one : {Y A : Type 0} (f : Y → List A) (y : Y) → flat_map f (y ∷ []) ≡ f y
flat_one f y = append-nil (f y)

pub flat_split : {Y A : Type 0} (f : Y → List A) (y : Y) (ys : List Y)
    → flat_map f (y ∷ ys) ≡ flat_map f (y ∷ []) ++ flat_map f ys
flat_split f y ys = ap (λ zs. zs ++ flat_map f ys) (sym (flat_one f y))
