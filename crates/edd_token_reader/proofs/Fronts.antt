-- Lists that are read one element after the other: what was read so far, and what reading goes on
-- with.
use Rattle.std.proofs.Common.{◌≡◌, List, [], ◌∷◌, ◌++◌, map, Some, None, refl, ap}
use Rattle.edd_syntax.specs.Token.{Token}
use Rattle.edd_grammar.specs.Reading.{◌>>=◌, Read}

-- what reads on in two ways reads the same if both ways do after what was read before them
pub bind_same : {A B : Type 0} (found : Read A) (f g : A × List Token → Read B)
    → ((x : A × List Token) → found ≡ Some x → f x ≡ g x) → (found >>= f) ≡ (found >>= g)
bind_same None f g same = refl
bind_same (Some x) f g same = same x refl

module _ {A L : Type 0} (add : A → L → L) where
  -- the elements that were read, before others
  abbrev pub behind : List A → L → L
  behind [] others = others
  behind (a ∷ before) others = add a (behind before others)

  abbrev pub with_front : List A → Read L → Read L
  with_front front found = found >>= λ others. Some (behind front others.0, others.1)

  pub behind_more : (front : List A) (a : A) (others : L) → behind front (add a others)
      ≡ behind (front ++ a ∷ []) others
  behind_more [] a others = refl
  behind_more (b ∷ front) a others = ap (add b) (behind_more front a others)

  pub regroup : (front : List A) (a : A) (found : Read L)
      → with_front front (found >>= λ o. Some (add a o.0, o.1)) ≡ with_front (front ++ a ∷ []) found
  regroup front a None = refl
  regroup front a (Some o) = ap (λ (x : L). Some (x, o.1)) (behind_more front a o.0)

-- ---- lists of elements by what they stand for

module _ {A B : Type 0} (view : A → B) where
  abbrev pub add_element : A → List B → List B
  add_element a others = view a ∷ others

  pub all_elements : (front : List A) → behind add_element front [] ≡ map view front
  all_elements [] = refl
  all_elements (a ∷ front) = ap (λ (xs : List B). view a ∷ xs) (all_elements front)

  abbrev pub with_elements : List A → Read (List B) → Read (List B)
  with_elements front found = with_front add_element front found
