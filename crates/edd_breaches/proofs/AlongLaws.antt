-- A loop over a slice that tells of breaches and carries a state from element to element.
use Rattle.std.proofs.Common.{◌≡◌, refl, sym, ap, ◌∙◌, subst, ℕ, ◌+◌, ◌<◌, ◌≤◌, List, [], ◌∷◌, ◌++◌, length, get_or, drop}
use Rattle.std.proofs.lemmas.List.{append_assoc, append-nil, at_drop_more}
use Rattle.std.proofs.Math.ListN.{drop_of_length-le}
use Rattle.edd_breaches.proofs.TellLaws.{tells_none, tells_append}
use Rattle.edd_breaches.specs.declared.breach.Breach.{Breach}
use Rattle.edd_breaches.specs.Told.{Told, Tells}
use Rattle.edd_breaches.specs.Along.{told_along}

module _ {S X : Type 0} (one : S → X → List Told) (next : S → X → S) where
  -- what was told so far, and what is to be told from the i-th element on
  abbrev pub Underway : (all : List Told) → (old now : List Breach) → S → ℕ → List X → Type 0
  Underway all old now s i xs = (so_far : List Told)
      × (all ≡ so_far ++ told_along one next s (drop i xs)) × Tells so_far old now

  pub starts : (old : List Breach) (s : S) (xs : List X)
      → Underway (told_along one next s xs) old old s 0 xs
  starts old s xs = ([], refl, tells_none old)

  next_told : (s : S) (i : ℕ) (xs : List X) (x : X) → i < length xs → x ≡ get_or xs i x
      → told_along one next s (drop i xs)
      ≡ one s x ++ told_along one next (next s x) (drop (i + 1) xs)
  next_told s i xs x h is = at_drop_more (told_along one next s) xs i x h
      ∙ ap (λ y. told_along one next s (y ∷ drop (i + 1) xs)) (sym is)

  -- after an element
  pub tells_on : (all : List Told) (old mid new : List Breach) (s after : S) (i : ℕ) (xs : List X)
      (x : X) → after ≡ next s x → i < length xs → x ≡ get_or xs i x → Underway all old mid s i xs
      → Tells (one s x) mid new → Underway all old new after (i + 1) xs
  tells_on all old mid new s after i xs x same h is (so_far, rest, has) more = (
    so_far ++ one s x,
    rest ∙ ap (λ ys. so_far ++ ys) (next_told s i xs x h is)
        ∙ sym (append_assoc so_far (one s x) (told_along one next (next s x) (drop (i + 1) xs)))
        ∙ ap (λ t. (so_far ++ one s x) ++ told_along one next t (drop (i + 1) xs)) (sym same),
    tells_append so_far (one s x) old mid new has more,
  )

  -- after the last element
  pub tells_all : (all : List Told) (old new : List Breach) (s : S) (i : ℕ) (xs : List X)
      → length xs ≤ i → Underway all old new s i xs → Tells all old new
  tells_all all old new s i xs h (so_far, rest, has) =
      subst (λ ys. Tells ys old new)
      (sym (rest ∙ ap (λ ys. so_far ++ told_along one next s ys) (drop_of_length-le xs h)
      ∙ append-nil so_far)) has
