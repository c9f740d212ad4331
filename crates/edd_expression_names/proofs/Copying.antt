-- Lists of trees that are copied one after another, where each means the same at any place.
use Rattle.std.proofs.Common.{◌≡◌, refl, ℕ, ◌+◌, ◌<◌, List, [], ◌∷◌, ◌++◌, length, get_or, drop, map, Option, Some}
use Rattle.edd_breaches.specs.declared.breach.Breach.{Breach}
use Rattle.edd_name_meanings.specs.Copies.{Tells}
use Rattle.edd_expression_names.proofs.CopyingIn as in_state
use Rattle.edd_syntax.specs.declared.reference.Path as code
use Rattle.edd_syntax.specs.Reference.{Path}
use Rattle.edd_syntax.specs.Item.{Description}
use Rattle.edd_syntax.specs.NameUses.{Use}

module _ {X Y Z W C : Type 0} (unit : Description Path) (view : X → Y) (shown : Z → W)
    (uses : List Y → List Use)
    (split : (y : Y) (ys : List Y) → uses (y ∷ ys) ≡ uses (y ∷ []) ++ uses ys)
    (paths : List X → List code.Path)
    (paths_split : (x : X) (xs : List X) → paths (x ∷ xs) ≡ paths (x ∷ []) ++ paths xs)
    (one : Y → Option W) (resolved : List Y → Option C) (join : List W → C)
    (joined : (y : Y) (ys : List Y) (w : W) (ws : List W) → one y ≡ Some w
    → resolved ys ≡ Some (join ws) → resolved (y ∷ ys) ≡ Some (join (w ∷ ws)))
    (old : List Breach) where
  -- the copies zs are those of the first i elements, whose faults were told
  abbrev pub Copied : (i : ℕ) (xs : List X) (zs : List Z) (mid : List Breach) → Type 0
  Copied i xs zs mid = in_state.Copied {S = Unit {0}} unit view shown (λ s y. s)
      (λ s y. uses (y ∷ [])) (λ s. uses) (λ s. split) (λ x. paths (x ∷ [])) paths paths_split
      (λ s. one) (λ s. resolved) join (λ s. joined)
      tt old tt i xs zs mid

  pub at_start : (xs : List X) (zs : List Z) (mid : List Breach) → zs ≡ [] → mid ≡ old
      → Copied 0 xs zs mid
  at_start xs zs mid is same = in_state.at_start unit view shown (λ s y. s)
      (λ s y. uses (y ∷ [])) (λ s. uses) (λ s. split) (λ x. paths (x ∷ [])) paths paths_split
      (λ s. one) (λ s. resolved) join (λ s. joined)
      tt old tt xs zs mid refl is same

  pub one_more : (i : ℕ) (xs : List X) (x : X) (zs ys : List Z) (z : Z)
      (mid next : List Breach) → i < length xs → x ≡ get_or xs i x
      → Tells unit (uses (view x ∷ [])) (paths (x ∷ [])) mid next
      → one (view x) ≡ Some (shown z) → ys ≡ zs ++ z ∷ []
      → Copied i xs zs mid → Copied (i + 1) xs ys next
  one_more i xs x zs ys z mid next h is tells m grown c = in_state.one_more unit view shown
      (λ s y. s) (λ s y. uses (y ∷ [])) (λ s. uses) (λ s. split) (λ x. paths (x ∷ [])) paths
      paths_split (λ s. one) (λ s. resolved) join
      (λ s. joined) tt old tt tt i xs x zs ys z mid next h is refl tells m grown c

  pub told_at_end : uses [] ≡ [] → paths [] ≡ [] → (i : ℕ) (xs : List X) (zs : List Z)
      (mid : List Breach) → drop i xs ≡ [] → Copied i xs zs mid
      → Tells unit (uses (map view xs)) (paths xs) old mid
  told_at_end empty no_paths = in_state.told_at_end unit view shown (λ s y. s)
      (λ s y. uses (y ∷ []))
      (λ s. uses) (λ s. split) (λ x. paths (x ∷ [])) paths paths_split (λ s. one) (λ s. resolved)
      join (λ s. joined) tt old (λ s. empty) no_paths tt

  pub meant_at_end : resolved [] ≡ Some (join []) → (i : ℕ) (xs : List X) (zs : List Z)
      (mid : List Breach) → drop i xs ≡ [] → Copied i xs zs mid
      → resolved (map view xs) ≡ Some (join (map shown zs))
  meant_at_end empty = in_state.meant_at_end unit view shown (λ s y. s) (λ s y. uses (y ∷ []))
      (λ s. uses) (λ s. split) (λ x. paths (x ∷ [])) paths paths_split (λ s. one) (λ s. resolved)
      join (λ s. joined) tt old (λ s. empty) tt
