-- Lists of trees that are copied one after another, where each changes what the next ones mean: s
-- is the state before the next one.
use Rattle.std.proofs.Common.{◌≡◌, sym, ap, ◌∙◌, ℕ, ◌+◌, ◌<◌, List, [], ◌∷◌, ◌++◌, length, get_or, drop, map, Option, Some, append_assoc, subst}
use Rattle.std.proofs.lemmas.List.{at_drop_more, append-nil}
use Rattle.edd_breaches.specs.declared.breach.Breach.{Breach}
use Rattle.edd_name_meanings.specs.Copies.{Tells}
use Rattle.edd_name_rules.proofs.Repeating.{map_append}
use Rattle.edd_name_meanings.proofs.UseLaws.{tells_none, tells_append, retold}
use Rattle.edd_syntax.specs.declared.reference.Path as code
use Rattle.edd_syntax.specs.Reference.{Path}
use Rattle.edd_syntax.specs.Item.{Description}
use Rattle.edd_syntax.specs.NameUses.{Use}

module _ {S X Y Z W C : Type 0} (unit : Description Path) (view : X → Y) (shown : Z → W) (next : S
    → Y → S) (here : S → Y → List Use) (uses : S → List Y → List Use)
    (split : (s : S) (y : Y) (ys : List Y) → uses s (y ∷ ys) ≡ here s y ++ uses (next s y) ys)
    (at : X → List code.Path) (paths : List X → List code.Path)
    (paths_split : (x : X) (xs : List X) → paths (x ∷ xs) ≡ at x ++ paths xs)
    (one : S → Y → Option W) (resolved : S → List Y → Option C) (join : List W → C)
    (joined : (s : S) (y : Y) (ys : List Y) (w : W) (ws : List W) → one s y ≡ Some w
    → resolved (next s y) ys ≡ Some (join ws) → resolved s (y ∷ ys) ≡ Some (join (w ∷ ws)))
    (start : S) (old : List Breach) where
  -- the copies zs are those of the first i elements, after which the state is s, and whose faults
  -- were told
  pub record Copied (s : S) (i : ℕ) (xs : List X) (zs : List Z) (mid : List Breach)
      : Type 0 where
    pub told : (new : List Breach)
        → Tells unit (uses s (map view (drop i xs))) (paths (drop i xs)) mid new
        → Tells unit (uses start (map view xs)) (paths xs) old new
    pub meant : (ws : List W) → resolved s (map view (drop i xs)) ≡ Some (join ws)
        → resolved start (map view xs) ≡ Some (join (map shown zs ++ ws))

  pub at_start : (s : S) (xs : List X) (zs : List Z) (mid : List Breach) → s ≡ start → zs ≡ []
      → mid ≡ old → Copied s 0 xs zs mid
  at_start s xs zs mid same is before = record {
    told = λ new h. subst (λ m. Tells unit (uses start (map view xs)) (paths xs) m new) before
        (subst (λ t. Tells unit (uses t (map view xs)) (paths xs) mid new) same h);
    meant = λ ws h.
        subst (λ ys. resolved start (map view xs) ≡ Some (join (map shown ys ++ ws))) (sym is)
        (subst (λ t. resolved t (map view xs) ≡ Some (join ws)) same h);
  }

  next_uses : (s : S) (i : ℕ) (xs : List X) (x : X) → i < length xs → x ≡ get_or xs i x
      → uses s (map view (drop i xs)) ≡ here s (view x)
      ++ uses (next s (view x)) (map view (drop (i + 1) xs))
  next_uses s i xs x h is =
      at_drop_more (λ ys. uses s (map view ys)) xs i x h ∙ split s _ _
      ∙ ap (λ y. here s (view y) ++ uses (next s (view y)) (map view (drop (i + 1) xs)))
      (sym is)

  next_paths : (i : ℕ) (xs : List X) (x : X) → i < length xs → x ≡ get_or xs i x
      → paths (drop i xs) ≡ at x ++ paths (drop (i + 1) xs)
  next_paths i xs x h is = at_drop_more paths xs i x h ∙ paths_split _ _
      ∙ ap (λ y. at y ++ paths (drop (i + 1) xs)) (sym is)

  next_meant : (s : S) (i : ℕ) (xs : List X) (x : X) (w : W) (ws : List W) → i < length xs
      → x ≡ get_or xs i x → one s (view x) ≡ Some w
      → resolved (next s (view x)) (map view (drop (i + 1) xs)) ≡ Some (join ws)
      → resolved s (map view (drop i xs)) ≡ Some (join (w ∷ ws))
  next_meant s i xs x w ws h is m ms =
      at_drop_more (λ ys. resolved s (map view ys)) xs i x h
      ∙ ap (λ y. resolved s (view y ∷ map view (drop (i + 1) xs))) (sym is)
      ∙ joined s (view x) (map view (drop (i + 1) xs)) w ws m ms

  pub one_more : (s t : S) (i : ℕ) (xs : List X) (x : X) (zs ys : List Z) (z : Z)
      (mid after : List Breach) → i < length xs → x ≡ get_or xs i x → t ≡ next s (view x)
      → Tells unit (here s (view x)) (at x) mid after
      → one s (view x) ≡ Some (shown z) → ys ≡ zs ++ z ∷ []
      → Copied s i xs zs mid → Copied t (i + 1) xs ys after
  one_more s t i xs x zs ys z mid after h is follows tells m grown c = record {
    told = λ new k. c.told new (retold unit _ _ _ _ mid new (sym (next_uses s i xs x h is))
        (sym (next_paths i xs x h is))
        (tells_append unit (here s (view x)) _ (at x) _ mid after new tells
        (subst (λ u. Tells unit (uses u (map view (drop (i + 1) xs))) (paths (drop (i + 1) xs))
        after new) follows k)));
    meant = λ ws k.
        subst (λ vs. resolved start (map view xs) ≡ Some (join vs))
        (sym (ap (λ vs. vs ++ ws) (ap (map shown) grown ∙ map_append shown zs (z ∷ []))
        ∙ append_assoc (map shown zs) (shown z ∷ []) ws))
        (c.meant (shown z ∷ ws) (next_meant s i xs x (shown z) ws h is m
        (subst (λ u. resolved u (map view (drop (i + 1) xs)) ≡ Some (join ws)) follows k)));
  }

  pub told_at_end : ((s : S) → uses s [] ≡ []) → paths [] ≡ [] → (s : S) (i : ℕ) (xs : List X)
      (zs : List Z) (mid : List Breach) → drop i xs ≡ [] → Copied s i xs zs mid
      → Tells unit (uses start (map view xs)) (paths xs) old mid
  told_at_end empty no_paths s i xs zs mid over c = c.told mid
      (retold unit [] _ [] _ mid mid (sym (ap (λ ys. uses s (map view ys)) over ∙ empty s))
      (sym (ap paths over ∙ no_paths)) (tells_none unit mid))

  pub meant_at_end : ((s : S) → resolved s [] ≡ Some (join []))
      → (s : S) (i : ℕ) (xs : List X) (zs : List Z) (mid : List Breach) → drop i xs ≡ []
      → Copied s i xs zs mid → resolved start (map view xs) ≡ Some (join (map shown zs))
  meant_at_end empty s i xs zs mid over c =
      subst (λ ws. resolved start (map view xs) ≡ Some (join ws)) (append-nil (map shown zs))
      (c.meant [] (ap (λ ys. resolved s (map view ys)) over ∙ empty s))
