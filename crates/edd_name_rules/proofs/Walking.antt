-- A loop over things of which each is told after those before it.
use Rattle.std.proofs.Common.{◌≡◌, refl, sym, ap, ◌∙◌, ℕ, ◌+◌, ◌<◌, ◌≤◌, List, [], ◌++◌, length, get_or, drop, append_assoc, subst}
use Rattle.std.proofs.lemmas.List.{append-nil, at_drop_more}
use Rattle.std.proofs.Math.ListN.{drop_of_length-le}
use Rattle.edd_breaches.proofs.TellLaws.{tells_none, tells_append}
use Rattle.edd_breaches.specs.declared.breach.Breach.{Breach}
use Rattle.edd_breaches.specs.Told.{Told, Tells}
use Rattle.edd_syntax.specs.Text.{Name}
use Rattle.edd_duplicates.specs.declared.seen.Seen.{Seen}
use Rattle.edd_breaches.specs.Along.{told_along, after_all}
use Rattle.edd_duplicates.specs.Seen.{HasSeen}

module _ {X : Type 0} (told : List Name → X → List Told) (after : List Name → X → List Name) where
  -- the names that were seen, and what was told of the first i things
  abbrev pub Walking : (first : List Name) → Seen → (old now : List Breach) → ℕ → List X → Type 0
  Walking first seen old now i xs = (b : List Name) × HasSeen b seen × (so_far : List Told)
      × Tells so_far old now
      × (told_along told after first xs ≡ so_far ++ told_along told after b (drop i xs))
      × (after_all after first xs ≡ after_all after b (drop i xs))

  pub walks_from : (first : List Name) (seen : Seen) (old : List Breach) (xs : List X)
      → HasSeen first seen → Walking first seen old old 0 xs
  walks_from first seen old xs h = (first, h, [], tells_none old, refl, refl)

  pub walks_on : (first : List Name) (seen seen' : Seen) (old mid new : List Breach) (i : ℕ)
      (xs : List X) (x : X) → i < length xs → x ≡ get_or xs i x
      → ((b : List Name) → HasSeen b seen → Tells (told b x) mid new)
      → ((b : List Name) → HasSeen b seen → HasSeen (after b x) seen')
      → Walking first seen old mid i xs → Walking first seen' old new (i + 1) xs
  walks_on first seen seen' old mid new i xs x h is more known (b, has, so_far, tells, all, ends) = (
    after b x,
    known b has,
    so_far ++ told b x,
    tells_append so_far (told b x) old mid new tells (more b has),
    all ∙ ap (λ ys. so_far ++ ys) (at_drop_more (told_along told after b) xs i x h
        ∙ ap (λ y. told b y ++ told_along told after (after b y) (drop (i + 1) xs)) (sym is))
        ∙ sym (append_assoc so_far (told b x) (told_along told after (after b x) (drop (i + 1) xs))),
    ends ∙ at_drop_more (after_all after b) xs i x h
        ∙ ap (λ y. after_all after (after b y) (drop (i + 1) xs)) (sym is),
  )

  pub walks_all : (first : List Name) (seen : Seen) (old now : List Breach) (i : ℕ) (xs : List X)
      → length xs ≤ i → Walking first seen old now i xs
      → Tells (told_along told after first xs) old now
  walks_all first seen old now i xs h (b, has, so_far, tells, all, ends) =
      subst (λ ys. Tells ys old now) (sym (all ∙ ap (λ ys. so_far ++ told_along told after b ys)
      (drop_of_length-le xs h) ∙ append-nil so_far)) tells

  pub has_seen_all : (first : List Name) (seen : Seen) (old now : List Breach) (i : ℕ)
      (xs : List X) → length xs ≤ i → Walking first seen old now i xs
      → HasSeen (after_all after first xs) seen
  has_seen_all first seen old now i xs h (b, has, so_far, tells, all, ends) =
      subst (λ ns. HasSeen ns seen)
      (sym (ends ∙ ap (after_all after b) (drop_of_length-le xs h))) has
