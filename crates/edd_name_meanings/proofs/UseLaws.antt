-- Faults in uses that are one after the other.
use Rattle.std.proofs.Common.{◌≡◌, refl, sym, ap, ◌∙◌, ◌+◌, List, [], ◌∷◌, ◌++◌, length, length-append, map, Some, None, append_assoc, arith, subst}
use Rattle.std.proofs.lemmas.Grind.{flat_map-append}
use Rattle.std.proofs.lemmas.List.{append-nil}
use Rattle.edd_breaches.specs.declared.breach.Breach.{Breach}
use Rattle.edd_breaches.specs.Told as breaches
use Rattle.edd_breaches.specs.Told.{told_at}
use Rattle.edd_breaches.proofs.TellLaws as told
use Rattle.edd_name_meanings.specs.Meanings.{faults_in, NoFault}
use Rattle.edd_name_meanings.specs.Copies.{Tells, told_in}
use Rattle.edd_name_meanings.specs.Places.{place_of_use}
use Rattle.edd_syntax.specs.declared.reference.Path as code
use Rattle.edd_syntax.specs.Reference.{Path}
use Rattle.edd_syntax.specs.Item.{Description}
use Rattle.edd_syntax.specs.NameRules.{faults_of_use}
use Rattle.edd_syntax.specs.NameUses.{Use}
use Rattle.edd_syntax.specs.Refusal.{Refusal, first_of}

none_before : (xs ys : List Refusal) → None ≡ first_of (xs ++ ys) → None ≡ first_of xs
none_before [] ys h = refl
none_before (x ∷ xs) ys h = h

none_after : (xs ys : List Refusal) → None ≡ first_of (xs ++ ys) → None ≡ first_of ys
none_after [] ys h = h
none_after (x ∷ xs) ys h = let clash : None ≡ Some x = h in absurd cc

nothing : (rs : List Refusal) → None ≡ first_of rs → rs ≡ []
nothing [] none = refl
nothing (r ∷ rs) none = let clash : None ≡ Some r = none in absurd cc

module _ (unit : Description Path) where
  faults_append : (us vs : List Use) → faults_in unit (us ++ vs) ≡ faults_in unit us
      ++ faults_in unit vs
  unfolding faults_in
  faults_append us vs = flat_map-append (faults_of_use unit) us vs

  -- ---- what is told

  told_append : (us vs : List Use) (ps qs : List code.Path) → length us ≡ length ps
      → told_in unit (us ++ vs) (ps ++ qs) ≡ told_in unit us ps ++ told_in unit vs qs
  told_append [] vs [] qs same = refl
  told_append [] vs (p ∷ ps) qs same = absurd (omega (arith, same))
  told_append (u ∷ us) vs [] qs same = absurd (omega (arith, same))
  told_append (u ∷ us) vs (p ∷ ps) qs same =
      ap (λ all. map (λ why. told_at why (place_of_use unit u p)) (faults_of_use unit u) ++ all)
      (told_append us vs ps qs (omega (arith, same)))
      ∙ sym (append_assoc (map (λ why. told_at why (place_of_use unit u p)) (faults_of_use unit u))
      (told_in unit us ps) (told_in unit vs qs))

  pub tells_none : (old : List Breach) → Tells unit [] [] old old
  unfolding Tells
  tells_none old = (refl, told.tells_none old)

  pub tells_fine : (u : Use) (p : code.Path) (old : List Breach) → NoFault unit (u ∷ [])
      → Tells unit (u ∷ []) (p ∷ []) old old
  unfolding Tells NoFault faults_in
  tells_fine u p old none = (
    refl,
    subst (λ rs. breaches.Tells (map (λ why. told_at why (place_of_use unit u p)) rs ++ []) old old)
        (sym (nothing (faults_of_use unit u)
        (none ∙ ap first_of (append-nil (faults_of_use unit u)))))
        (told.tells_none old),
  )

  pub tells_append : (us vs : List Use) (ps qs : List code.Path) (old mid new : List Breach)
      → Tells unit us ps old mid → Tells unit vs qs mid new
      → Tells unit (us ++ vs) (ps ++ qs) old new
  unfolding Tells
  tells_append us vs ps qs old mid new h k = (
    length-append us vs ∙ ap (λ n. n + length vs) h.0 ∙ ap (λ n. length ps + n) k.0
        ∙ sym (length-append ps qs),
    subst (λ all. breaches.Tells all old new) (sym (told_append us vs ps qs h.0))
        (told.tells_append (told_in unit us ps) (told_in unit vs qs) old mid new h.1 k.1),
  )

  pub tells_cons : (u : Use) (vs : List Use) (p : code.Path) (qs : List code.Path)
      (old mid new : List Breach) → Tells unit (u ∷ []) (p ∷ []) old mid → Tells unit vs qs mid new
      → Tells unit (u ∷ vs) (p ∷ qs) old new
  tells_cons u vs p qs old mid new h k = tells_append (u ∷ []) vs (p ∷ []) qs old mid new h k

  -- the same uses at the same paths
  pub retold : (us vs : List Use) (ps qs : List code.Path) (old new : List Breach) → us ≡ vs
      → ps ≡ qs → Tells unit us ps old new → Tells unit vs qs old new
  retold us vs ps qs old new same same' h =
      subst (λ all. Tells unit vs all old new) same'
      (subst (λ all. Tells unit all ps old new) same h)

  -- ---- uses without a fault

  pub none_left : (us vs : List Use) → NoFault unit (us ++ vs) → NoFault unit us
  unfolding NoFault
  none_left us vs h = none_before (faults_in unit us) (faults_in unit vs)
      (h ∙ ap first_of (faults_append us vs))

  pub none_right : (us vs : List Use) → NoFault unit (us ++ vs) → NoFault unit vs
  unfolding NoFault
  none_right us vs h = none_after (faults_in unit us) (faults_in unit vs)
      (h ∙ ap first_of (faults_append us vs))

  pub none_head : (u : Use) (vs : List Use) → NoFault unit (u ∷ vs) → NoFault unit (u ∷ [])
  none_head u vs h = none_left (u ∷ []) vs h

  pub none_tail : (u : Use) (vs : List Use) → NoFault unit (u ∷ vs) → NoFault unit vs
  none_tail u vs h = none_right (u ∷ []) vs h

pub ruleset uses = (
  tells_none,
  tells_fine,
  tells_append,
  tells_cons,
  none_left,
  none_right,
  none_head,
  none_tail,
)
