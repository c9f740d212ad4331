use Rattle.std.proofs.Common.{◌≡◌, sym, ap, ◌∙◌, true, false, ◌++◌, map, subst}
use Rattle.std.specs.Prelude.{IfSome, is_some}
use Rattle.edd_breaches.specs.Told.{Tells, broken, told_of}
use Rattle.edd_syntax.specs.ItemView.{identification_of, numbered_items}
use Rattle.edd_names.specs.Told.{AreAtTokens, IsMeant, IsRead, names_told, told_of_names}
use Rattle.edd_names.specs.Units.{unit_view}
use Rattle.edd_findings.specs.Breaches.{calls_after}
use Rattle.edd_findings.proofs.BreachLaws.{before_uses, same_rules, with_profile}
use Rattle.edd_findings.proofs.breaches.told_of.Goals as goal

pub returns-in-None : goal.returns-in-None
returns-in-None c =
    let u = c.args.unit.now in
    let told = subst (λ o. Tells (names_told u (is_some o)) c.new-told.result.items
    c.tell_names.new.told.items) c.in-None.is c.in_ok-tell_names.ensures.told in
    before_uses u c.new-told.result.items c.tell_names.new.told.items c.new-told.ensures.items told
    (same_rules (names_told u false) (told_of_names (unit_view u) false) c.new-told.result.items
    c.tell_names.new.told.items c.new-told.ensures.items told
    (subst (λ o. broken c.tell_names.new.told.items ≡ broken c.new-told.result.items
    ++ told_of_names (unit_view u) (is_some o)) c.in-None.is c.in_ok-tell_names.ensures.rules))
    (c.in_ok-tell_names.ensures.counted (ap is_some c.in-None.is))

pub returns-in_ok-tell_profile-in-Some : goal.returns-in_ok-tell_profile-in-Some
returns-in_ok-tell_profile-in-Some c =
    let u = c.args.unit.now in
    let told = subst (λ o. Tells (names_told u (is_some o)) c.new-told.result.items
    c.tell_names.new.told.items) c.in-Some.is c.in_ok-tell_names.ensures.told in
    with_profile u c.deref-in-Some.result.now
    (same_rules (names_told u true) (told_of_names (unit_view u) true) c.new-told.result.items
    c.tell_names.new.told.items c.new-told.ensures.items told
    (subst (λ o. broken c.tell_names.new.told.items ≡ broken c.new-told.result.items
    ++ told_of_names (unit_view u) (is_some o)) c.in-Some.is c.in_ok-tell_names.ensures.rules))
    (c.in_ok-tell_profile-in-Some.ensures.rules (identification_of u.identification))
    (subst (λ xs. IsMeant (unit_view u) (numbered_items xs)) (sym c.deref-in-Some.ensures.value)
    (subst (λ o. IfSome o (λ v. IsMeant (unit_view u) (numbered_items v.items))) c.in-Some.is
    c.in_ok-tell_names.ensures.sound)) (
      subst (λ xs. IsRead (unit_view u) (numbered_items xs)) (sym c.deref-in-Some.ensures.value)
          (subst (λ o. IfSome o (λ v. IsRead (unit_view u) (numbered_items v.items))) c.in-Some.is
          c.in_ok-tell_names.ensures.read),
      subst (AreAtTokens u) (sym c.deref-in-Some.ensures.value)
          (subst (λ o. IfSome o (λ v. AreAtTokens u v.items)) c.in-Some.is
          c.in_ok-tell_names.ensures.kept),
    )
    c.new-told.result.items c.tell_names.new.told.items c.tell_profile.new.told.items
    c.calls_after-which.result c.new-told.ensures.items told
    (c.calls_after-which.ensures ∙ ap (λ bs. calls_after (map told_of bs)) c.deref.ensures.value)
    c.in_ok-tell_profile-in-Some.ensures.told
