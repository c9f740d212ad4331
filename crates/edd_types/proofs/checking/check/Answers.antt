use Rattle.std.proofs.Common.{◌∙◌, ap}
use Rattle.std.specs.Prelude.{option_copied}
use Rattle.edd_syntax.specs.ItemView.{identification_of, numbered_items}
use Rattle.edd_syntax.specs.Resolved.{description}
use Rattle.edd_syntax.specs.SubsetRules.{subset_breaches}
use Rattle.edd_breaches.proofs.BrokenLaws.{broken_all, nothing_broken, first_is}
use Rattle.edd_types.proofs.checking.check.Goals as goal

pub new-requires : goal.new-requires
new-requires c =
    let i = identification_of c.args.resolved.now.identification in
    let are = c.in_ok-tell_profile.ensures.rules i
    ∙ ap (λ xs. subset_breaches (description i (numbered_items xs)))
    (c.deref-2.ensures.value ∙ ap (λ v. v.items) c.deref.ensures) in
    record {
      no_breach = nothing_broken _ _ _ _ c.deref-3.ensures.value
          (broken_all _ _ _ _ c.new-told.ensures.items c.in_ok-tell_profile.ensures.told are)
          c.first.ensures.value (ap option_copied c.in-None.is);
    }

pub returns-in-None-clause-accepted : goal.returns-in-None-clause-accepted
returns-in-None-clause-accepted c =
    let i = identification_of c.args.resolved.now.identification in
    let are = c.in_ok-tell_profile.ensures.rules i
    ∙ ap (λ xs. subset_breaches (description i (numbered_items xs)))
    (c.deref-2.ensures.value ∙ ap (λ v. v.items) c.deref.ensures) in
    nothing_broken _ _ _ _ c.deref-3.ensures.value
    (broken_all _ _ _ _ c.new-told.ensures.items c.in_ok-tell_profile.ensures.told are)
    c.first.ensures.value (ap option_copied c.in-None.is)

pub returns-clause-refused : goal.returns-clause-refused
returns-clause-refused c =
    let i = identification_of c.args.resolved.now.identification in
    let are = c.in_ok-tell_profile.ensures.rules i
    ∙ ap (λ xs. subset_breaches (description i (numbered_items xs)))
    (c.deref-2.ensures.value ∙ ap (λ v. v.items) c.deref.ensures) in
    first_is _ _ _ _ c.deref-3.ensures.value
    (broken_all _ _ _ _ c.new-told.ensures.items c.in_ok-tell_profile.ensures.told are)
    c.first.ensures.value c.in-Some.first.now _ (ap option_copied c.in-Some.is)
    c.in_ok-of-in-Some.ensures.sound
