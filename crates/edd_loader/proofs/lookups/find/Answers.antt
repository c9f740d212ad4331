use Rattle.std.proofs.Common.{rules, ◌≡◌, ◌∙◌, ap, refl, subst, arith, Some, true}
use Rattle.edd_instructions.specs.Agreement.{place_of_item}
use Rattle.edd_image.specs.Contents.{contents_in}
use Rattle.edd_image.specs.Layout.{item_count}
use Rattle.edd_image.specs.Existing.{item_exists}
use Rattle.edd_loader.specs.Lookups.{name_in_row}
use Rattle.edd_loader.proofs.LookupLaws.{name_in_place, named_in_place, first_named}
use Rattle.edd_loader.proofs.RuleOrder.{has_header}
use Rattle.edd_loader.proofs.lookups.find.Goals as goal

pub counts-counts-requires : goal.counts-counts-requires
counts-counts-requires c = has_header _ _ refl c.requires.valid

pub returns-clause-complete : goal.returns-clause-complete
returns-clause-complete c = λ item named.
    let at = name_in_place c.args.bytes.now item c.args.name.now named in
    c.loop-place.invariant _
    (omega (arith, at.0, c.item_count-count.ensures ∙ ap item_count c.counts-counts.ensures))
    at.1

pub returns-then-eq-clause-sound : goal.returns-then-eq-clause-sound
returns-then-eq-clause-sound c =
    let there = subst (λ counts. item_exists counts c.item_at.result ≡ true) c.counts-counts.ensures
    c.item_at.ensures.exists in
    let same : c.name_at.result.now ≡ c.args.name.now = search rules in
    named_in_place c.args.bytes.now c.item_at.result there
    ∙ ap (name_in_row (contents_in c.args.bytes.now))
    (subst (λ counts. place_of_item counts c.item_at.result ≡ c.loop-place.place)
    c.counts-counts.ensures c.item_at.ensures.place)
    ∙ c.name_at.ensures.sound ∙ ap Some same

pub returns-then-eq-clause-first : goal.returns-then-eq-clause-first
returns-then-eq-clause-first c = first_named c.args.bytes.now c.item_at.result c.args.name.now
    c.loop-place.place
    (subst (λ counts. place_of_item counts c.item_at.result ≡ c.loop-place.place)
    c.counts-counts.ensures c.item_at.ensures.place) c.loop-place.invariant
