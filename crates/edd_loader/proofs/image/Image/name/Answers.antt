use Rattle.std.proofs.Common.{◌≡◌, ◌∙◌, ◌<◌, ap, sym, subst, Some, true, false}
use Rattle.edd_image.specs.Contents.{contents_in}
use Rattle.edd_image.specs.Fields.{counts_in}
use Rattle.edd_image.specs.Layout.{item_count}
use Rattle.edd_image.specs.Existing.{item_exists}
use Rattle.edd_instructions.specs.Agreement.{place_of_item}
use Rattle.edd_loader.specs.Lookups.{name_in_row}
use Rattle.edd_loader.proofs.LookupLaws.{named_in_place, no_name, place_inside}
use Rattle.edd_loader.proofs.image.Image.name.Goals as goal

pub returns-then-not-has_item-clause-sound : goal.returns-then-not-has_item-clause-sound
returns-then-not-has_item-clause-sound c = no_name c.args.self.now c.args.item
    (subst (λ counts. item_exists counts c.args.item ≡ false) c.counts-counts.ensures
    (sym c.has_item.ensures ∙ c.if-not-has_item.true))

pub returns-clause-sound : goal.returns-clause-sound
returns-clause-sound c = sym (
    named_in_place c.args.self.now c.args.item
    (subst (λ counts. item_exists counts c.args.item ≡ true) c.counts-counts.ensures
    (sym c.has_item.ensures ∙ c.if-not-has_item.false))
    ∙ ap (name_in_row (contents_in c.args.self.now))
    (sym (c.place_of_item-place.ensures ∙ ap (λ counts. place_of_item counts c.args.item)
    c.counts-counts.ensures))
    ∙ subst (λ b. name_in_row (contents_in b) c.place_of_item-place.result
    ≡ Some c.name_at.result.now) c.self.view_is c.name_at.ensures.sound
    ∙ ap Some (sym c.as_text.ensures))

pub name_at-requires-clause-place : goal.name_at-requires-clause-place
name_at-requires-clause-place c =
    subst (λ b. c.place_of_item-place.result < item_count (counts_in b)) (sym c.self.view_is)
    (subst (λ p. p < item_count (counts_in c.args.self.now))
    (sym (c.place_of_item-place.ensures ∙ ap (λ counts. place_of_item counts c.args.item)
    c.counts-counts.ensures))
    (place_inside (counts_in c.args.self.now) c.args.item
    (subst (λ counts. item_exists counts c.args.item ≡ true) c.counts-counts.ensures
    (sym c.has_item.ensures ∙ c.if-not-has_item.false))))
