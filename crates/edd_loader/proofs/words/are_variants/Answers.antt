use Rattle.std.proofs.Common.{sym, ap, ◌∙◌, not}
use Rattle.std.specs.Option.{option_map}
use Rattle.edd_loader.specs.Variants.{piece_of}
use Rattle.edd_loader.proofs.VariantTurns.{more_goes, more_fails, more_stops, none_left, refused, accepted}
use Rattle.edd_loader.proofs.words.are_variants.Goals as goal

pub returns-in_default : goal.returns-in_default
returns-in_default c =
    let none = sym c.variant_from.ensures.value ∙ ap (option_map piece_of) c.in_default.is in
    refused _ (more_stops _ _ _ (sym c.is_empty.ensures ∙ c.loop-rest-test.true) none
    c.loop-rest.invariant.2)

pub returns-then-not-is_variant : goal.returns-then-not-is_variant
returns-then-not-is_variant c =
    let here = sym c.variant_from.ensures.value ∙ ap (option_map piece_of) c.in-Some.is in
    refused _ (more_fails _ _ _ _ _ here (sym c.is_variant.ensures ∙ c.if-not-is_variant.true)
    c.in-Some.ensures.shorter c.loop-rest.invariant.1 c.loop-rest.invariant.2)

pub loop-rest-preserved : goal.loop-rest-preserved
loop-rest-preserved c =
    let here = sym c.variant_from.ensures.value ∙ ap (option_map piece_of) c.in-Some.is in
    more_goes _ _ _ _ _ here (sym c.is_variant.ensures ∙ c.if-not-is_variant.false)
    c.in-Some.ensures.shorter c.loop-rest.invariant.1 c.loop-rest.invariant.2

pub returns : goal.returns
returns c = ap not c.is_empty-2.ensures
    ∙ accepted _ (none_left _ _ _ (sym c.is_empty.ensures ∙ c.loop-rest-test.false)
    c.loop-rest.invariant.2)
