use Rattle.std.proofs.Common.{arith, Some, sym, ap, ◌∙◌}
use Rattle.std.specs.Option.{option_map}
use Rattle.edd_loader.specs.Variants.{piece_of}
use Rattle.edd_loader.proofs.TextTurns.{are_parsed, of_code, in_english, the_first, front_valid, text_utf8, no_front}
use Rattle.edd_loader.proofs.texts.choose.Goals as goal

pub returns-in-Some : goal.returns-in-Some
returns-in-Some c = of_code _ _ _ (are_parsed _ c.requires) c.in-Some.ensures

pub returns-in-Some-text_in : goal.returns-in-Some-text_in
returns-in-Some-text_in c = in_english _ _ _ (are_parsed _ c.requires) c.in_default.ensures
    c.in-Some-text_in.ensures

pub as_text-requires : goal.as_text-requires
as_text-requires c =
    let here = sym c.variant_from.ensures.value ∙ ap (option_map piece_of) c.in-Some-variant_from.is
    in
    text_utf8 (piece_of c.in-Some-variant_from.piece).0
    (front_valid _ _ _ _ here c.in-Some-variant_from.ensures.shorter (omega arith)
    (are_parsed _ c.requires).valid)

pub returns-in-Some-variant_from : goal.returns-in-Some-variant_from
returns-in-Some-variant_from c =
    let here = sym c.variant_from.ensures.value ∙ ap (option_map piece_of) c.in-Some-variant_from.is
    in
    the_first _ _ _ _ (are_parsed _ c.requires) c.in_default.ensures c.in_default-text_in.ensures
    here ∙ ap Some (sym c.as_text.ensures)

pub returns-in-None : goal.returns-in-None
returns-in-None c =
    let none = sym c.variant_from.ensures.value ∙ ap (option_map piece_of) c.in-None.is in
    absurd (no_front _ c.requires none)
