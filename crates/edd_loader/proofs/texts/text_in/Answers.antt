use Rattle.std.proofs.Common.{Some, sym, ap, ◌∙◌}
use Rattle.std.specs.Option.{option_map}
use Rattle.edd_loader.specs.Variants.{piece_of}
use Rattle.edd_loader.proofs.TextTurns.{front_valid, text_utf8, text_found, text_goes, text_missing, never_stops}
use Rattle.edd_loader.proofs.texts.text_in.Goals as goal

pub returns-in_default : goal.returns-in_default
returns-in_default c =
    let none = sym c.variant_from.ensures.value ∙ ap (option_map piece_of) c.in_default.is in
    absurd (never_stops _ _ (sym c.is_empty.ensures ∙ c.loop-code-test.true) none
    c.loop-code.invariant.valid)

pub as_text-requires : goal.as_text-requires
as_text-requires c =
    let here = sym c.variant_from.ensures.value ∙ ap (option_map piece_of) c.in-Some.is in
    text_utf8 (piece_of c.in-Some.piece).0 (front_valid _ _ _ _ here c.in-Some.ensures.shorter
    c.loop-code.invariant.enough c.loop-code.invariant.valid)

pub returns-then-eq : goal.returns-then-eq
returns-then-eq c =
    let here = sym c.variant_from.ensures.value ∙ ap (option_map piece_of) c.in-Some.is in
    ap Some c.as_text.ensures ∙ text_found _ _ _ (piece_of c.in-Some.piece).0 _ _ here
    c.in-Some.ensures.shorter c.loop-code.invariant.enough c.loop-code.invariant.valid
    (sym c.eq.ensures ∙ c.if-eq.true) c.loop-code.invariant.same

pub loop-code-preserved : goal.loop-code-preserved
loop-code-preserved c =
    let here = sym c.variant_from.ensures.value ∙ ap (option_map piece_of) c.in-Some.is in
    text_goes _ _ _ _ _ here c.in-Some.ensures.shorter (sym c.eq.ensures ∙ c.if-eq.false)
    c.loop-code.invariant

pub returns : goal.returns
returns c = text_missing _ _ _ _ (sym c.is_empty.ensures ∙ c.loop-code-test.false)
    c.loop-code.invariant.same
