use Rattle.std.proofs.Common.{rules, sym, ◌∙◌, pos, w32, w64, FitsSigned}
use Rattle.std.proofs.lemmas.Int.{to_z-of_z, int_wrap_fits}
use Rattle.edd_arithmetic.proofs.Widths.{wrap_64, wrap_32, power_read}
use Rattle.edd_arithmetic.proofs.arithmetic.wrapped_constant.Goals as goal

pub returns-in-Attribute : goal.returns-in-Attribute
returns-in-Attribute c =
    let fits : FitsSigned w64 c.from.result = search rules in
    let own : FitsSigned w64 (pos c.args.number) = rw c.from.ensures at fits in
    rw c.in-Attribute.is (to_z-of_z w64 c.from.result fits ∙ c.from.ensures
    ∙ sym (int_wrap_fits w64 (pos c.args.number) own) ∙ sym (wrap_64 (pos c.args.number)))

pub returns-in-Method : goal.returns-in-Method
returns-in-Method c =
    let fits : FitsSigned w64 c.from-in-Method.result = search rules in
    let signed : FitsSigned w32 c.cast_signed.result = search rules in
    rw c.in-Method.is (
    to_z-of_z w64 c.from-in-Method.result fits
    ∙ c.from-in-Method.ensures
    ∙ to_z-of_z w32 c.cast_signed.result signed
    ∙ c.cast_signed.ensures
    ∙ power_read w32 c.args.number c.ranges.number.fits
    ∙ sym (wrap_32 (pos c.args.number))
    )
