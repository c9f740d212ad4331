use Rattle.std.proofs.Common.{sym, ◌∙◌, w64}
use Rattle.std.proofs.lemmas.Int.{to_z-of_z, int_wrap_fits}
use Rattle.edd_arithmetic.proofs.Widths.{wrap_64}
use Rattle.edd_arithmetic.proofs.arithmetic.wrapped.Goals as goal

pub returns-in-Attribute : goal.returns-in-Attribute
returns-in-Attribute c = rw c.in-Attribute.is (to_z-of_z w64 c.args.number c.ranges.number
    ∙ sym (int_wrap_fits w64 c.args.number c.ranges.number) ∙ sym (wrap_64 c.args.number))
