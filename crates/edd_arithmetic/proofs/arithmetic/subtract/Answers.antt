use Rattle.std.proofs.Common.{rules, sym, ◌∙◌, ◌-ℤ◌, w32, w64, FitsSigned}
use Rattle.std.proofs.lemmas.Int.{wrapping_sub_is}
use Rattle.edd_arithmetic.proofs.Widths.{wrap_64, short_sub}
use Rattle.edd_arithmetic.proofs.arithmetic.subtract.Goals as goal

pub returns-in-Attribute : goal.returns-in-Attribute
returns-in-Attribute c =
    rw c.in-Attribute.is (wrapping_sub_is w64 c.args.a c.args.b c.ranges.a c.ranges.b
    ∙ sym (wrap_64 (c.args.a -ℤ c.args.b)))

pub returns-in-Method : goal.returns-in-Method
returns-in-Method c =
    let fits : FitsSigned w64 c.from.result = search rules in
    let left : FitsSigned w32 c.args.a = rw c.in-Method.is at c.requires.left in
    let right : FitsSigned w32 c.args.b = rw c.in-Method.is at c.requires.right in
    rw c.in-Method.is (short_sub c.args.a c.args.b c.from.result c.ranges.a c.ranges.b fits left
    right c.from.ensures)
