use Rattle.std.proofs.Common.{◌≡◌, rules, sym, ◌∙◌, neg_ℤ, w32, w64, to_z, of_z, FitsSigned}
use Rattle.std.specs.Int.{int_wrap}
use Rattle.std.proofs.lemmas.Int.{wraps}
use Rattle.edd_syntax.specs.TwosComplement.{apply}
use Rattle.edd_arithmetic.proofs.Widths.{wrap_64, short_neg}
use Rattle.edd_arithmetic.proofs.arithmetic.negate.Goals as goal

pub returns-in-Attribute : goal.returns-in-Attribute
unfolding apply
returns-in-Attribute c =
    let e : to_z w64 (of_z w64 c.wrapping_neg.result) ≡ int_wrap w64 (neg_ℤ c.args.a) =
    search (rules, wraps) in
    rw c.in-Attribute.is (e ∙ sym (wrap_64 (neg_ℤ c.args.a)))

pub returns-in-Method : goal.returns-in-Method
unfolding apply
returns-in-Method c =
    let fits : FitsSigned w64 c.from.result = search rules in
    let short : FitsSigned w32 c.wrapping_neg-in-Method.result = search rules in
    let own : FitsSigned w32 c.args.a = rw c.in-Method.is at c.requires in
    rw c.in-Method.is (short_neg c.args.a c.wrapping_neg-in-Method.result c.from.result c.ranges.a
    fits own short c.wrapping_neg-in-Method.ensures c.from.ensures)
