use Rattle.std.proofs.Common.{◌<◌, rules, ap, ◌∙◌, ℤ, w32, w64, FitsSigned}
use Rattle.std.specs.Int.{int_shl}
use Rattle.std.proofs.lemmas.Int.{to_z-of_z}
use Rattle.edd_arithmetic.proofs.Widths.{shl_64, shl_32}
use Rattle.edd_arithmetic.proofs.arithmetic.shifted_left.Goals as goal

pub returns-in-Attribute : goal.returns-in-Attribute
returns-in-Attribute c =
    let count : c.args.count < 64 = rw c.in-Attribute.is at c.requires.count in
    rw c.in-Attribute.is (shl_64 c.args.a c.args.count c.ranges.a count)

pub returns-in-Method : goal.returns-in-Method
returns-in-Method c =
    let count : c.args.count < 32 = rw c.in-Method.is at c.requires.count in
    let own : FitsSigned w32 c.args.a = rw c.in-Method.is at c.requires.number in
    let fits : FitsSigned w64 c.from.result = search rules in
    rw c.in-Method.is (
    to_z-of_z w64 c.from.result fits
    ∙ c.from.ensures
    ∙ ap (λ (x : ℤ). int_shl w32 x c.args.count) (to_z-of_z w64 c.args.a c.ranges.a)
    ∙ shl_32 c.args.a c.args.count own count
    )
