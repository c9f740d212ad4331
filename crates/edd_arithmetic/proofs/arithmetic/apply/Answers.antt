use Rattle.std.proofs.Common.{rules, ap, ◌∙◌, w64, FitsSigned}
use Rattle.std.proofs.lemmas.Int.{to_z-of_z}
use Rattle.edd_syntax.specs.declared.operators.UnaryOperator.TheVariants as unary_operator
use Rattle.edd_syntax.specs.TwosComplement.{apply}
use Rattle.edd_instructions.specs.Steps.{width_of}
use Rattle.edd_arithmetic.proofs.arithmetic.apply.Goals as goal

pub returns-in-Not : goal.returns-in-Not
returns-in-Not c =
    let fits : FitsSigned w64 c.logical_not.result = search rules in
    rw c.in-Not.is (to_z-of_z w64 _ fits ∙ c.logical_not.ensures (width_of c.args.sort)
    ∙ ap (apply (width_of c.args.sort) unary_operator.Not) (to_z-of_z w64 c.args.a c.ranges.a))

pub returns-in-Complement : goal.returns-in-Complement
returns-in-Complement c =
    let fits : FitsSigned w64 c.complement.result = search rules in
    rw c.in-Complement.is (to_z-of_z w64 _ fits ∙ c.complement.ensures (width_of c.args.sort)
    ∙ ap (apply (width_of c.args.sort) unary_operator.Complement)
    (to_z-of_z w64 c.args.a c.ranges.a))
