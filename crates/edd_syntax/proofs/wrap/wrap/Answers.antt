use Rattle.std.proofs.Common.{rules, ap, ◌∙◌, FitsSigned, w64}
use Rattle.std.specs.Int.{w128}
use Rattle.std.proofs.lemmas.Int.{to_z-of_z}
use Rattle.edd_syntax.specs.TwosComplement.{wrap, as_signed, residue}
use Rattle.edd_syntax.proofs.wrap.wrap.Goals as goal

pub returns : goal.returns
unfolding wrap
returns c =
    let fits : FitsSigned w64 c.as_signed.result = search rules in
    to_z-of_z w64 c.as_signed.result fits ∙ c.as_signed.ensures
    ∙ ap (as_signed c.args.width) c.residue.ensures.value
    ∙ ap (λ z. as_signed c.args.width (residue c.args.width z))
    (to_z-of_z w128 c.args.z c.ranges.z)
