use Rattle.std.proofs.Common.{rules, w64, FitsSigned, ◌∙◌}
use Rattle.std.proofs.lemmas.Int.{to_z-of_z}
use Rattle.edd_constants.proofs.KnownForms.{unary_value, unary_none}
use Rattle.edd_constants.proofs.KnownParts.{the_number, the_fit, the_trap, apply_fits}
use Rattle.edd_constants.proofs.constants.applied.Goals as goal

pub returns-in-Number-clause-sound : goal.returns-in-Number-clause-sound
returns-in-Number-clause-sound c =
    let fits : FitsSigned w64 c.apply.result = search rules in
    let own : FitsSigned w64 c.in-Number.number = search rules in
    λ a h. unary_value c.args.sort c.args.operator a _ _
    (the_number c.args.sort a _ _ _ c.in-Number.is (to_z-of_z w64 _ own) h)
    (to_z-of_z w64 c.apply.result fits ∙ c.apply.ensures)

pub returns-in-Traps-clause-sound : goal.returns-in-Traps-clause-sound
returns-in-Traps-clause-sound c = λ a h. unary_none c.args.sort c.args.operator a
    (the_trap c.args.sort a _ _ c.in-Traps.is h)

pub returns-in-Number-clause-fits : goal.returns-in-Number-clause-fits
returns-in-Number-clause-fits c =
    let fits : FitsSigned w64 c.apply.result = search rules in
    let own : FitsSigned w64 c.in-Number.number = search rules in
    rw (to_z-of_z w64 c.apply.result fits, c.apply.ensures)
    (apply_fits c.args.sort c.args.operator _
    (the_fit c.args.sort _ _ _ c.in-Number.is (to_z-of_z w64 _ own) c.requires))
