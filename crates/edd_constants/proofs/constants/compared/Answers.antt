use Rattle.std.proofs.Common.{rules, w64, FitsSigned, ◌∙◌}
use Rattle.std.proofs.lemmas.Int.{to_z-of_z}
use Rattle.edd_constants.proofs.KnownForms.{compare_value, compare_first, compare_second}
use Rattle.edd_constants.proofs.KnownParts.{the_number, the_trap, compare_unused}
use Rattle.edd_instructions.proofs.Widths.{compare_fits}
use Rattle.edd_constants.proofs.constants.compared.Goals as goal

pub returns-in-Traps-clause-sound : goal.returns-in-Traps-clause-sound
returns-in-Traps-clause-sound c = λ sort a b h k. compare_first sort c.args.comparison a b
    (the_trap sort a _ _ c.in-Traps.is h)

pub returns-in-Traps-second-clause-sound : goal.returns-in-Traps-second-clause-sound
returns-in-Traps-second-clause-sound c = λ sort a b h k. compare_second sort c.args.comparison a b
    (the_trap sort b _ _ c.in-Traps-second.is k)

pub returns-in-Number-second-clause-sound : goal.returns-in-Number-second-clause-sound
returns-in-Number-second-clause-sound c =
    let fits : FitsSigned w64 c.compare.result = search rules in
    let left : FitsSigned w64 c.in-Number.a = search rules in
    let right : FitsSigned w64 c.in-Number-second.b = search rules in
    λ sort a b h k. compare_value sort c.args.comparison a b _ _ _
    (the_number sort a _ _ _ c.in-Number.is (to_z-of_z w64 _ left) h)
    (the_number sort b _ _ _ c.in-Number-second.is (to_z-of_z w64 _ right) k)
    (to_z-of_z w64 c.compare.result fits ∙ c.compare.ensures)

pub returns-in-Nothing-clause-sound : goal.returns-in-Nothing-clause-sound
returns-in-Nothing-clause-sound c = λ sort a b h k. rw c.unused.ensures
    (compare_unused sort c.args.comparison a b _ k)

pub returns-in-Number-second-clause-fits : goal.returns-in-Number-second-clause-fits
returns-in-Number-second-clause-fits c =
    let fits : FitsSigned w64 c.compare.result = search rules in
    λ sort. rw (to_z-of_z w64 c.compare.result fits, c.compare.ensures)
    (compare_fits sort c.args.comparison _ _)
