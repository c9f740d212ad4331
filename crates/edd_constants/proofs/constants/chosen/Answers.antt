use Rattle.std.proofs.Common.{rules, w64, FitsSigned, sym, ◌∙◌}
use Rattle.std.proofs.lemmas.Int.{to_z-of_z}
use Rattle.edd_constants.proofs.KnownForms.{takes_first, takes_second, test_none}
use Rattle.edd_constants.proofs.KnownParts.{the_number, the_trap, either_unused}
use Rattle.edd_constants.proofs.constants.chosen.Goals as goal

pub returns-then-is_zero-clause-sound : goal.returns-then-is_zero-clause-sound
returns-then-is_zero-clause-sound c =
    let fits : FitsSigned w64 c.in-Number.number = search rules in
    λ sort t a b h first second. takes_second sort t a b _ _
    (the_number sort t _ _ _ c.in-Number.is (to_z-of_z w64 _ fits) h)
    (sym c.is_zero.ensures ∙ c.if-is_zero.true) second

pub returns-else-is_zero-clause-sound : goal.returns-else-is_zero-clause-sound
returns-else-is_zero-clause-sound c =
    let fits : FitsSigned w64 c.in-Number.number = search rules in
    λ sort t a b h first second. takes_first sort t a b _ _
    (the_number sort t _ _ _ c.in-Number.is (to_z-of_z w64 _ fits) h)
    (sym c.is_zero.ensures ∙ c.if-is_zero.false) first

pub returns-in-Traps-clause-sound : goal.returns-in-Traps-clause-sound
returns-in-Traps-clause-sound c = λ sort t a b h first second. test_none sort t a b
    (the_trap sort t _ _ c.in-Traps.is h)

pub returns-in-Traps-second-clause-sound : goal.returns-in-Traps-second-clause-sound
returns-in-Traps-second-clause-sound c = λ sort t a b h first second. rw c.unused.ensures
    (either_unused sort t a b _ first (the_trap sort b _ _ c.in-Traps-second.is second))
