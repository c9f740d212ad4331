use Rattle.std.proofs.Common.{rules, w64, FitsSigned, sym, ◌∙◌}
use Rattle.std.proofs.lemmas.Int.{to_z-of_z}
use Rattle.edd_constants.proofs.KnownForms.{or_one, or_first}
use Rattle.edd_constants.proofs.KnownParts.{the_number, the_trap, or_truth}
use Rattle.edd_constants.proofs.constants.either.Goals as goal

pub returns-then-is_zero-clause-sound : goal.returns-then-is_zero-clause-sound
returns-then-is_zero-clause-sound c =
    let fits : FitsSigned w64 c.in-Number.number = search rules in
    λ sort a b h k. rw c.truth.ensures
    (or_truth sort a b _ _ (the_number sort a _ _ _ c.in-Number.is (to_z-of_z w64 _ fits) h)
    (sym c.is_zero.ensures ∙ c.if-is_zero.true) k)

pub returns-else-is_zero-clause-sound : goal.returns-else-is_zero-clause-sound
returns-else-is_zero-clause-sound c =
    let fits : FitsSigned w64 c.in-Number.number = search rules in
    λ sort a b h k.
    or_one sort a b _ (the_number sort a _ _ _ c.in-Number.is (to_z-of_z w64 _ fits) h)
    (sym c.is_zero.ensures ∙ c.if-is_zero.false)

pub returns-in-Traps-clause-sound : goal.returns-in-Traps-clause-sound
returns-in-Traps-clause-sound c = λ sort a b h k. or_first sort a b
    (the_trap sort a _ _ c.in-Traps.is h)
