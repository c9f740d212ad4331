use Rattle.std.proofs.Common.{w64, refl}
use Rattle.std.proofs.lemmas.Int.{to_z-of_z}
use Rattle.edd_constants.proofs.KnownForms.{binary_always}
use Rattle.edd_constants.proofs.KnownParts.{the_number}
use Rattle.edd_constants.proofs.constants.with_second.Goals as goal

pub returns-in-Some-clause-sound : goal.returns-in-Some-clause-sound
returns-in-Some-clause-sound c = λ a b h k. binary_always c.args.sort c.args.operator a b _ _
    (the_number c.args.sort b _ _ _ refl (to_z-of_z w64 _ c.ranges.second) k)
    c.in-Some.ensures.always
