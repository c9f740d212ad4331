use Rattle.std.proofs.Common.{rules, w64, FitsSigned, sym, refl}
use Rattle.std.proofs.lemmas.Int.{to_z-of_z}
use Rattle.edd_constants.proofs.KnownForms.{binary_value, binary_traps}
use Rattle.edd_constants.proofs.KnownParts.{the_number, the_fit}
use Rattle.edd_instructions.proofs.Widths.{operate_fits}
use Rattle.edd_constants.proofs.constants.computed.Goals as goal

pub returns-in-Ok-clause-sound : goal.returns-in-Ok-clause-sound
returns-in-Ok-clause-sound c =
    let fits : FitsSigned w64 c.in-Ok.number = search rules in
    λ a b h k. rw (to_z-of_z w64 c.in-Ok.number fits)
    (binary_value c.args.sort c.args.operator a b _ _ c.in-Ok.number
    (the_number c.args.sort a _ _ _ refl (to_z-of_z w64 _ c.ranges.first) h)
    (the_number c.args.sort b _ _ _ refl (to_z-of_z w64 _ c.ranges.second) k) (sym c.in-Ok.ensures))

pub returns-in-Err-clause-sound : goal.returns-in-Err-clause-sound
returns-in-Err-clause-sound c = λ a b h k. binary_traps c.args.sort c.args.operator a b _ _ _
    (the_number c.args.sort a _ _ _ refl (to_z-of_z w64 _ c.ranges.first) h)
    (the_number c.args.sort b _ _ _ refl (to_z-of_z w64 _ c.ranges.second) k) (sym c.in-Err.ensures)

pub returns-in-Ok-clause-fits : goal.returns-in-Ok-clause-fits
returns-in-Ok-clause-fits c =
    let fits : FitsSigned w64 c.in-Ok.number = search rules in
    rw (to_z-of_z w64 c.in-Ok.number fits)
    (operate_fits c.args.sort c.args.operator _ _ c.in-Ok.number
    (the_fit c.args.sort _ _ _ refl (to_z-of_z w64 _ c.ranges.first) c.requires.left)
    (the_fit c.args.sort _ _ _ refl (to_z-of_z w64 _ c.ranges.second) c.requires.right)
    (sym c.in-Ok.ensures))
