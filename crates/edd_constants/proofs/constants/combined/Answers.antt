use Rattle.edd_constants.proofs.KnownForms.{binary_first, binary_second}
use Rattle.edd_constants.proofs.KnownParts.{the_trap}
use Rattle.edd_constants.proofs.constants.combined.Goals as goal

pub returns-in-Traps-clause-sound : goal.returns-in-Traps-clause-sound
returns-in-Traps-clause-sound c = λ a b h k. binary_first c.args.sort c.args.operator a b
    (the_trap c.args.sort a _ _ c.in-Traps.is h)

pub returns-in-Traps-second-clause-sound : goal.returns-in-Traps-second-clause-sound
returns-in-Traps-second-clause-sound c = λ a b h k. binary_second c.args.sort c.args.operator a b
    (the_trap c.args.sort b _ _ c.in-Traps-second.is k)

pub returns-in-Traps-second-2-clause-sound : goal.returns-in-Traps-second-2-clause-sound
returns-in-Traps-second-2-clause-sound c = λ a b h k. binary_second c.args.sort c.args.operator a b
    (the_trap c.args.sort b _ _ c.in-Traps-second-2.is k)
