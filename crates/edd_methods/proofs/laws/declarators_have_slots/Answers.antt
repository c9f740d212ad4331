use Rattle.std.proofs.Common.{◌+◌, [], arith}
use Rattle.edd_syntax.specs.ResolvedTrees.{meant_in}
use Rattle.edd_syntax.specs.Statement.{slots_in}
use Rattle.edd_methods.proofs.ResolvedSlots.{each_slot, body_in}
use Rattle.edd_methods.proofs.laws.declarators_have_slots.Goals as goal

pub returns : goal.returns
returns c unit body resolved is =
    let a = body_in (meant_in unit) body [] 0 is in
    each_slot (0 + slots_in body) (slots_in resolved) (omega (arith, a.0)) resolved a.1
