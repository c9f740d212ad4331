use Rattle.std.proofs.Common.{◌≡◌, map, drop}
use Rattle.edd_syntax.specs.Conditional.{arms_from}
use Rattle.edd_syntax.specs.ItemView.{numbered_arm}
use Rattle.edd_attrs.specs.Writing.{default_of}
use Rattle.edd_attrs.proofs.conditions.default_among.Given as goal

-- the arms so far have no DEFAULT
abbrev pub invariant-loop-arm : goal.invariant-loop-arm
invariant-loop-arm g l =
    default_of (arms_from (drop l.arm-index (map (numbered_arm g.V.Element.view) l.arms)))
    ≡ default_of (arms_from (map (numbered_arm g.V.Element.view) l.arms))
