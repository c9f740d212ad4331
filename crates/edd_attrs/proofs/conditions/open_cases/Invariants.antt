use Rattle.std.proofs.Common.{◌≡◌, ◌++◌, length, map, take}
use Rattle.edd_syntax.specs.ItemView.{numbered_arm}
use Rattle.edd_attrs.specs.Writing.{headers, holes_of}
use Rattle.edd_attrs.proofs.conditions.open_cases.Given as goal

-- the headers so far are written, with their open targets
abbrev pub invariant-loop-arm : goal.invariant-loop-arm
invariant-loop-arm g l = record {
  code : l.code ≡ l.initial.code
      ++ headers (take l.arm-index (map (numbered_arm g.V.Element.view) l.arms));
  holes : l.holes.items ≡ holes_of (length l.initial.code)
      (take l.arm-index (map (numbered_arm g.V.Element.view) l.arms));
}
