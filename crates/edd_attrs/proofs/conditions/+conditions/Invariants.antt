use Rattle.std.proofs.Common.{◌≡◌, ◌+◌, ◌*◌, ◌≤◌, length, map, take}
use Rattle.edd_syntax.specs.Conditional.{NoArms, ConsArm, conds_from, arms_from}
use Rattle.edd_syntax.specs.ItemView.{numbered_arm, numbered_cond, numbered_conds}
use Rattle.edd_syntax.specs.Size.{cond_nodes, conds_nodes, arms_nodes, leaf}
use Rattle.edd_code.specs.Tables.{Grows}
use Rattle.edd_attrs.specs.TreeBlocks.{IsCondsBlock}
use Rattle.edd_attrs.specs.Writing.{cond_strings}
use Rattle.edd_attrs.proofs.Arms.{Back}
use Rattle.edd_attrs.proofs.Loops.{Front}
use Rattle.edd_attrs.proofs.conditions.+conditions.Given as goal

abbrev pub decreases-write_cond : goal.decreases-write_cond
decreases-write_cond g l = 4 * cond_nodes leaf (numbered_cond g.V.Element.view l.c.now)

abbrev pub decreases-write_if : goal.decreases-write_if
decreases-write_if g l = 4 * (conds_nodes leaf (numbered_conds g.V.Element.view l.first.now)
    + conds_nodes leaf (numbered_conds g.V.Element.view l.otherwise.now)) + 2

abbrev pub decreases-write_conds : goal.decreases-write_conds
decreases-write_conds g l = 4 * conds_nodes leaf (numbered_conds g.V.Element.view l.all.now) + 1

abbrev pub decreases-write_select : goal.decreases-write_select
decreases-write_select g l =
    4 * arms_nodes leaf (arms_from (map (numbered_arm g.V.Element.view) l.arms.now)) + 3

abbrev pub decreases-write_default : goal.decreases-write_default
decreases-write_default g l =
    4 * arms_nodes leaf (arms_from (map (numbered_arm g.V.Element.view) l.arms.now)) + 2

abbrev pub decreases-write_bodies : goal.decreases-write_bodies
decreases-write_bodies g l =
    4 * arms_nodes leaf (arms_from (map (numbered_arm g.V.Element.view) l.arms.now)) + 2

abbrev pub decreases-write_arm : goal.decreases-write_arm
decreases-write_arm g l =
    4 * arms_nodes leaf (ConsArm (numbered_arm g.V.Element.view l.arm.now) NoArms) + 1

abbrev pub decreases-write_body : goal.decreases-write_body
decreases-write_body g l = 4 * conds_nodes leaf (numbered_conds g.V.Element.view l.body.now) + 3

-- the conditionals so far are written
abbrev pub invariant-write_conds-loop-c : goal.invariant-write_conds-loop-c
invariant-write_conds-loop-c g l = record {
  front : Front (cond_strings g.V.Element.strings)
      (λ numbered xs b. IsCondsBlock (g.V.Element.is_block numbered) (conds_from xs) b) l.c-index
      (map (numbered_cond g.V.Element.view) l.all) l.initial.table l.initial.code l.table l.code;
  grows : Grows l.initial.table l.table;
}

-- the arms from the one at `left` on are written, and the open targets of the others are left
abbrev pub invariant-write_bodies-loop-left : goal.invariant-write_bodies-loop-left
invariant-write_bodies-loop-left g l = record {
  back : Back g.V.Element.strings g.V.Element.is_block l.left
      (map (numbered_arm g.V.Element.view) l.arms) l.initial.table l.initial.code
      l.initial.holes.items l.table l.code;
  others : l.holes.items ≡ take l.left l.initial.holes.items;
  within : l.left ≤ length l.arms;
  grows : Grows l.initial.table l.table;
}

abbrev pub decreases-write_bodies-loop-left : goal.decreases-write_bodies-loop-left
decreases-write_bodies-loop-left g l = l.left
