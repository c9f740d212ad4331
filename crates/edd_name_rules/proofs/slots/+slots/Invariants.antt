use Rattle.std.proofs.Common.{◌≡◌}
use Rattle.edd_syntax.specs.Statement.{body_from, slots_in}
use Rattle.edd_syntax.specs.TreeView.{path_of, part_of}
use Rattle.edd_name_rules.proofs.Spends.{spent_from}
use Rattle.edd_name_rules.proofs.SlotLaws.{slots_split}
use Rattle.edd_name_rules.proofs.slots.+slots.Given as goal

-- what is left after those to come is what is left of the budget after all
abbrev pub invariant-spend_slots_in-loop-part : goal.invariant-spend_slots_in-loop-part
invariant-spend_slots_in-loop-part l =
    spent_from (λ xs. slots_in (body_from xs)) (part_of path_of) slots_split l.left l.part-index
    l.parts ≡ spent_from (λ xs. slots_in (body_from xs)) (part_of path_of) slots_split
    l.fn.budget 0 l.parts
