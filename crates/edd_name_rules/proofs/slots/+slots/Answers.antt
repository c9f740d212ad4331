use Rattle.std.proofs.Common.{◌-◌, ◌∙◌, ap, sym, map, arith}
use Rattle.edd_syntax.specs.Statement.{body_from, slots_of, slots_in}
use Rattle.edd_syntax.specs.TreeView.{path_of, part_of}
use Rattle.edd_syntax.proofs.TreeRows.{block_is, switch_is}
use Rattle.edd_name_rules.proofs.Spends.{goes_on}
use Rattle.edd_name_rules.proofs.SlotLaws.{slots_split}
use Rattle.edd_name_rules.proofs.slots.+slots.Goals as goal

pub spend_slots_in-loop-part-preserved : goal.spend_slots_in-loop-part-preserved
spend_slots_in-loop-part-preserved t c =
    goes_on (λ xs. slots_in (body_from xs)) (part_of path_of) slots_split _ _ c.loop-part.part-index
    c.args.parts.now c.part-item.result _ (omega arith) c.part-item.is c.spend_slots_of_part-left.ensures
    c.loop-part.invariant

pub spend_slots-returns-in-Block : goal.spend_slots-returns-in-Block
unfolding slots_of
spend_slots-returns-in-Block t c =
    c.spend_slots_in.ensures
    ∙ ap (λ xs. c.args.left - (slots_in (body_from (map (part_of path_of) xs))))
    c.deref.ensures.value
    ∙ ap (λ s. c.args.left - (slots_of s)) (sym (block_is path_of c.args.s.now _ c.in-Block.is))

pub spend_slots-returns-in-Switch : goal.spend_slots-returns-in-Switch
unfolding slots_of
spend_slots-returns-in-Switch t c =
    c.spend_slots_in-in-Switch.ensures
    ∙ ap (λ xs. c.args.left - (slots_in (body_from (map (part_of path_of) xs))))
    c.deref-in-Switch.ensures.value
    ∙ ap (λ s. c.args.left - (slots_of s))
    (sym (switch_is path_of c.args.s.now _ _ c.in-Switch.is))
