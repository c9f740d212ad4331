use Rattle.std.proofs.Common.{◌-◌, ◌∙◌, ap, map, arith}
use Rattle.std.specs.List.{sum}
use Rattle.edd_syntax.specs.ItemView.{transaction_part_of}
use Rattle.edd_syntax.specs.Size.{transaction_part_nodes}
use Rattle.edd_syntax.specs.TreeView.{path_of}
use Rattle.edd_name_rules.proofs.SlotLaws.{sum_split, sum_one}
use Rattle.edd_name_rules.proofs.Spends.{goes_on}
use Rattle.edd_name_rules.proofs.sizes.spend_transaction_parts.Goals as goal

pub loop-part-preserved : goal.loop-part-preserved
loop-part-preserved c =
    goes_on (λ xs. sum (map transaction_part_nodes xs)) (transaction_part_of path_of)
    (sum_split transaction_part_nodes) _ _ c.loop-part.part-index c.args.parts.now
    c.part-item.result _ (omega arith) c.part-item.is (c.spend_transaction_part-left.ensures
    ∙ ap (λ n. c.loop-part.left - n) (sum_one transaction_part_nodes _)) c.loop-part.invariant
