use Rattle.std.proofs.Common.{◌≡◌, map}
use Rattle.std.specs.List.{sum}
use Rattle.edd_syntax.specs.ItemView.{transaction_part_of}
use Rattle.edd_syntax.specs.Size.{transaction_part_nodes}
use Rattle.edd_syntax.specs.TreeView.{path_of}
use Rattle.edd_name_rules.proofs.SlotLaws.{sum_split}
use Rattle.edd_name_rules.proofs.Spends.{spent_from}
use Rattle.edd_name_rules.proofs.sizes.spend_transaction_parts.Given as goal

-- what is left after those to come is what is left of the budget after all
abbrev pub invariant-loop-part : goal.invariant-loop-part
invariant-loop-part l = spent_from (λ xs. sum (map transaction_part_nodes xs))
    (transaction_part_of path_of) (sum_split transaction_part_nodes) l.left l.part-index l.parts
    ≡ spent_from (λ xs. sum (map transaction_part_nodes xs)) (transaction_part_of path_of)
    (sum_split transaction_part_nodes) l.fn.budget 0 l.parts
