use Rattle.std.proofs.Common.{◌≡◌}
use Rattle.edd_syntax.specs.ItemView.{attribute_of}
use Rattle.edd_syntax.specs.TreeView.{path_of}
use Rattle.edd_name_rules.specs.Spending.{transactions_in}
use Rattle.edd_name_rules.proofs.Spends.{spent_from}
use Rattle.edd_name_rules.proofs.Counting.{transactions_split}
use Rattle.edd_name_rules.proofs.counts.spend_transactions.Given as goal

-- what is left after those to come is what is left of the budget after all
abbrev pub invariant-loop-attribute : goal.invariant-loop-attribute
invariant-loop-attribute l =
    spent_from transactions_in (attribute_of path_of) transactions_split l.left l.attribute-index
    l.attributes ≡ spent_from transactions_in (attribute_of path_of) transactions_split
    l.fn.budget 0 l.attributes
