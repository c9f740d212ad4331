use Rattle.std.proofs.Common.{arith}
use Rattle.edd_syntax.specs.ItemView.{attribute_of}
use Rattle.edd_syntax.specs.TreeView.{path_of}
use Rattle.edd_name_rules.specs.Spending.{transactions_in}
use Rattle.edd_name_rules.proofs.Spends.{goes_on}
use Rattle.edd_name_rules.proofs.Counting.{transactions_split}
use Rattle.edd_name_rules.proofs.counts.spend_transactions.Goals as goal

pub loop-attribute-preserved : goal.loop-attribute-preserved
loop-attribute-preserved c =
    goes_on transactions_in (attribute_of path_of) transactions_split _ _
    c.loop-attribute.attribute-index c.args.attributes.now c.attribute-item.result _
    (omega arith) c.attribute-item.is c.spend_transaction-left.ensures c.loop-attribute.invariant
