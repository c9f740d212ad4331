use Rattle.std.proofs.Common.{◌≡◌}
use Rattle.edd_syntax.specs.ItemView.{numbered_attribute}
use Rattle.edd_attrs.specs.Trees.{transaction_trees}
use Rattle.edd_attrs.specs.Rows.{transaction_in}
use Rattle.edd_code.proofs.Picking.{picked_from}
use Rattle.edd_attrs.proofs.Picking.{transactions_split}
use Rattle.edd_attrs.proofs.items.transaction_at.Given as goal

-- the transaction is the one that is left to count to
abbrev pub invariant-loop-attribute : goal.invariant-loop-attribute
invariant-loop-attribute l =
    picked_from numbered_attribute transaction_in transaction_trees transactions_split l.left
    l.attribute-index l.attributes
    ≡ picked_from numbered_attribute transaction_in transaction_trees transactions_split l.sub 0
    l.attributes
