use Rattle.std.proofs.Common.{◌≡◌, map, drop}
use Rattle.std.specs.Prelude.{nat_lt}
use Rattle.std.specs.List.{list_any}
use Rattle.edd_syntax.specs.ItemView.{item_of}
use Rattle.edd_syntax.specs.NameRules.{transaction_limit, transaction_count}
use Rattle.edd_syntax.specs.TreeView.{path_of}
use Rattle.edd_name_rules.proofs.slots.first_with_transactions.Given as goal

-- the items so far have not too many
abbrev pub invariant-loop-item : goal.invariant-loop-item
invariant-loop-item l =
    list_any (λ i. nat_lt transaction_limit (transaction_count i))
    (map (item_of path_of) (drop l.item-index l.items))
    ≡ list_any (λ i. nat_lt transaction_limit (transaction_count i))
    (map (item_of path_of) l.items)
