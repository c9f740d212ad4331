use Rattle.std.proofs.Common.{◌≡◌, map, drop}
use Rattle.std.specs.Prelude.{nat_lt}
use Rattle.std.specs.List.{list_any}
use Rattle.edd_syntax.specs.ItemView.{item_of}
use Rattle.edd_syntax.specs.NameRules.{local_limit, locals_of}
use Rattle.edd_syntax.specs.TreeView.{path_of}
use Rattle.edd_name_rules.proofs.slots.first_with_locals.Given as goal

-- the items so far have not too many
abbrev pub invariant-loop-item : goal.invariant-loop-item
invariant-loop-item l =
    list_any (λ i. nat_lt local_limit (locals_of i))
    (map (item_of path_of) (drop l.item-index l.items))
    ≡ list_any (λ i. nat_lt local_limit (locals_of i)) (map (item_of path_of) l.items)
