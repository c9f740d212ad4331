use Rattle.std.proofs.Common.{map, take}
use Rattle.std.specs.Prelude.{filter}
use Rattle.edd_syntax.specs.declared.numbers.Kind.TheVariants as kind
use Rattle.edd_syntax.specs.Item.{kind_of_item}
use Rattle.edd_syntax.specs.ItemView.{item_of}
use Rattle.edd_syntax.specs.Numbers.{same_kind}
use Rattle.edd_syntax.specs.TreeView.{path_of}
use Rattle.edd_name_meanings.specs.Members.{AreCollections}
use Rattle.edd_name_meanings.proofs.members.add_collections.Given as goal

-- the collections are those among the items so far
abbrev pub invariant-loop-item : goal.invariant-loop-item
invariant-loop-item l = AreCollections l.all.items
    (filter (λ i. same_kind (kind_of_item i.sort) kind.Collection)
    (map (item_of path_of) (take l.item-index l.items)))
