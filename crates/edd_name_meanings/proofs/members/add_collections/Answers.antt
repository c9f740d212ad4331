use Rattle.std.proofs.Common.{sym, [], map, subst, arith}
use Rattle.std.specs.Prelude.{filter}
use Rattle.edd_syntax.specs.declared.numbers.Kind.TheVariants as kind
use Rattle.edd_syntax.specs.Item.{kind_of_item}
use Rattle.edd_syntax.specs.ItemView.{item_of}
use Rattle.edd_syntax.specs.Numbers.{same_kind}
use Rattle.edd_syntax.specs.TreeView.{path_of}
use Rattle.edd_name_meanings.specs.Members.{AreCollections}
use Rattle.edd_name_meanings.proofs.Gathering.{filtered_more, take_all}
use Rattle.edd_name_meanings.proofs.members.add_collections.Goals as goal

pub loop-item-init : goal.loop-item-init
loop-item-init c = subst (λ cs. AreCollections cs []) (sym c.requires) tt

pub loop-item-preserved : goal.loop-item-preserved
loop-item-preserved c =
    subst (AreCollections c.add_collection.new.all.items)
    (filtered_more (item_of path_of) (λ i. same_kind (kind_of_item i.sort) kind.Collection)
    c.loop-item.item-index c.args.items.now c.item-item.result (omega arith) c.item-item.is)
    (c.in_ok-add_collection.ensures _ c.loop-item.invariant)

pub returns : goal.returns
returns c =
    subst (λ xs. AreCollections c.loop-item.all.items
    (filter (λ i. same_kind (kind_of_item i.sort) kind.Collection) (map (item_of path_of) xs)))
    (take_all c.loop-item.item-index c.args.items.now (omega arith)) c.loop-item.invariant
