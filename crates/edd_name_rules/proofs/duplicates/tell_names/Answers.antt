use Rattle.std.proofs.Common.{arith, []}
use Rattle.edd_name_rules.specs.NamesTold.{item_told, with_item}
use Rattle.edd_name_rules.proofs.Walking.{walks_from, walks_on, walks_all}
use Rattle.edd_name_rules.proofs.duplicates.tell_names.Goals as goal

pub loop-item-init : goal.loop-item-init
loop-item-init c = walks_from item_told with_item [] c.of_many-seen.result c.args.told.now.items
    c.args.items.now c.of_many-seen.ensures

pub loop-item-preserved : goal.loop-item-preserved
loop-item-preserved c =
    walks_on item_told with_item [] c.loop-item.seen c.tell_item.new.seen c.args.told.now.items
    c.loop-item.told.items c.tell_item.new.told.items c.loop-item.item-index c.args.items.now
    c.item-item.result (omega arith) c.item-item.is c.in_ok-tell_item.ensures.told
    c.in_ok-tell_item.ensures.known c.loop-item.invariant

pub returns : goal.returns
returns c = record {
  told = walks_all item_told with_item [] c.loop-item.seen c.args.told.now.items c.loop-item.told.items
      c.loop-item.item-index c.args.items.now (omega arith) c.loop-item.invariant;
}
