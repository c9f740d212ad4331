use Rattle.std.proofs.Common.{arith, []}
use Rattle.edd_name_rules.specs.NamesTold.{members_told, with_members}
use Rattle.edd_name_rules.proofs.Walking.{walks_from, walks_on, walks_all}
use Rattle.edd_name_rules.proofs.duplicates.tell_attributes.Goals as goal

pub loop-attribute-init : goal.loop-attribute-init
loop-attribute-init c = walks_from members_told with_members [] c.of_few-members.result c.args.told.now.items
    c.args.attributes.now c.of_few-members.ensures

pub loop-attribute-preserved : goal.loop-attribute-preserved
loop-attribute-preserved c =
    walks_on members_told with_members [] c.loop-attribute.members c.tell_attribute.new.members c.args.told.now.items
    c.loop-attribute.told.items c.tell_attribute.new.told.items c.loop-attribute.attribute-index c.args.attributes.now
    c.attribute-item.result (omega arith) c.attribute-item.is c.in_ok-tell_attribute.ensures.told
    c.in_ok-tell_attribute.ensures.known c.loop-attribute.invariant

pub returns : goal.returns
returns c = record {
  told = walks_all members_told with_members [] c.loop-attribute.members c.args.told.now.items c.loop-attribute.told.items
      c.loop-attribute.attribute-index c.args.attributes.now (omega arith) c.loop-attribute.invariant;
}
