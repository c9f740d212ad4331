use Rattle.std.proofs.Common.{ap, subst, arith}
use Rattle.std.specs.List.{flat_map}
use Rattle.edd_breaches.specs.Told.{Tells}
use Rattle.edd_syntax.specs.ItemView.{attributes_of}
use Rattle.edd_types.specs.Rules.{attribute_told}
use Rattle.edd_breaches.proofs.TellLaws.{tells_more}
use Rattle.edd_types.proofs.rules.tell_rule.Goals as goal

pub loop-item-preserved : goal.loop-item-preserved
loop-item-preserved c =
    tells_more (λ i. flat_map (attribute_told c.args.which c.args.rule) (attributes_of i))
    c.loop-item.item-index c.args.items.now c.item-item.result c.args.told.now.items
    c.loop-item.told.items c.tell_attributes.new.told.items (omega arith) c.item-item.is
    c.loop-item.invariant
    (subst (λ xs. Tells xs c.loop-item.told.items c.tell_attributes.new.told.items)
    (ap (flat_map (attribute_told c.args.which c.args.rule)) c.attributes.ensures)
    c.in_ok-tell_attributes.ensures.told)
