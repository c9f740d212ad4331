use Rattle.std.proofs.Common.{ap, ◌∙◌, subst, arith}
use Rattle.std.specs.List.{flat_map}
use Rattle.edd_breaches.specs.Told.{Tells}
use Rattle.edd_syntax.specs.ItemView.{name_of, attributes_of}
use Rattle.edd_types.specs.Rules.{type_told}
use Rattle.edd_breaches.proofs.TellLaws.{tells_more}
use Rattle.edd_types.proofs.types.tell_types.Goals as goal

pub loop-item-preserved : goal.loop-item-preserved
loop-item-preserved c =
    tells_more (λ i. flat_map (type_told (name_of i)) (attributes_of i)) c.loop-item.item-index
    c.args.items.now c.item-item.result c.args.told.now.items c.loop-item.told.items
    c.tell_types_of.new.told.items (omega arith) c.item-item.is c.loop-item.invariant
    (subst (λ xs. Tells xs c.loop-item.told.items c.tell_types_of.new.told.items)
    (ap (λ name. flat_map (type_told name) c.attributes.result.now) c.name.ensures
    ∙ ap (flat_map (type_told (name_of c.item-item.result))) c.attributes.ensures)
    c.in_ok-tell_types_of.ensures.told)
