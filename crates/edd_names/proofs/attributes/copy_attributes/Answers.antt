use Rattle.std.proofs.Common.{refl, sym, arith, map}
use Rattle.std.proofs.Math.ListN.{drop_of_length-le}
use Rattle.std.specs.List.{flat_map}
use Rattle.edd_syntax.specs.ItemView.{attribute_of, item_of, numbered_attribute}
use Rattle.edd_syntax.specs.NameUses.{attribute_uses}
use Rattle.edd_syntax.specs.ResolvedTrees.{each, resolved_attribute}
use Rattle.edd_syntax.specs.TreeView.{path_of}
use Rattle.edd_name_meanings.specs.PathsIn.{paths_in_attributes}
use Rattle.edd_syntax.specs.ReferenceOrder.{attribute_references}
use Rattle.edd_name_meanings.specs.Directory.{description_of, read_by}
use Rattle.edd_name_meanings.proofs.UseLaws.{retold}
use Rattle.edd_expression_names.proofs.Copying.{one_more, told_at_end, meant_at_end}
use Rattle.edd_expression_names.proofs.ExprSteps.{each_joined}
use Rattle.edd_syntax.proofs.FirstLaws.{flat_split, flat_one}
use Rattle.edd_name_rules.proofs.SlotLaws.{locals_within}
use Rattle.edd_expression_names.proofs.TokenSteps.{kept_more, kept_at_end}
use Rattle.edd_name_meanings.specs.TokensIn.{tokens_in_attribute}
use Rattle.edd_names.proofs.attributes.copy_attributes.Goals as goal

pub loop-attribute-preserved : goal.loop-attribute-preserved
loop-attribute-preserved c = (
  one_more (description_of c.args.names.now) (attribute_of path_of) numbered_attribute
      (flat_map (attribute_uses (item_of path_of c.args.item.now).sort))
      (flat_split (attribute_uses (item_of path_of c.args.item.now).sort)) paths_in_attributes
      (λ x xs. flat_split attribute_references (attribute_of (λ p. p) x)
      (map (attribute_of (λ p. p)) xs))
      (resolved_attribute (read_by c.args.names.now) (item_of path_of c.args.item.now).sort)
      (each (resolved_attribute (read_by c.args.names.now) (item_of path_of c.args.item.now).sort))
      (λ ws. ws)
      (each_joined (resolved_attribute (read_by c.args.names.now)
      (item_of path_of c.args.item.now).sort))
      c.args.told.now.items c.loop-attribute.attribute-index
      c.args.attributes.now c.attribute-item.result c.loop-attribute.copies.items
      c.push.new.self.items c.in_ok-copy_attribute.field-0 c.loop-attribute.told.items
      c.copy_attribute.new.told.items
      (omega arith) c.attribute-item.is
      (retold (description_of c.args.names.now) _ _ _ _ c.loop-attribute.told.items
      c.copy_attribute.new.told.items
      (sym (flat_one (attribute_uses (item_of path_of c.args.item.now).sort)
      (attribute_of path_of c.attribute-item.result)))
      (sym (flat_one attribute_references (attribute_of (λ p. p) c.attribute-item.result)))
      c.in_ok-copy_attribute.ensures.told)
      c.in_ok-copy_attribute.ensures.sound
      c.in_ok-push.ensures.items c.loop-attribute.invariant.0,
  kept_more tokens_in_attribute tokens_in_attribute c.loop-attribute.attribute-index
      c.args.attributes.now
      c.attribute-item.result c.loop-attribute.copies.items c.push.new.self.items
      c.in_ok-copy_attribute.field-0 (omega arith) c.attribute-item.is
      c.in_ok-copy_attribute.ensures.kept
      c.in_ok-push.ensures.items c.loop-attribute.invariant.1,
)

pub returns-clause-kept : goal.returns-clause-kept
returns-clause-kept c =
    kept_at_end tokens_in_attribute tokens_in_attribute c.loop-attribute.attribute-index
    c.args.attributes.now
    c.loop-attribute.copies.items (drop_of_length-le c.args.attributes.now (omega arith))
    c.loop-attribute.invariant.1

pub returns-clause-told : goal.returns-clause-told
returns-clause-told c =
    told_at_end (description_of c.args.names.now) (attribute_of path_of) numbered_attribute
    (flat_map (attribute_uses (item_of path_of c.args.item.now).sort))
    (flat_split (attribute_uses (item_of path_of c.args.item.now).sort)) paths_in_attributes
    (λ x xs. flat_split attribute_references (attribute_of (λ p. p) x)
    (map (attribute_of (λ p. p)) xs))
    (resolved_attribute (read_by c.args.names.now) (item_of path_of c.args.item.now).sort)
    (each (resolved_attribute (read_by c.args.names.now) (item_of path_of c.args.item.now).sort))
    (λ ws. ws)
    (each_joined (resolved_attribute (read_by c.args.names.now)
    (item_of path_of c.args.item.now).sort))
    c.args.told.now.items refl refl c.loop-attribute.attribute-index
    c.args.attributes.now c.loop-attribute.copies.items c.loop-attribute.told.items
    (drop_of_length-le c.args.attributes.now (omega arith)) c.loop-attribute.invariant.0

pub returns-clause-sound : goal.returns-clause-sound
returns-clause-sound c =
    meant_at_end (description_of c.args.names.now) (attribute_of path_of) numbered_attribute
    (flat_map (attribute_uses (item_of path_of c.args.item.now).sort))
    (flat_split (attribute_uses (item_of path_of c.args.item.now).sort)) paths_in_attributes
    (λ x xs. flat_split attribute_references (attribute_of (λ p. p) x)
    (map (attribute_of (λ p. p)) xs))
    (resolved_attribute (read_by c.args.names.now) (item_of path_of c.args.item.now).sort)
    (each (resolved_attribute (read_by c.args.names.now) (item_of path_of c.args.item.now).sort))
    (λ ws. ws)
    (each_joined (resolved_attribute (read_by c.args.names.now)
    (item_of path_of c.args.item.now).sort))
    c.args.told.now.items refl c.loop-attribute.attribute-index
    c.args.attributes.now c.loop-attribute.copies.items c.loop-attribute.told.items
    (drop_of_length-le c.args.attributes.now (omega arith)) c.loop-attribute.invariant.0

pub copy_attribute-requires : goal.copy_attribute-requires
copy_attribute-requires c = let e = locals_within (attribute_of path_of)
    c.loop-attribute.attribute-index c.args.attributes.now c.attribute-item.result (omega arith)
    c.attribute-item.is in let r = c.requires in omega (arith, e, r)
