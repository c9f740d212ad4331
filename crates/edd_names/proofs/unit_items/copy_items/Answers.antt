use Rattle.std.proofs.Common.{refl, sym, arith, map}
use Rattle.std.proofs.Math.ListN.{drop_of_length-le}
use Rattle.std.specs.List.{flat_map}
use Rattle.edd_syntax.specs.ItemView.{item_of, numbered_item}
use Rattle.edd_syntax.specs.NameUses.{item_uses}
use Rattle.edd_syntax.specs.ResolvedTrees.{each, resolved_item}
use Rattle.edd_syntax.specs.TreeView.{path_of}
use Rattle.edd_name_meanings.specs.PathsIn.{paths_in_items}
use Rattle.edd_syntax.specs.ReferenceOrder.{item_references}
use Rattle.edd_name_meanings.specs.Directory.{description_of, read_by}
use Rattle.edd_name_meanings.proofs.UseLaws.{retold}
use Rattle.edd_expression_names.proofs.Copying.{one_more, told_at_end, meant_at_end}
use Rattle.edd_expression_names.proofs.ExprSteps.{each_joined}
use Rattle.edd_syntax.proofs.FirstLaws.{flat_split, flat_one}
use Rattle.std.specs.Prelude.{nat_lt}
use Rattle.edd_syntax.specs.NameRules.{local_limit, locals_of}
use Rattle.edd_name_rules.proofs.SlotLaws.{none_of_any}
use Rattle.edd_expression_names.proofs.TokenSteps.{kept_more, kept_at_end}
use Rattle.edd_name_meanings.specs.TokensIn.{tokens_in_item}
use Rattle.edd_names.proofs.unit_items.copy_items.Goals as goal

pub loop-item-preserved : goal.loop-item-preserved
loop-item-preserved c = (
  one_more (description_of c.args.names.now) (item_of path_of) numbered_item
      (flat_map item_uses) (flat_split item_uses) paths_in_items
      (λ x xs. flat_split item_references (item_of (λ p. p) x) (map (item_of (λ p. p)) xs))
      (resolved_item (read_by c.args.names.now))
      (each (resolved_item (read_by c.args.names.now))) (λ ws. ws)
      (each_joined (resolved_item (read_by c.args.names.now)))
      c.args.told.now.items c.loop-item.item-index
      c.args.items.now c.item-item.result c.loop-item.copies.items
      c.push.new.self.items c.in_ok-copy_item.field-0 c.loop-item.told.items
      c.copy_item.new.told.items
      (omega arith) c.item-item.is
      (retold (description_of c.args.names.now) _ _ _ _ c.loop-item.told.items
      c.copy_item.new.told.items
      (sym (flat_one item_uses (item_of path_of c.item-item.result)))
      (sym (flat_one item_references (item_of (λ p. p) c.item-item.result)))
      c.in_ok-copy_item.ensures.told)
      c.in_ok-copy_item.ensures.sound
      c.in_ok-push.ensures.items c.loop-item.invariant.0,
  kept_more tokens_in_item tokens_in_item c.loop-item.item-index c.args.items.now
      c.item-item.result c.loop-item.copies.items c.push.new.self.items
      c.in_ok-copy_item.field-0 (omega arith) c.item-item.is c.in_ok-copy_item.ensures.kept
      c.in_ok-push.ensures.items c.loop-item.invariant.1,
)

pub returns-clause-kept : goal.returns-clause-kept
returns-clause-kept c =
    kept_at_end tokens_in_item tokens_in_item c.loop-item.item-index c.args.items.now
    c.loop-item.copies.items (drop_of_length-le c.args.items.now (omega arith))
    c.loop-item.invariant.1

pub returns-clause-told : goal.returns-clause-told
returns-clause-told c =
    told_at_end (description_of c.args.names.now) (item_of path_of) numbered_item
    (flat_map item_uses) (flat_split item_uses) paths_in_items
    (λ x xs. flat_split item_references (item_of (λ p. p) x) (map (item_of (λ p. p)) xs))
    (resolved_item (read_by c.args.names.now))
    (each (resolved_item (read_by c.args.names.now))) (λ ws. ws)
    (each_joined (resolved_item (read_by c.args.names.now)))
    c.args.told.now.items refl refl c.loop-item.item-index
    c.args.items.now c.loop-item.copies.items c.loop-item.told.items
    (drop_of_length-le c.args.items.now (omega arith)) c.loop-item.invariant.0

pub returns-clause-sound : goal.returns-clause-sound
returns-clause-sound c =
    meant_at_end (description_of c.args.names.now) (item_of path_of) numbered_item
    (flat_map item_uses) (flat_split item_uses) paths_in_items
    (λ x xs. flat_split item_references (item_of (λ p. p) x) (map (item_of (λ p. p)) xs))
    (resolved_item (read_by c.args.names.now))
    (each (resolved_item (read_by c.args.names.now))) (λ ws. ws)
    (each_joined (resolved_item (read_by c.args.names.now)))
    c.args.told.now.items refl c.loop-item.item-index
    c.args.items.now c.loop-item.copies.items c.loop-item.told.items
    (drop_of_length-le c.args.items.now (omega arith)) c.loop-item.invariant.0

pub copy_item-requires : goal.copy_item-requires
copy_item-requires c = none_of_any (λ i. nat_lt local_limit (locals_of i)) (item_of path_of)
    c.loop-item.item-index c.args.items.now c.item-item.result (omega arith) c.item-item.is
    c.requires
