use Rattle.std.proofs.Common.{refl, sym, arith, map}
use Rattle.std.proofs.Math.ListN.{drop_of_length-le}
use Rattle.std.specs.List.{flat_map}
use Rattle.edd_syntax.specs.ItemView.{item_of}
use Rattle.edd_syntax.specs.ResolvedTrees.{each}
use Rattle.edd_syntax.specs.TreeView.{path_of}
use Rattle.edd_name_meanings.specs.Directory.{description_of, read_by}
use Rattle.edd_name_meanings.proofs.UseLaws.{retold}
use Rattle.edd_expression_names.proofs.Copying.{one_more, told_at_end, meant_at_end}
use Rattle.edd_expression_names.proofs.ExprSteps.{each_joined}
use Rattle.edd_syntax.proofs.FirstLaws.{flat_split, flat_one}
use Rattle.edd_expression_names.proofs.TokenSteps.{kept_more, kept_at_end}
use Rattle.edd_names.proofs.braces.copy_parts.Goals as goal

pub loop-part-preserved : goal.loop-part-preserved
loop-part-preserved g c = (
  one_more (description_of c.args.names.now) g.P.ResolvePart.before g.P.ResolvePart.after
      (flat_map (g.P.ResolvePart.uses (item_of path_of c.args.item.now).sort))
      (flat_split (g.P.ResolvePart.uses (item_of path_of c.args.item.now).sort))
      (λ xs. flat_map g.P.ResolvePart.paths (map g.P.ResolvePart.placed xs))
      (λ x xs. flat_split g.P.ResolvePart.paths (g.P.ResolvePart.placed x)
      (map g.P.ResolvePart.placed xs))
      (g.P.ResolvePart.meant (read_by c.args.names.now) (item_of path_of c.args.item.now).sort)
      (each (g.P.ResolvePart.meant (read_by c.args.names.now)
      (item_of path_of c.args.item.now).sort)) (λ ws. ws)
      (each_joined (g.P.ResolvePart.meant (read_by c.args.names.now)
      (item_of path_of c.args.item.now).sort))
      c.args.told.now.items c.loop-part.part-index
      c.args.parts.now c.part-item.result c.loop-part.copies.items
      c.push.new.self.items c.in_ok-copy.field-0 c.loop-part.told.items c.copy.new.told.items
      (omega arith) c.part-item.is
      (retold (description_of c.args.names.now) _ _ _ _ c.loop-part.told.items c.copy.new.told.items
      (sym (flat_one (g.P.ResolvePart.uses (item_of path_of c.args.item.now).sort)
      (g.P.ResolvePart.before c.part-item.result)))
      (sym (flat_one g.P.ResolvePart.paths (g.P.ResolvePart.placed c.part-item.result)))
      c.in_ok-copy.ensures.told)
      c.in_ok-copy.ensures.sound
      c.in_ok-push.ensures.items c.loop-part.invariant.0,
  kept_more g.P.ResolvePart.tokens g.P.ResolvePart.copied_tokens c.loop-part.part-index
      c.args.parts.now
      c.part-item.result c.loop-part.copies.items c.push.new.self.items
      c.in_ok-copy.field-0 (omega arith) c.part-item.is c.in_ok-copy.ensures.kept
      c.in_ok-push.ensures.items c.loop-part.invariant.1,
)

pub returns-clause-kept : goal.returns-clause-kept
returns-clause-kept g c =
    kept_at_end g.P.ResolvePart.tokens g.P.ResolvePart.copied_tokens c.loop-part.part-index
    c.args.parts.now
    c.loop-part.copies.items (drop_of_length-le c.args.parts.now (omega arith))
    c.loop-part.invariant.1

pub returns-clause-told : goal.returns-clause-told
returns-clause-told g c =
    told_at_end (description_of c.args.names.now) g.P.ResolvePart.before g.P.ResolvePart.after
    (flat_map (g.P.ResolvePart.uses (item_of path_of c.args.item.now).sort))
    (flat_split (g.P.ResolvePart.uses (item_of path_of c.args.item.now).sort))
    (λ xs. flat_map g.P.ResolvePart.paths (map g.P.ResolvePart.placed xs))
    (λ x xs. flat_split g.P.ResolvePart.paths (g.P.ResolvePart.placed x)
    (map g.P.ResolvePart.placed xs))
    (g.P.ResolvePart.meant (read_by c.args.names.now) (item_of path_of c.args.item.now).sort)
    (each (g.P.ResolvePart.meant (read_by c.args.names.now) (item_of path_of c.args.item.now).sort))
    (λ ws. ws)
    (each_joined (g.P.ResolvePart.meant (read_by c.args.names.now)
    (item_of path_of c.args.item.now).sort))
    c.args.told.now.items refl refl c.loop-part.part-index
    c.args.parts.now c.loop-part.copies.items c.loop-part.told.items
    (drop_of_length-le c.args.parts.now (omega arith)) c.loop-part.invariant.0

pub returns-clause-sound : goal.returns-clause-sound
returns-clause-sound g c =
    meant_at_end (description_of c.args.names.now) g.P.ResolvePart.before g.P.ResolvePart.after
    (flat_map (g.P.ResolvePart.uses (item_of path_of c.args.item.now).sort))
    (flat_split (g.P.ResolvePart.uses (item_of path_of c.args.item.now).sort))
    (λ xs. flat_map g.P.ResolvePart.paths (map g.P.ResolvePart.placed xs))
    (λ x xs. flat_split g.P.ResolvePart.paths (g.P.ResolvePart.placed x)
    (map g.P.ResolvePart.placed xs))
    (g.P.ResolvePart.meant (read_by c.args.names.now) (item_of path_of c.args.item.now).sort)
    (each (g.P.ResolvePart.meant (read_by c.args.names.now) (item_of path_of c.args.item.now).sort))
    (λ ws. ws)
    (each_joined (g.P.ResolvePart.meant (read_by c.args.names.now)
    (item_of path_of c.args.item.now).sort))
    c.args.told.now.items refl c.loop-part.part-index
    c.args.parts.now c.loop-part.copies.items c.loop-part.told.items
    (drop_of_length-le c.args.parts.now (omega arith)) c.loop-part.invariant.0
