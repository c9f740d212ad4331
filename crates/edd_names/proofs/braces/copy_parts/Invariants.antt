use Rattle.std.proofs.Common.{map}
use Rattle.std.specs.List.{flat_map}
use Rattle.edd_syntax.specs.ItemView.{item_of}
use Rattle.edd_syntax.specs.ResolvedTrees.{each}
use Rattle.edd_syntax.specs.TreeView.{path_of}
use Rattle.edd_name_meanings.specs.Directory.{description_of, read_by}
use Rattle.edd_expression_names.proofs.Copying.{Copied}
use Rattle.edd_expression_names.proofs.ExprSteps.{each_joined}
use Rattle.edd_syntax.proofs.FirstLaws.{flat_split}
use Rattle.edd_expression_names.proofs.TokenSteps.{Kept}
use Rattle.edd_names.proofs.braces.copy_parts.Given as goal

-- those so far are copied
abbrev pub invariant-loop-part : goal.invariant-loop-part
invariant-loop-part g l = Copied (description_of l.fn.names) g.P.ResolvePart.before
    g.P.ResolvePart.after
    (flat_map (g.P.ResolvePart.uses (item_of path_of l.fn.item).sort))
    (flat_split (g.P.ResolvePart.uses (item_of path_of l.fn.item).sort))
    (λ xs. flat_map g.P.ResolvePart.paths (map g.P.ResolvePart.placed xs))
    (λ x xs. flat_split g.P.ResolvePart.paths (g.P.ResolvePart.placed x)
    (map g.P.ResolvePart.placed xs))
    (g.P.ResolvePart.meant (read_by l.fn.names) (item_of path_of l.fn.item).sort)
    (each (g.P.ResolvePart.meant (read_by l.fn.names) (item_of path_of l.fn.item).sort)) (λ ws. ws)
    (each_joined (g.P.ResolvePart.meant (read_by l.fn.names) (item_of path_of l.fn.item).sort))
    l.fn.told.items
    l.part-index l.parts l.copies.items l.told.items
    × Kept g.P.ResolvePart.tokens g.P.ResolvePart.copied_tokens l.part-index l.parts l.copies.items
