use Rattle.std.proofs.Common.{map}
use Rattle.std.specs.List.{flat_map}
use Rattle.edd_syntax.specs.ItemView.{item_of, numbered_item}
use Rattle.edd_syntax.specs.NameUses.{item_uses}
use Rattle.edd_syntax.specs.ResolvedTrees.{each, resolved_item}
use Rattle.edd_syntax.specs.TreeView.{path_of}
use Rattle.edd_name_meanings.specs.PathsIn.{paths_in_items}
use Rattle.edd_syntax.specs.ReferenceOrder.{item_references}
use Rattle.edd_name_meanings.specs.Directory.{description_of, read_by}
use Rattle.edd_expression_names.proofs.Copying.{Copied}
use Rattle.edd_expression_names.proofs.ExprSteps.{each_joined}
use Rattle.edd_syntax.proofs.FirstLaws.{flat_split}
use Rattle.edd_expression_names.proofs.TokenSteps.{Kept}
use Rattle.edd_name_meanings.specs.TokensIn.{tokens_in_item}
use Rattle.edd_names.proofs.unit_items.copy_items.Given as goal

-- those so far are copied
abbrev pub invariant-loop-item : goal.invariant-loop-item
invariant-loop-item l = Copied (description_of l.fn.names) (item_of path_of) numbered_item
    (flat_map item_uses) (flat_split item_uses) paths_in_items
    (λ x xs. flat_split item_references (item_of (λ p. p) x) (map (item_of (λ p. p)) xs))
    (resolved_item (read_by l.fn.names))
    (each (resolved_item (read_by l.fn.names))) (λ ws. ws)
    (each_joined (resolved_item (read_by l.fn.names)))
    l.fn.told.items
    l.item-index l.items l.copies.items l.told.items
    × Kept tokens_in_item tokens_in_item l.item-index l.items l.copies.items
