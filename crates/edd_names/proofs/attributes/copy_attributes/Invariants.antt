use Rattle.std.proofs.Common.{map}
use Rattle.std.specs.List.{flat_map}
use Rattle.edd_syntax.specs.ItemView.{attribute_of, item_of, numbered_attribute}
use Rattle.edd_syntax.specs.NameUses.{attribute_uses}
use Rattle.edd_syntax.specs.ResolvedTrees.{each, resolved_attribute}
use Rattle.edd_syntax.specs.TreeView.{path_of}
use Rattle.edd_name_meanings.specs.PathsIn.{paths_in_attributes}
use Rattle.edd_syntax.specs.ReferenceOrder.{attribute_references}
use Rattle.edd_name_meanings.specs.Directory.{description_of, read_by}
use Rattle.edd_expression_names.proofs.Copying.{Copied}
use Rattle.edd_expression_names.proofs.ExprSteps.{each_joined}
use Rattle.edd_syntax.proofs.FirstLaws.{flat_split}
use Rattle.edd_expression_names.proofs.TokenSteps.{Kept}
use Rattle.edd_name_meanings.specs.TokensIn.{tokens_in_attribute}
use Rattle.edd_names.proofs.attributes.copy_attributes.Given as goal

-- those so far are copied
abbrev pub invariant-loop-attribute : goal.invariant-loop-attribute
invariant-loop-attribute l = Copied (description_of l.fn.names) (attribute_of path_of)
    numbered_attribute
    (flat_map (attribute_uses (item_of path_of l.fn.item).sort))
    (flat_split (attribute_uses (item_of path_of l.fn.item).sort)) paths_in_attributes
    (λ x xs. flat_split attribute_references (attribute_of (λ p. p) x)
    (map (attribute_of (λ p. p)) xs))
    (resolved_attribute (read_by l.fn.names) (item_of path_of l.fn.item).sort)
    (each (resolved_attribute (read_by l.fn.names) (item_of path_of l.fn.item).sort)) (λ ws. ws)
    (each_joined (resolved_attribute (read_by l.fn.names) (item_of path_of l.fn.item).sort))
    l.fn.told.items
    l.attribute-index l.attributes l.copies.items l.told.items
    × Kept tokens_in_attribute tokens_in_attribute l.attribute-index l.attributes l.copies.items
