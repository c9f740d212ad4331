-- The tree of a row is that of its item's attributes.
use Rattle.std.proofs.Common.{◌≡◌, refl, ap, ◌∙◌, List, Option, Some, None}
use Rattle.std.specs.Prelude.{option_map}
use Rattle.edd_syntax.specs.declared.numbers.AttrRef.{AttrRef}
use Rattle.edd_syntax.specs.declared.reference.Target.{Target}
use Rattle.edd_syntax.specs.Item.{Attribute, Item, Description}
use Rattle.edd_syntax.specs.Numbers.{index_of}
use Rattle.edd_syntax.specs.Device.{item_at}
use Rattle.edd_syntax.specs.Rows.{attributes_of_row}
use Rattle.std.proofs.lemmas.Option.{slice_get-map}
use Rattle.edd_attrs.specs.Trees.{Tree, tree_in, tree_at}

-- the tree in the attributes that were found
abbrev pub tree_found : Option (List (Attribute Target)) → AttrRef → Option Tree
tree_found None row = None
tree_found (Some attributes) row = tree_in attributes row.attr row.sub

found : (o : Option (Item Target)) (row : AttrRef)
    → tree_found (option_map (λ i. i.attributes) o) row
    ≡ elim o [ Some i ↦ tree_in i.attributes row.attr row.sub | None ↦ None ]
found None row = refl
found (Some i) row = refl

pub tree_of_row : (unit : Description Target) (row : AttrRef)
    → tree_found (attributes_of_row unit.items row) row ≡ tree_at unit row
unfolding tree_at
tree_of_row unit row = ap (λ o. tree_found o row)
    (slice_get-map (λ i. i.attributes) _ (index_of row.item)) ∙ found (item_at unit row.item) row
