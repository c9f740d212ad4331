use Rattle.std.proofs.Common.{◌∷◌, ◌∙◌, ap, map}
use Rattle.std.specs.List.{flat_map}
use Rattle.edd_syntax.specs.ItemView.{attribute_of, item_of, numbered_attribute, numbered_item}
use Rattle.edd_syntax.specs.TreeView.{path_of}
use Rattle.edd_name_meanings.specs.PathsIn.{paths_in_attributes, paths_in_item}
use Rattle.edd_name_meanings.specs.Directory.{description_of, read_by}
use Rattle.edd_name_meanings.specs.TokensIn.{tokens_in_attribute}
use Rattle.edd_names.proofs.ItemSteps.{item_told, item_means}
use Rattle.edd_names.proofs.unit_items.copy_item.Goals as goal

pub returns-clause-told : goal.returns-clause-told
returns-clause-told c =
    item_told (description_of c.args.names.now) (item_of path_of c.args.item.now)
    (map (attribute_of path_of) c.attributes.result.now)
    (paths_in_attributes c.attributes.result.now) (paths_in_item c.args.item.now)
    c.args.told.now.items c.copy_attributes.new.told.items
    (ap (map (attribute_of path_of)) c.attributes.ensures)
    (ap paths_in_attributes c.attributes.ensures) c.in_ok-attributes.ensures.told

pub returns-clause-sound : goal.returns-clause-sound
returns-clause-sound c =
    item_means (read_by c.args.names.now) (item_of path_of c.args.item.now)
    (numbered_item c.like.result) (map (attribute_of path_of) c.attributes.result.now)
    (map numbered_attribute c.in_ok-attributes.attributes.items)
    (ap (map (attribute_of path_of)) c.attributes.ensures) c.in_ok-attributes.ensures.sound
    c.like.ensures.sort (c.like.ensures.name ∙ c.in_ok-name.ensures ∙ c.name.ensures)
    c.like.ensures.attributes

pub returns-clause-kept : goal.returns-clause-kept
returns-clause-kept c =
    c.like.ensures.kept ∙ ap (λ ts. c.args.item.now.at ∷ ts)
    (c.in_ok-attributes.ensures.kept ∙ ap (flat_map tokens_in_attribute) c.attributes.ensures)
