use Rattle.std.proofs.Common.{◌≡◌, map, drop}
use Rattle.std.specs.List.{list_any}
use Rattle.edd_syntax.specs.ItemView.{type_part_of}
use Rattle.edd_syntax.specs.Size.{is_element}
use Rattle.edd_syntax.specs.TreeView.{path_of}
use Rattle.edd_name_rules.proofs.sizes.has_element.Given as goal

-- the parts so far are no elements
abbrev pub invariant-loop-part : goal.invariant-loop-part
invariant-loop-part l =
    list_any is_element (map (type_part_of path_of) (drop l.part-index l.parts))
    ≡ list_any is_element (map (type_part_of path_of) l.parts)
