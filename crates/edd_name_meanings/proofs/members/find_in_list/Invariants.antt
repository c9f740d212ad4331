use Rattle.std.proofs.Common.{◌≡◌}
use Rattle.std.specs.Str.{bytes_eq}
use Rattle.edd_syntax.specs.ItemView.{attribute_of}
use Rattle.edd_syntax.specs.Resolution.{members_in}
use Rattle.edd_syntax.specs.TreeView.{path_of}
use Rattle.edd_name_meanings.proofs.Gathering.{found_from}
use Rattle.edd_name_meanings.proofs.members.find_in_list.Given as goal

-- the attributes so far list no member of the name
abbrev pub invariant-loop-attribute : goal.invariant-loop-attribute
invariant-loop-attribute l =
    found_from (attribute_of path_of) members_in (λ m. bytes_eq m.name l.name) l.attribute-index
    l.attributes
    ≡ found_from (attribute_of path_of) members_in (λ m. bytes_eq m.name l.name) 0 l.attributes
