use Rattle.std.proofs.Common.{◌≡◌, []}
use Rattle.edd_syntax.specs.declared.numbers.Kind.{Kind}
use Rattle.edd_syntax.specs.ItemView.{item_of}
use Rattle.edd_syntax.specs.Resolution.{count_of, look_up, numbered_names}
use Rattle.edd_syntax.specs.Text.{Name}
use Rattle.edd_syntax.specs.TreeView.{path_of}
use Rattle.edd_name_meanings.specs.Numbering.{at, count_in}
use Rattle.edd_name_meanings.proofs.MapLaws.{so_far}
use Rattle.edd_name_meanings.proofs.numbering.number_all.Given as goal

-- the counts and the map are those of the items so far
abbrev pub invariant-loop-item : goal.invariant-loop-item
invariant-loop-item l =
    ((k : Kind) → count_in l.counts k ≡ count_of k (so_far (item_of path_of) l.item-index l.items))
    × ((q : Name) → at q l.numbers
    ≡ look_up q (numbered_names [] (so_far (item_of path_of) l.item-index l.items)))
