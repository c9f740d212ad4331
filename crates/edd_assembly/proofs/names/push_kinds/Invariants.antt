use Rattle.std.proofs.Common.{◌≡◌, refl, length, map, ◌++◌}
use Rattle.edd_syntax.specs.ItemView.{numbered_item}
use Rattle.edd_assembly.specs.Assembly.{name_rows, names_of_kinds}
use Rattle.edd_assembly.proofs.NameLoops.{bytes_of, names_and_rest, bytes_and_rest, kinds_split}
use Rattle.edd_assembly.proofs.names.push_kinds.Given as goal

-- what is there and the names to come are all rows and all bytes
abbrev pub invariant-loop-kind : goal.invariant-loop-kind
invariant-loop-kind l =
    (names_and_rest (names_of_kinds (map numbered_item l.items)) (λ k. k) refl
    (kinds_split (map numbered_item l.items)) l.section.rows.items
    (length l.section.bytes.items) l.kind-index l.kinds
    ≡ l.initial.section.rows.items ++ name_rows (length l.initial.section.bytes.items)
    (names_of_kinds (map numbered_item l.items) l.kinds))
    × (bytes_and_rest (names_of_kinds (map numbered_item l.items)) (λ k. k) refl
    (kinds_split (map numbered_item l.items)) l.section.bytes.items l.kind-index l.kinds
    ≡ l.initial.section.bytes.items
    ++ bytes_of (names_of_kinds (map numbered_item l.items) l.kinds))
