use Rattle.std.proofs.Common.{◌≡◌, refl, length}
use Rattle.edd_syntax.specs.ItemView.{numbered_item}
use Rattle.edd_assembly.specs.Assembly.{names_of_kind}
use Rattle.edd_assembly.proofs.NameLoops.{names_and_rest, bytes_and_rest, kind_split}
use Rattle.edd_assembly.proofs.names.NameSection.push_kind.Given as goal

-- what is there and the names to come are all rows and all bytes
abbrev pub invariant-loop-item : goal.invariant-loop-item
invariant-loop-item l =
    (names_and_rest (names_of_kind l.kind) numbered_item refl (kind_split l.kind) l.self.rows.items
    (length l.self.bytes.items) l.item-index l.items
    ≡ names_and_rest (names_of_kind l.kind) numbered_item refl (kind_split l.kind)
    l.initial.self.rows.items (length l.initial.self.bytes.items) 0 l.items)
    × (bytes_and_rest (names_of_kind l.kind) numbered_item refl (kind_split l.kind)
    l.self.bytes.items l.item-index l.items
    ≡ bytes_and_rest (names_of_kind l.kind) numbered_item refl (kind_split l.kind)
    l.initial.self.bytes.items 0 l.items)
