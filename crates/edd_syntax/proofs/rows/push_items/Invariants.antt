use Rattle.std.proofs.Common.{◌≡◌, map, refl, suc}
use Rattle.edd_syntax.specs.ItemView.{numbered_item}
use Rattle.edd_syntax.specs.Rows.{listed_from, listed_item, listed_of}
use Rattle.edd_syntax.proofs.Appending.{with_rest}
use Rattle.edd_syntax.proofs.rows.push_items.Given as goal

-- what was pushed and what is to come are all rows
abbrev pub invariant-loop-one : goal.invariant-loop-one
invariant-loop-one l =
    (with_rest (listed_from l.kind l.attr) (listed_item l.kind l.attr) (λ n i. suc n)
    (λ m. numbered_item m.item.now) (λ n i rest. refl) (map listed_of l.rows.items) l.number
    l.one-index l.marked
    ≡ with_rest (listed_from l.kind l.attr) (listed_item l.kind l.attr) (λ n i. suc n)
    (λ m. numbered_item m.item.now) (λ n i rest. refl) (map listed_of l.initial.rows.items) 0 0
    l.marked)
    × (l.number ≡ l.one-index)
