use Rattle.std.proofs.Common.{◌≡◌, ◌+◌}
use Rattle.edd_syntax.specs.Item.{kind_of_item}
use Rattle.edd_syntax.specs.ItemView.{numbered_item}
use Rattle.edd_syntax.specs.Numbers.{same_kind}
use Rattle.edd_syntax.proofs.NumberedLoops.{left_from}
use Rattle.edd_assembly.proofs.counts.count.Given as goal

-- those counted and those to come are all
abbrev pub invariant-loop-item : goal.invariant-loop-item
invariant-loop-item l =
    l.number + left_from (λ i. same_kind (kind_of_item i.sort) l.kind) numbered_item l.item-index
    l.items
    ≡ left_from (λ i. same_kind (kind_of_item i.sort) l.kind) numbered_item 0 l.items
