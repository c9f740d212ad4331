use Rattle.std.proofs.Common.{◌≡◌, map, [], ◌∷◌}
use Rattle.edd_syntax.specs.ItemView.{numbered_item}
use Rattle.edd_assembly.specs.Assembly.{variable_kinds}
use Rattle.edd_syntax.proofs.Appending.{with_rest}
use Rattle.edd_assembly.proofs.Types.{variables_split}
use Rattle.edd_assembly.proofs.counts.variable_kinds.Given as goal

-- what is there and the variables to come are all
abbrev pub invariant-loop-item : goal.invariant-loop-item
invariant-loop-item l =
    with_rest (λ s ys. variable_kinds ys) (λ s y. variable_kinds (y ∷ [])) (λ s y. s) numbered_item
    variables_split l.kinds.items (record {}) l.item-index l.items
    ≡ variable_kinds (map numbered_item l.items)
