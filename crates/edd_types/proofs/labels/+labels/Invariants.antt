use Rattle.edd_syntax.specs.SubsetRules.{no_labels}
use Rattle.edd_syntax.specs.SubsetRules as rules
use Rattle.edd_breaches.specs.Along.{told_along}
use Rattle.edd_types.specs.Labels.{Holds, labels_told, labels_behind}
use Rattle.edd_breaches.proofs.AlongLaws.{Underway}
use Rattle.edd_types.proofs.labels.+labels.Given as goal

-- the labels are those of the parts so far, of which was told
abbrev pub invariant-tell_labels-loop-part : goal.invariant-tell_labels-loop-part
invariant-tell_labels-loop-part l =
    (so_far : rules.Labels) × Holds l.labels so_far
    × Underway labels_told labels_behind (told_along labels_told labels_behind no_labels l.parts)
    l.fn.told.items l.told.items so_far l.part-index l.parts
