use Rattle.std.proofs.Common.{ℕ, List, []}
use Rattle.edd_breaches.specs.Along.{told_along}
use Rattle.edd_duplicates.specs.Elements.{HasNumbers, element_told, numbers_behind}
use Rattle.edd_breaches.proofs.AlongLaws.{Underway}
use Rattle.edd_duplicates.proofs.elements.tell_elements.Given as goal

-- the numbers are those of the elements so far, of which was told
abbrev pub invariant-loop-element : goal.invariant-loop-element
invariant-loop-element l =
    (before : List ℕ) × HasNumbers l.numbers before
    × Underway element_told numbers_behind (told_along element_told numbers_behind [] l.elements)
    l.fn.told.items l.told.items before l.element-index l.elements
