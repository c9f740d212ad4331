-- What is told of elements of one array with one number.
use Rattle.std.specs.Prelude.{◌≡◌, ℕ, List, ◌∷◌, is_some}
use Rattle.std.specs.Ordering.{nat_cmp}
use Rattle.std.specs.BTreeMap as tree
use Rattle.std.specs.BTreeMap.{BTreeMap}
use Rattle.edd_breaches.specs.Told.{Told, told_if}
use Rattle.edd_syntax.specs.declared.numbers.TokenNo.{TokenNo}
use Rattle.edd_syntax.specs.declared.reference.Target.{Target}
use Rattle.edd_syntax.specs.declared.item.ArrayElement.{ArrayElement}
use Rattle.edd_syntax.specs.Refusal.{DuplicateElement}
use Rattle.edd_syntax.specs.SubsetRules.{is_number_in}

-- of an element after others that have these numbers
abbrev pub element_told : (before : List ℕ) → ArrayElement Target → List Told
element_told before e = told_if (is_number_in before e.number) DuplicateElement e.at

-- the numbers after an element
abbrev pub numbers_behind : (before : List ℕ) → ArrayElement Target → List ℕ
numbers_behind before e = e.number ∷ before

-- the code has these numbers
abbrev pub HasNumbers : BTreeMap ℕ TokenNo → List ℕ → Type 0
HasNumbers numbers before = (n : ℕ) → is_some (tree.get nat_cmp numbers n) ≡ is_number_in before n
