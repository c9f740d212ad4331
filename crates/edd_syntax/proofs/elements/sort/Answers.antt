use Rattle.std.proofs.Common.{rules}
use Rattle.std.proofs.lemmas.List.Sorted.{answers_always, IsNonDecreasingBy-from_sort}
use Rattle.std.proofs.lemmas.Result.{on_ok_weaker}
use Rattle.edd_syntax.proofs.ElementSort.{element_number, by_number-from_sort}
use Rattle.edd_syntax.proofs.elements.sort.Goals as goal

pub returns : goal.returns
returns c =
    let keys = answers_always _ _ _ (λ f a r next called. search rules) in
    let stable = c.sort_by_key.ensures.stable element_number keys in
    on_ok_weaker c.sort_by_key.result
    (λ sorted. by_number-from_sort _ _ (IsNonDecreasingBy-from_sort element_number _
    (sorted element_number keys)) stable)
    c.sort_by_key.ensures.sorted
