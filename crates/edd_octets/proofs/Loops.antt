-- The elements that a loop has yet to look at.
use Rattle.std.proofs.Common.{◌≡◌, ℕ, suc, ◌+◌, ◌<◌, get_or, List, ◌∷◌, length, drop, ap, ◌∙◌, arith}
use Rattle.std.proofs.Math.Seq.{drop-cons}

pub next : {A : Type 0} (xs : List A) (i : ℕ) (d : A) → i < length xs
    → drop i xs ≡ get_or xs i d ∷ drop (i + 1) xs
next xs i d inside =
    let one : suc i ≡ i + 1 = omega arith in
    drop-cons xs i d inside ∙ ap (λ (k : ℕ). get_or xs i d ∷ drop k xs) one
