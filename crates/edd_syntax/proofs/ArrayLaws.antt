-- Whether there is an item of a kind.
use Rattle.std.proofs.Common.{◌≡◌, refl, Bool, true, false, List, [], ◌∷◌, length, filter, nat_lt, arith}
use Rattle.std.proofs.lemmas.Grind.{common_steps}
use Rattle.std.specs.List.{list_any}

pub counted_any : {X : Type 0} (test : X → Bool) (xs : List X)
    → nat_lt 0 (length (filter test xs)) ≡ list_any test xs
counted_any test [] = refl
counted_any test (x ∷ xs) = by_test (test x) refl (counted_any test xs)
  where
    by_test : (b : Bool) → test x ≡ b → nat_lt 0 (length (filter test xs)) ≡ list_any test xs
        → nat_lt 0 (length (filter test (x ∷ xs))) ≡ list_any test (x ∷ xs)
    by_test true is rest = grind (arith, common_steps)
    by_test false is rest = grind (arith, common_steps)
