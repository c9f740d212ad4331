-- What is told along a list, where each element is judged by those before it.
use Rattle.std.specs.Prelude.{List, [], ◌∷◌, ◌++◌}
use Rattle.edd_breaches.specs.Told.{Told}

-- `one` is told of an element after what was before it, and `next` is what is then before the others
abbrev pub told_along : {S X : Type 0} → (one : S → X → List Told) → (next : S → X → S)
    → (before : S) → List X → List Told
told_along one next before [] = []
told_along one next before (x ∷ rest) = one before x ++ told_along one next (next before x) rest

-- what was before, after all of them
abbrev pub after_all : {S X : Type 0} → (next : S → X → S) → (before : S) → List X → S
after_all next before [] = before
after_all next before (x ∷ rest) = after_all next (next before x) rest
