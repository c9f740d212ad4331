-- What is told, by parts.
use Rattle.std.proofs.Common.{◌≡◌, subst, ◌+◌, List, ◌++◌}
use Rattle.std.specs.Prelude.{Result, Ok, Err, OnOk}
use Rattle.std.specs.declared.alloc.AllocError.{AllocError}
use Rattle.edd_breaches.proofs.TellLaws.{tells_append}
use Rattle.edd_breaches.specs.declared.breach.Breach.{Breach}
use Rattle.edd_breaches.specs.Told.{Told, Tells}

-- the same breaches, written otherwise
pub tells_same : (result : Result (Unit {0}) AllocError) (xs ys : List Told) (old new : List Breach)
    → xs ≡ ys → OnOk result (Tells xs old new) → OnOk result (Tells ys old new)
tells_same result xs ys old new same h = subst (λ zs. OnOk result (Tells zs old new)) same h

-- those of two parts, where the second may be out of memory
pub tells_both : (result : Result (Unit {0}) AllocError) (xs ys zs : List Told)
    (old mid new : List Breach) → xs ++ ys ≡ zs → Tells xs old mid → OnOk result (Tells ys mid new)
    → OnOk result (Tells zs old new)
tells_both (Ok done) xs ys zs old mid new same first second =
    subst (λ all. Tells all old new) same (tells_append xs ys old mid new first second)
tells_both (Err why) xs ys zs old mid new same first second = tt
