-- A fault that is passed on.
use Rattle.std.proofs.Common.{◌≡◌, sym, subst}
use Rattle.std.specs.Prelude.{Result, Ok, Err, IfErr}
use Rattle.std.specs.Result.{IsErrAnd}

pub passed : {T E : Type 0} (r : Result T E) (f : E) (P : E → Type 0) → IsErrAnd r (λ e. e ≡ f)
    → P f → IfErr r P
passed (Ok t) f P is p = tt
passed (Err e) f P is p = subst P (sym is) p

pub weaker_err : {T E : Type 0} (r : Result T E) (P Q : E → Type 0) → ((e : E) → P e → Q e)
    → IfErr r P → IfErr r Q
weaker_err (Ok t) P Q w h = tt
weaker_err (Err e) P Q w h = w e h
