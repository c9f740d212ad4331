-- A fault that is handed on.
use Rattle.std.proofs.Common.{◌≡◌, Result, Ok, Err, sym, subst}
use Rattle.std.specs.Prelude.{IfErr}
use Rattle.std.specs.Result.{IsErrAnd}

-- what holds of a fault holds of it where it was handed on
pub passed : {T E : Type 0} (r : Result T E) (f : E) (P : E → Type 0) → IsErrAnd r (λ e. e ≡ f)
    → P f → IfErr r P
passed (Ok x) f P e h = absurd e
passed (Err g) f P e h = subst P (sym e) h
