-- What holds of a result that is there.
use Rattle.std.specs.Prelude.{Result, Ok, Err, OnOk}

pub carried : {T E P Q : Type 0} (r : Result T E) → (P → Q) → OnOk r P → OnOk r Q
carried (Ok x) f p = f p
carried (Err e) f p = p
