-- What follows from what a call that ends well ensures.
use Rattle.std.proofs.Common.{Result, Ok, Err}
use Rattle.std.specs.Prelude.{OnOk}

pub carried : {A E P Q : Type 0} (result : Result A E) → (P → Q) → OnOk result P → OnOk result Q
carried (Ok x) f h = f h
carried (Err why) f h = h
