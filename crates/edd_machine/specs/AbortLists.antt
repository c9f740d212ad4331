-- Lists of abort methods.
use Rattle.std.specs.Prelude.{ℕ, List, [], map}
use Rattle.edd_syntax.specs.declared.numbers.MethNo.{MethNo}
use Rattle.edd_instructions.specs.declared.records.Status.TheVariants.{Aborted}
use Rattle.edd_instructions.specs.Steps.{State}

-- the methods of these numbers
abbrev pub methods_of : List ℕ → List MethNo
methods_of numbers = map (λ n. record { 0 = n }) numbers

-- no method is left, and the run is aborted
abbrev pub aborted : State → State
aborted s = record s { status = Aborted; abort_methods = [] }
