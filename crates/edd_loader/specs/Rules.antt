-- The rules that come before one, in the order in which they are tried.
use Rattle.std.specs.Prelude.{ℕ, ◌<◌, List}
use Rattle.edd_instructions.specs.declared.rules.Rule.{Rule}
use Rattle.edd_instructions.specs.Validity.{Keeps, fault_number}

-- the bytes keep each rule whose fault has a number below n
abbrev pub KeepsBelow : List ℕ → ℕ → Type 0
KeepsBelow b n = (earlier : Rule) → fault_number earlier < n → Keeps b earlier
