-- How many transactions and locals there are among attributes.
use Rattle.std.specs.Prelude.{ℕ, List, []}
use Rattle.edd_syntax.specs.Item.{CommandItem, MethodItem, Attribute}
use Rattle.edd_syntax.specs.NameRules.{transaction_count, locals_of}

-- the transactions among some attributes: those of a command that has them, whatever its name
abbrev pub transactions_in : {R : Type 0} → List (Attribute R) → ℕ
transactions_in all = transaction_count (record { sort = CommandItem; name = []; attributes = all })

-- the locals of all definitions among some attributes
abbrev pub locals_in : {R : Type 0} → List (Attribute R) → ℕ
locals_in all = locals_of (record { sort = MethodItem; name = []; attributes = all })
