use Rattle.std.proofs.Common.{◌≡◌, ℕ, ℤ, length, Some}
use Rattle.std.specs.Prelude.{slice_get}
use Rattle.edd_device.specs.Starts.{StartsAs}
use Rattle.edd_device.proofs.starting.start_values.Given as goal

-- the variables so far start as they should
abbrev pub invariant-loop-variable : goal.invariant-loop-variable
invariant-loop-variable l = record {
  count : length l.numbers.items ≡ l.variable;
  starts : (k : ℕ) (n : ℤ) → slice_get l.numbers.items k ≡ Some n → StartsAs l.image k n;
}
