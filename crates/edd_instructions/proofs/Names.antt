-- Operands that name something, and those that don't.
use Rattle.std.proofs.Common.{◌≡◌, refl, ℕ, zero, suc, true}
use Rattle.std.specs.Prelude.{◌≢◌}
use Rattle.edd_instructions.specs.Decoding.{unused_are_zero}

pub by_names : (names s t : ℕ) → names ≢ 0 → names ≢ 1 → true ≡ unused_are_zero names s t
by_names zero s t none one = absurd (none refl)
by_names (suc zero) s t none one = absurd (one refl)
by_names (suc (suc n)) s t none one = refl
