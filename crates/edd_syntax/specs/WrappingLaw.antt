-- What is kept of a number that is wrapped.
use Rattle.std.specs.Prelude.{◌≡◌, ℕ, ◌-◌, ◌^◌, ◌≤◌, ℤ, pos, ◌+ℤ◌, ◌*ℤ◌, neg_ℤ, int_le, int_lt, IsTrue}
use Rattle.edd_syntax.specs.TwosComplement.{wrap}

-- two numbers that are a multiple of m apart
abbrev pub IsCongruent : (m : ℕ) → ℤ → ℤ → Type 0
IsCongruent m x y = (k : ℤ) × (x ≡ y +ℤ k *ℤ pos m)

-- a wrapped number lies from -2 ^ (w - 1) to 2 ^ (w - 1) - 1, and is a multiple of 2 ^ w from the
-- number itself
abbrev pub WrappingKeepsTheNumber : Type 0
WrappingKeepsTheNumber = (w : ℕ) (z : ℤ) → 1 ≤ w →
    IsTrue (int_le (neg_ℤ (pos (2 ^ (w - 1)))) (wrap w z))
    × IsTrue (int_lt (wrap w z) (pos (2 ^ (w - 1)))) × IsCongruent (2 ^ w) z (wrap w z)
