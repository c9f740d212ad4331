-- A table of strings: different strings, by their numbers.
use Rattle.std.specs.Prelude.{ℕ, ◌≡◌, ◌≢◌, ◌≤◌, ◌⊎◌, List, [], ◌∷◌, ◌++◌, Some, length}
use Rattle.std.specs.List.{AllPairs, Contains, slice_get}
use Rattle.edd_syntax.specs.Words.{Words}

-- what each table keeps
pub record AreStrings (strings : List Words) : Type 0 where
  pub few : length strings ≤ 65535
  pub different : AllPairs (λ s t. s ≢ t) strings

-- the string that has this number
abbrev pub HasNumber : List Words → Words → ℕ → Type 0
HasNumber strings words number = slice_get strings number ≡ Some words

-- a string that is held keeps its number, and a new one gets the next
abbrev pub Adds : (old : List Words) → Words → (number : ℕ) → (new : List Words) → Type 0
Adds old words number new =
    (HasNumber old words number × (new ≡ old))
    ⊎ (¬ (Contains old words) × (number ≡ length old) × (new ≡ old ++ words ∷ []))
