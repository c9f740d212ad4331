-- When bytes are text.
use Rattle.std.proofs.Common.{◌≡◌, ℕ, false, List, inl, inr}
use Rattle.std.specs.Str.{IsUtf8, is_utf8}
use Rattle.std.proofs.lemmas.Bool.{cases_Bool}
use Rattle.std.proofs.lemmas.Str.{IsUtf8-from_is_utf8}

pub no_text : (bytes : List ℕ) → (IsUtf8 bytes → ⊥) → is_utf8 bytes ≡ false
no_text bytes none = elim (cases_Bool (is_utf8 bytes)) [
  | inl text ↦ absurd (none (IsUtf8-from_is_utf8 bytes text))
  | inr not ↦ not
]
