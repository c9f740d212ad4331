-- Names: a letter or `_`, then letters, digits and `_`, at most 255 bytes of ASCII.
use Rattle.std.specs.Prelude.{ℕ, Bool, false, ◌&&◌, ◌||◌, nat_le, nat_lt, ◌==◌, [], ◌∷◌, length}
use Rattle.std.specs.List.{list_all}
use Rattle.edd_syntax.specs.Text.{Name}

-- from `low` to `high`, both included
abbrev pub is_within : (low high : ℕ) → ℕ → Bool
is_within low high c = nat_le low c && nat_le c high

-- a letter or `_`
abbrev pub begins_name : ℕ → Bool
begins_name c = is_within 65 90 c || is_within 97 122 c || c == 95

-- a letter, `_` or a digit
abbrev pub goes_on_name : ℕ → Bool
goes_on_name c = begins_name c || is_within 48 57 c

-- these bytes are a name
abbrev pub is_name : Name → Bool
is_name [] = false
is_name (c ∷ rest) = begins_name c && list_all goes_on_name rest && nat_lt (length rest) 255
