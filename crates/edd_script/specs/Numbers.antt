-- The numbers of a script.
use Rattle.std.specs.Prelude.{ℕ, ◌-◌, ◌^◌, ℤ, pos, neg_ℤ, ◌&&◌, List, length, drop, Option, Some, None, option_map, if◌then◌else◌, nat_lt, nat_le}
use Rattle.std.specs.Str.{all_ascii_digits}
use Rattle.std.specs.Str.Parse.{digits_value, starts_with_minus}

-- the number of decimal digits, if they are digits, one at least, and it is not above `most`
abbrev pub digits_up_to : (most : ℕ) → List ℕ → Option ℕ
digits_up_to most digits =
    if nat_lt 0 (length digits) && (all_ascii_digits digits && nat_le (digits_value 10 digits) most)
    then Some (digits_value 10 digits) else None

-- a decimal number of so many bits: digits, or a minus and digits
abbrev pub decimal_of : (bits : ℕ) → (word : List ℕ) → Option ℤ
decimal_of bits word = if starts_with_minus word
    then option_map (λ n. neg_ℤ (pos n)) (digits_up_to (2 ^ (bits - 1)) (drop 1 word))
    else option_map pos (digits_up_to (2 ^ (bits - 1) - 1) word)
