-- Integers and decimals, by their bytes.
use Rattle.std.specs.Prelude.{◌≡◌, ◌≢◌, ◌⊎◌, ℕ, ◌+◌, ◌*◌, ◌-◌, ◌==◌, Bool, true, false, ◌||◌, ◌&&◌, nat_lt, List, [], ◌∷◌, ◌++◌, if◌then◌else◌}
use Rattle.std.specs.Char.{is_ascii_digit, is_ascii_hexdigit}
use Rattle.std.specs.List.{list_all}
use Rattle.edd_lexer.specs.Bytes.{begins}

-- the value of a digit, 0 to 9, A to F or a to f
abbrev pub digit_value : ℕ → ℕ
digit_value b = if nat_lt b 58 then b - 48 else (if nat_lt b 71 then b - 55 else b - 87)

-- the number that digits stand for, after the ones that stand for n
abbrev pub number : (base n : ℕ) → List ℕ → ℕ
number base n [] = n
number base n (b ∷ digits) = number base (base * n + digit_value b) digits

-- `0`, or digits of which the first is not `0`
abbrev pub IsPlainInteger : List ℕ → ℕ → Type 0
IsPlainInteger [] n = ⊥
IsPlainInteger (b ∷ digits) n =
    (list_all is_ascii_digit (b ∷ digits) ≡ true) × ((b ≢ 48) ⊎ (digits ≡ []))
    × (n ≡ number 10 0 (b ∷ digits))

-- `x` or `X`
abbrev pub is_hex_letter : ℕ → Bool
is_hex_letter b = b == 120 || b == 88

-- `0x` or `0X`, and hexadecimal digits
abbrev pub IsHexInteger : List ℕ → ℕ → Type 0
IsHexInteger bytes n =
    (x : ℕ) × (digits : List ℕ) × (bytes ≡ 48 ∷ x ∷ digits) × (is_hex_letter x ≡ true)
    × (digits ≢ [])
    × (list_all is_ascii_hexdigit digits ≡ true) × (n ≡ number 16 0 digits)

-- The bytes are a decimal or a hexadecimal integer, and n is its value.
abbrev pub IsInteger : List ℕ → ℕ → Type 0
IsInteger bytes n = IsPlainInteger bytes n ⊎ IsHexInteger bytes n

-- one or more decimal digits
abbrev pub IsDigits : List ℕ → Type 0
IsDigits bytes = (bytes ≢ []) × (list_all is_ascii_digit bytes ≡ true)

-- digits, `.`, and digits or none; or `.` and digits
abbrev pub IsFraction : List ℕ → Type 0
IsFraction bytes =
    (whole part : List ℕ) × (bytes ≡ whole ++ 46 ∷ part) × (list_all is_ascii_digit whole ≡ true)
    × (list_all is_ascii_digit part ≡ true) × ((whole ≢ []) ⊎ (part ≢ []))

-- `e` or `E`
abbrev pub is_exponent_letter : ℕ → Bool
is_exponent_letter b = b == 101 || b == 69

-- `+` or `-`
abbrev pub is_sign : ℕ → Bool
is_sign b = b == 43 || b == 45

-- digits, with a sign or none before them
abbrev pub IsSigned : List ℕ → Type 0
IsSigned bytes =
    IsDigits bytes ⊎ ((sign : ℕ) × (digits : List ℕ) × (bytes ≡ sign ∷ digits)
    × (is_sign sign ≡ true) × IsDigits digits)

-- `e` or `E`, a sign or none, and digits
abbrev pub IsExponent : List ℕ → Type 0
IsExponent bytes = (letter : ℕ) × (power : List ℕ) × (bytes ≡ letter ∷ power)
    × (is_exponent_letter letter ≡ true) × IsSigned power

-- a fraction with or without an exponent, or digits with an exponent
abbrev pub IsDecimal : List ℕ → Type 0
IsDecimal bytes =
    IsFraction bytes
    ⊎ ((before exponent : List ℕ) × (bytes ≡ before ++ exponent)
    × (IsFraction before ⊎ IsDigits before) × IsExponent exponent)

-- a number begins here: a digit, or `.` and a digit
abbrev pub begins_number : List ℕ → Bool
begins_number [] = false
begins_number (b ∷ here) = is_ascii_digit b || (b == 46 && begins is_ascii_digit here)
