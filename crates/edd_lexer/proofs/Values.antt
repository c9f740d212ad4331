-- What digits stand for.
use Rattle.std.proofs.Common.{◌≡◌, ℕ, ◌+◌, ◌*◌, ◌≤◌, ◌<◌, List, [], ◌∷◌, true, drop, length, get_or, arith}
use Rattle.std.proofs.lemmas.List.{at_drop_more}
use Rattle.std.specs.Char.{is_ascii_hexdigit}
use Rattle.edd_lexer.specs.Numbers.{number, digit_value}

number_step : (base n b : ℕ) → 1 ≤ base → n ≤ base * n + digit_value b
number_step base n b le = grind arith

pub number_grows : (base n : ℕ) (digits : List ℕ) → 1 ≤ base → n ≤ number base n digits
number_grows base n [] le = omega arith
number_grows base n (b ∷ digits) le =
    let step = number_step base n b le in
    omega (arith, number_grows base (base * n + digit_value b) digits le)

-- what a digit more makes of a number
pub number_more : (base n i : ℕ) (digits : List ℕ) → i < length digits
    → number base n (drop i digits) ≡ number base (base * n + digit_value (get_or digits i 0))
    (drop (i + 1) digits)
number_more base n i digits lt = at_drop_more (number base n) digits i 0 lt

pub number_over : (base n i limit : ℕ) (digits : List ℕ) → 1 ≤ base → i < length digits
    → limit < base * n + digit_value (get_or digits i 0) → limit < number base n (drop i digits)
number_over base n i limit digits le lt over =
    rw (number_more base n i digits lt)
    (let g = number_grows base (base * n + digit_value (get_or digits i 0))
    (drop (i + 1) digits) le in omega arith)

pub product_small : (base n : ℕ) → base ≤ 16 → base * n ≤ 16 * n
product_small base n le = grind arith

pub digit_small : (b : ℕ) → is_ascii_hexdigit b ≡ true → digit_value b < 16
digit_small b e = grind arith

pub ruleset numbers = (number_over, number_more, product_small, digit_small)
