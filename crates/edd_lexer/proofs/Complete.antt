-- What stands at a place is read there: words, numbers and strings.
use Rattle.std.proofs.Common.{◌≡◌, ◌≢◌, ℕ, ◌≤◌, Bool, true, false, ◌&&◌, ◌||◌, ◌==◌, List, [], ◌∷◌, ◌++◌, length, Some, None, refl, sym, ap, ◌∙◌, inl, inr, ◌⊎◌, append_assoc, arith}
use Rattle.std.specs.Prelude.{nat_le, nat_lt}
use Rattle.std.specs.Char.{is_ascii_digit, is_ascii_hexdigit}
use Rattle.std.specs.List.{list_all}
use Rattle.edd_syntax.specs.Names.{is_name, begins_name, goes_on_name}
use Rattle.edd_syntax.specs.Words.{has_escapes}
use Rattle.edd_syntax.specs.Token.{Integer, Decimal, String, word_token}
use Rattle.edd_lexer.specs.Bytes.{is_blank, goes_on_number, begins, front, behind}
use Rattle.edd_lexer.specs.Numbers.{number, IsPlainInteger, IsHexInteger, IsInteger, IsDigits, IsFraction, IsSigned, IsExponent, IsDecimal, is_hex_letter, is_exponent_letter, is_sign, begins_number}
use Rattle.edd_lexer.specs.Strings.{quote, Closed}
use Rattle.edd_lexer.specs.Reading.{token, word_at, integer_of, has_leading_zero, plain_integer, is_hex, hex_integer, decimal_to, decimal_or, digits_end, signed_end, exponent_end, fraction_to, number_from, number_at, string_end, string_at, next_is, step_at}
use Rattle.edd_lexer.proofs.Runs.{both, run_again, some_begins, weaker}
use Rattle.edd_lexer.proofs.ByteTests.{and_false, and_both, same_byte, other_byte, le_again, lt_is, name_no_other, name_goes_on, digit_no_other, digit_no_name, digit_goes_on, hex_goes_on, exponent_goes_on, dot_goes_on, hex_letter_goes_on, digit_no_hex_letter, exponent_no_hex_letter, exponent_no_digit, digit_no_sign}
use Rattle.edd_lexer.proofs.StringEnds.{string_again, inside_is}

-- ---- words

word_is : (here name rest : List ℕ) → front goes_on_name here ≡ name → behind goes_on_name here
    ≡ rest → nat_le (length name) 255 ≡ true → word_at here ≡ token (word_token name) rest
unfolding word_at
word_is here name rest e f short = rw (e, f, short) refl

to_word : (fresh : Bool) (b : ℕ) (here : List ℕ) → begins_name b ≡ true → step_at fresh (b ∷ here)
    ≡ word_at (b ∷ here)
unfolding step_at
to_word fresh b here start = rw ((name_no_other b start).blank, start) refl

pub word_again : (fresh : Bool) (bytes rest : List ℕ) → is_name bytes ≡ true
    → begins goes_on_name rest ≡ false → step_at fresh (bytes ++ rest)
    ≡ token (word_token bytes) rest
word_again fresh [] rest name stop = absurd cc
word_again fresh (b ∷ bytes) rest name stop =
    let outer = both (begins_name b && list_all goes_on_name bytes) (nat_lt (length bytes) 255)
    name in
    let inner = both (begins_name b) (list_all goes_on_name bytes) outer.0 in
    let all : list_all goes_on_name (b ∷ bytes) ≡ true =
    and_both (goes_on_name b) _ (name_goes_on b inner.0) inner.1 in
    let run = run_again goes_on_name (b ∷ bytes) rest all stop in
    let lt = lt_is (length bytes) 255 outer.1 in
    let short : nat_le (length (b ∷ bytes)) 255 ≡ true = le_again (length (b ∷ bytes)) 255
    (omega arith) in
    to_word fresh b (bytes ++ rest) inner.0 ∙ word_is ((b ∷ bytes) ++ rest) (b ∷ bytes) rest run.0
    run.1 short

-- ---- numbers

number_first : (b : ℕ) (here : List ℕ) → begins_number (b ∷ here) ≡ true
    → (is_blank b ≡ false) × (begins_name b ≡ false)
number_first b here e = go (is_ascii_digit b) refl e
  where
    go : (t : Bool) → is_ascii_digit b ≡ t
        → (is_ascii_digit b || ((b == 46) && begins is_ascii_digit here)) ≡ true
        → (is_blank b ≡ false) × (begins_name b ≡ false)
    go true d n = ((digit_no_other b d).blank, (digit_no_name b d).0)
    go false d n =
        let dot = both (b == 46) (begins is_ascii_digit here)
        (ap (λ (t : Bool). t || ((b == 46) && begins is_ascii_digit here)) (sym d) ∙ n) in
        let is = same_byte b 46 dot.0 in
        (ap is_blank is, ap begins_name is)

to_number : (fresh : Bool) (here : List ℕ) → begins_number here ≡ true
    → step_at fresh here ≡ number_at here
unfolding step_at
to_number fresh [] e = absurd cc
to_number fresh (b ∷ here) e = let first = number_first b here e in rw (first.0, first.1, e) refl

integer_again : (base : ℕ) (digits rest : List ℕ) → number base 0 digits ≤ 4294967295
    → begins goes_on_number rest ≡ false → integer_of base digits rest
    ≡ token (Integer (number base 0 digits)) rest
unfolding integer_of
integer_again base digits rest fits free =
    rw (free, le_again (number base 0 digits) 4294967295 fits) refl

-- a digit begins a number
digits_begin : (digits rest : List ℕ) → digits ≢ [] → list_all is_ascii_digit digits ≡ true
    → begins_number (digits ++ rest) ≡ true
digits_begin [] rest some all = absurd (some refl)
digits_begin (b ∷ digits) rest some all =
    rw ((both (is_ascii_digit b) (list_all is_ascii_digit digits) all).0) refl

-- digits with no `x` after them are no hexadecimal number
no_hex : (digits rest : List ℕ) → list_all is_ascii_digit digits ≡ true → begins is_hex_letter rest
    ≡ false → digits ≢ [] → is_hex (digits ++ rest) ≡ false
no_hex [] rest all free some = absurd (some refl)
no_hex (b ∷ []) [] all free some = refl
no_hex (b ∷ []) (x ∷ rest) all free some = rw free (and_false (b == 48))
no_hex (b ∷ d ∷ digits) rest all free some =
    let more = both (is_ascii_digit b) (list_all is_ascii_digit (d ∷ digits)) all in
    let digit = both (is_ascii_digit d) (list_all is_ascii_digit digits) more.1 in
    rw (digit_no_hex_letter d digit.0) (and_false (b == 48))

no_leading : (b : ℕ) (digits : List ℕ) → ((b ≢ 48) ⊎ (digits ≡ [])) → has_leading_zero (b ∷ digits)
    ≡ false
no_leading b [] e = refl
no_leading b (c ∷ digits) (inl n) = other_byte b 48 n
no_leading b (c ∷ digits) (inr e) = absurd cc

free_of : (test : ℕ → Bool) (rest : List ℕ) → ((b : ℕ) → test b ≡ true → goes_on_number b ≡ true)
    → begins goes_on_number rest ≡ false → begins test rest ≡ false
free_of test rest h free = weaker test goes_on_number rest h free

no_exponent : (here : List ℕ) → begins is_exponent_letter here ≡ false → exponent_end here ≡ None
unfolding exponent_end
no_exponent here e = rw e refl

-- ---- numbers by the digits that they begin with, and what comes after these

number_by : (here whole rest : List ℕ) → is_hex here ≡ false → front is_ascii_digit here ≡ whole
    → behind is_ascii_digit here ≡ rest → number_at here ≡ number_from whole rest
unfolding number_at
number_by here whole rest e f g = rw (e, f, g) refl

number_plain : (whole rest : List ℕ) → next_is 46 rest ≡ false → exponent_end rest ≡ None
    → number_from whole rest ≡ plain_integer whole rest
unfolding number_from
number_plain whole rest e f = rw (e, f) refl

number_power : (whole rest end : List ℕ) → next_is 46 rest ≡ false → exponent_end rest ≡ Some end
    → number_from whole rest ≡ decimal_to end
unfolding number_from
number_power whole rest end e f = rw (e, f) refl

fraction_alone : (here : List ℕ) → exponent_end here ≡ None → fraction_to here ≡ decimal_to here
fraction_alone here e = rw (e, decimal_or) refl

fraction_power : (here end : List ℕ) → exponent_end here ≡ Some end
    → fraction_to here ≡ decimal_to end
fraction_power here end e = rw (e, decimal_or) refl

-- digits that stand alone
whole_again : (digits rest : List ℕ) → IsDigits digits → begins goes_on_number rest ≡ false
    → number_at (digits ++ rest) ≡ plain_integer digits rest
whole_again digits rest is free =
    let run = run_again is_ascii_digit digits rest is.1
    (free_of is_ascii_digit rest digit_goes_on free) in
    let dot : next_is 46 rest ≡ false = free_of (λ b. b == 46) rest dot_goes_on free in
    let exponent = no_exponent rest (free_of is_exponent_letter rest exponent_goes_on free) in
    number_by (digits ++ rest) digits rest
    (no_hex digits rest is.1 (free_of is_hex_letter rest hex_letter_goes_on free) is.0) run.0
    run.1
    ∙ number_plain digits rest dot exponent

plain_again : (fresh : Bool) (bytes rest : List ℕ) (n : ℕ) → IsPlainInteger bytes n → n ≤ 4294967295
    → begins goes_on_number rest ≡ false → step_at fresh (bytes ++ rest) ≡ token (Integer n) rest
unfolding plain_integer
plain_again fresh [] rest n is fits free = absurd is
plain_again fresh (b ∷ digits) rest n is fits free =
    let some : IsDigits (b ∷ digits) = ((λ e. cc), is.0) in
    to_number fresh ((b ∷ digits) ++ rest) (digits_begin (b ∷ digits) rest some.0 some.1)
    ∙ (whole_again (b ∷ digits) rest some free
    ∙ rw (no_leading b digits is.1, is.2) (integer_again 10 (b ∷ digits) rest (omega (arith, is.2))
    free))

hex_again : (fresh : Bool) (bytes rest : List ℕ) (n : ℕ) → IsHexInteger bytes n → n ≤ 4294967295
    → begins goes_on_number rest ≡ false → step_at fresh (bytes ++ rest) ≡ token (Integer n) rest
unfolding number_at hex_integer
hex_again fresh bytes rest n h fits free =
    let run = run_again is_ascii_hexdigit h.1 rest h.5
    (free_of is_ascii_hexdigit rest hex_goes_on free) in
    let some : begins is_ascii_hexdigit (h.1 ++ rest) ≡ true = some_begins is_ascii_hexdigit h.1
    rest h.4 h.5 in
    let whole : bytes ++ rest ≡ 48 ∷ h.0 ∷ (h.1 ++ rest) = ap (λ (t : List ℕ). t ++ rest) h.2 in
    ap (step_at fresh) whole
    ∙ (to_number fresh (48 ∷ h.0 ∷ (h.1 ++ rest)) refl
    ∙ rw (h.3, some, run.0, run.1, h.6) (integer_again 16 h.1 rest (omega (arith, h.6)) free))

pub integer_token_again : (fresh : Bool) (bytes rest : List ℕ) (n : ℕ) → IsInteger bytes n
    → n ≤ 4294967295 → begins goes_on_number rest ≡ false → step_at fresh (bytes ++ rest)
    ≡ token (Integer n) rest
integer_token_again fresh bytes rest n (inl is) fits free = plain_again fresh bytes rest n is fits
    free
integer_token_again fresh bytes rest n (inr is) fits free = hex_again fresh bytes rest n is fits
    free

-- ---- decimals

decimal_to_again : (rest : List ℕ) → begins goes_on_number rest ≡ false
    → decimal_to rest ≡ token Decimal rest
unfolding decimal_to
decimal_to_again rest free = rw free refl

digits_again : (digits rest : List ℕ) → IsDigits digits → begins is_ascii_digit rest ≡ false
    → digits_end (digits ++ rest) ≡ Some rest
digits_again digits rest is stop =
    let run = run_again is_ascii_digit digits rest is.1 stop in
    rw (some_begins is_ascii_digit digits rest is.0 is.1, run.1) refl

no_sign_first : (digits rest : List ℕ) → IsDigits digits → begins is_sign (digits ++ rest) ≡ false
no_sign_first [] rest is = absurd (is.0 refl)
no_sign_first (b ∷ digits) rest is =
    digit_no_sign b (both (is_ascii_digit b) (list_all is_ascii_digit digits) is.1).0

signed_again : (power rest : List ℕ) → IsSigned power → begins is_ascii_digit rest ≡ false
    → signed_end (power ++ rest) ≡ Some rest
signed_again power rest (inl is) stop =
    rw (no_sign_first power rest is) (digits_again power rest is stop)
signed_again power rest (inr (sign, digits, whole, is_one, is)) stop =
    ap (λ (t : List ℕ). signed_end (t ++ rest)) whole ∙ rw is_one (digits_again digits rest is stop)

exponent_again : (exponent rest : List ℕ) → IsExponent exponent → begins is_ascii_digit rest ≡ false
    → exponent_end (exponent ++ rest) ≡ Some rest
unfolding exponent_end
exponent_again exponent rest (letter, power, whole, is_one, is) stop =
    ap (λ (t : List ℕ). exponent_end (t ++ rest)) whole
    ∙ rw is_one (signed_again power rest is stop)

-- an exponent begins with no digit, and with no `.`
exponent_first : (exponent rest : List ℕ) → IsExponent exponent
    → (begins is_ascii_digit (exponent ++ rest) ≡ false) × (next_is 46 (exponent ++ rest) ≡ false)
    × (begins is_hex_letter (exponent ++ rest) ≡ false)
exponent_first exponent rest (letter, power, whole, is_one, is) =
    let none = exponent_no_digit letter is_one in (
      ap (λ (t : List ℕ). begins is_ascii_digit (t ++ rest)) whole ∙ none.0,
      ap (λ (t : List ℕ). next_is 46 (t ++ rest)) whole ∙ none.1,
      ap (λ (t : List ℕ). begins is_hex_letter (t ++ rest)) whole ∙ exponent_no_hex_letter letter
          is_one,
    )

-- digits, a point and digits are passed
fraction_passed : (whole part after : List ℕ) → list_all is_ascii_digit whole ≡ true
    → list_all is_ascii_digit part ≡ true → begins is_ascii_digit after ≡ false
    → number_from (front is_ascii_digit (whole ++ 46 ∷ (part ++ after)))
    (behind is_ascii_digit (whole ++ 46 ∷ (part ++ after))) ≡ fraction_to after
unfolding number_from
fraction_passed whole part after digits more stop =
    let run = run_again is_ascii_digit whole (46 ∷ (part ++ after)) digits refl in
    let behind_part = run_again is_ascii_digit part after more stop in
    rw (run.0, run.1, behind_part.1) refl

fraction_begins : (whole part after : List ℕ) → list_all is_ascii_digit whole ≡ true
    → list_all is_ascii_digit part ≡ true → ((whole ≢ []) ⊎ (part ≢ []))
    → begins_number (whole ++ 46 ∷ (part ++ after)) ≡ true
fraction_begins [] part after digits more (inl w) = absurd (w refl)
fraction_begins [] part after digits more (inr p) = some_begins is_ascii_digit part after p more
fraction_begins (b ∷ whole) part after digits more some =
    digits_begin (b ∷ whole) (46 ∷ (part ++ after)) (λ e. cc) digits

fraction_no_hex : (whole part after : List ℕ) → list_all is_ascii_digit whole ≡ true
    → is_hex (whole ++ 46 ∷ (part ++ after)) ≡ false
fraction_no_hex [] [] [] digits = refl
fraction_no_hex [] [] (x ∷ after) digits = refl
fraction_no_hex [] (b ∷ part) after digits = refl
fraction_no_hex (b ∷ whole) part after digits = no_hex (b ∷ whole) (46 ∷ (part ++ after)) digits
    refl (λ e. cc)

fraction_again : (fresh : Bool) (bytes after : List ℕ) → IsFraction bytes
    → begins is_ascii_digit after ≡ false → step_at fresh (bytes ++ after) ≡ fraction_to after
unfolding number_at
fraction_again fresh bytes after (whole, part, are, digits, more, some) stop =
    let regroup : bytes ++ after ≡ whole ++ 46 ∷ (part ++ after) =
    ap (λ (t : List ℕ). t ++ after) are ∙ append_assoc whole (46 ∷ part) after in
    ap (step_at fresh) regroup
    ∙ (to_number fresh (whole ++ 46 ∷ (part ++ after))
    (fraction_begins whole part after digits more some)
    ∙ rw (fraction_no_hex whole part after digits)
    (fraction_passed whole part after digits more stop))

no_digit : (rest : List ℕ) → begins goes_on_number rest ≡ false → begins is_ascii_digit rest ≡ false
no_digit rest free = free_of is_ascii_digit rest digit_goes_on free

-- digits and an exponent are passed
power_again : (fresh : Bool) (digits exponent rest : List ℕ) → IsDigits digits → IsExponent exponent
    → begins goes_on_number rest ≡ false → step_at fresh (digits ++ (exponent ++ rest))
    ≡ token Decimal rest
power_again fresh digits exponent rest is power free =
    let first = exponent_first exponent rest power in
    let run = run_again is_ascii_digit digits (exponent ++ rest) is.1 first.0 in
    to_number fresh (digits ++ (exponent ++ rest))
    (digits_begin digits (exponent ++ rest) is.0 is.1)
    ∙ (number_by (digits ++ (exponent ++ rest)) digits (exponent ++ rest)
    (no_hex digits (exponent ++ rest) is.1 first.2 is.0) run.0 run.1
    ∙ (number_power digits (exponent ++ rest) rest first.1
    (exponent_again exponent rest power (no_digit rest free)) ∙ decimal_to_again rest free))

pub decimal_again : (fresh : Bool) (bytes rest : List ℕ) → IsDecimal bytes
    → begins goes_on_number rest ≡ false → step_at fresh (bytes ++ rest) ≡ token Decimal rest
decimal_again fresh bytes rest (inl fraction) free =
    fraction_again fresh bytes rest fraction (no_digit rest free)
    ∙ (fraction_alone rest (no_exponent rest
    (free_of is_exponent_letter rest exponent_goes_on free)) ∙ decimal_to_again rest free)
decimal_again fresh bytes rest (inr (before, exponent, are, inl fraction, power)) free =
    ap (λ (t : List ℕ). step_at fresh (t ++ rest)) are
    ∙ (ap (step_at fresh) (append_assoc before exponent rest)
    ∙ (fraction_again fresh before (exponent ++ rest) fraction
    (exponent_first exponent rest power).0
    ∙ (fraction_power (exponent ++ rest) rest
    (exponent_again exponent rest power (no_digit rest free)) ∙ decimal_to_again rest free)))
decimal_again fresh bytes rest (inr (before, exponent, are, inr digits, power)) free =
    ap (λ (t : List ℕ). step_at fresh (t ++ rest)) are
    ∙ (ap (step_at fresh) (append_assoc before exponent rest) ∙ power_again fresh before exponent
    rest digits power free)

-- ---- strings

pub string_token_again : (fresh : Bool) (inside raw rest : List ℕ) → Closed inside raw rest
    → has_escapes raw ≡ true → step_at fresh (quote ∷ inside) ≡ token (String raw) rest
unfolding step_at string_at
string_token_again fresh inside raw rest closed good =
    let end : string_end true inside ≡ Some (has_escapes raw, rest) =
    ap (string_end true) closed.whole ∙ string_again true raw rest closed.inside in
    rw (end, good, inside_is inside raw rest closed.whole) refl
