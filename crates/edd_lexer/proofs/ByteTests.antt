-- Tests on single bytes, and choices between steps.
use Rattle.std.proofs.Common.{◌≡◌, ◌≢◌, ℕ, ◌≤◌, ◌<◌, Bool, true, false, not, ◌&&◌, ◌||◌, ◌==◌, List, [], ◌∷◌, drop, refl, ap, arith}
use Rattle.std.specs.Prelude.{nat_le, nat_lt}
use Rattle.std.specs.Char.{is_ascii_digit, is_ascii_hexdigit}
use Rattle.edd_syntax.specs.Names.{begins_name, goes_on_name}
use Rattle.edd_lexer.specs.Bytes.{is_blank, goes_on_number, begins}
use Rattle.edd_lexer.specs.Numbers.{is_hex_letter, is_exponent_letter, is_sign}
use Rattle.edd_lexer.specs.Reading.{next_is}

pub and_false : (a : Bool) → (a && false) ≡ false
and_false true = refl
and_false false = refl

pub and_true : (a : Bool) → (a && true) ≡ a
and_true true = refl
and_true false = refl

pub and_both : (a b : Bool) → a ≡ true → b ≡ true → (a && b) ≡ true
and_both a b e f = rw (e, f) refl

pub or_parts : (a b : Bool) → (a || b) ≡ false → (a ≡ false) × (b ≡ false)
or_parts true b e = absurd cc
or_parts false b e = (refl, e)

pub not_true : (a : Bool) → not a ≡ true → a ≡ false
not_true true e = absurd cc
not_true false e = refl

pub same_byte : (b c : ℕ) → (b == c) ≡ true → b ≡ c
same_byte b c e = grind arith

pub other_byte : (b c : ℕ) → b ≢ c → (b == c) ≡ false
other_byte b c n = grind arith

pub le_is : (a b : ℕ) → nat_le a b ≡ true → a ≤ b
le_is a b e = grind arith

pub le_again : (a b : ℕ) → a ≤ b → nat_le a b ≡ true
le_again a b e = grind arith

pub lt_is : (a b : ℕ) → nat_lt a b ≡ true → a < b
lt_is a b e = grind arith

pub lt_again : (a b : ℕ) → a < b → nat_lt a b ≡ true
lt_again a b e = grind arith

-- a byte of one kind is none of another
pub record NoOther (b : ℕ) : Type 0 where
  pub blank : is_blank b ≡ false
  pub slash : (b == 47) ≡ false
  pub quote : (b == 34) ≡ false
  pub hash : (b == 35) ≡ false

pub name_no_other : (b : ℕ) → begins_name b ≡ true → NoOther b
name_no_other b e = record {
  blank = grind arith;
  slash = grind arith;
  quote = grind arith;
  hash = grind arith;
}

pub name_no_number : (b : ℕ) → begins_name b ≡ true → (is_ascii_digit b ≡ false)
    × ((b == 46) ≡ false)
name_no_number b e = (grind arith, grind arith)

pub digit_no_other : (b : ℕ) → is_ascii_digit b ≡ true → NoOther b
digit_no_other b e = record {
  blank = grind arith;
  slash = grind arith;
  quote = grind arith;
  hash = grind arith;
}

pub digit_no_name : (b : ℕ) → is_ascii_digit b ≡ true → (begins_name b ≡ false)
    × ((b == 46) ≡ false)
digit_no_name b e = (grind arith, grind arith)

pub name_goes_on : (b : ℕ) → begins_name b ≡ true → goes_on_name b ≡ true
name_goes_on b e = grind arith

pub digit_goes_on : (b : ℕ) → is_ascii_digit b ≡ true → goes_on_number b ≡ true
digit_goes_on b e = grind arith

pub hex_goes_on : (b : ℕ) → is_ascii_hexdigit b ≡ true → goes_on_number b ≡ true
hex_goes_on b e = grind arith

pub exponent_goes_on : (b : ℕ) → is_exponent_letter b ≡ true → goes_on_number b ≡ true
exponent_goes_on b e = grind arith

pub dot_goes_on : (b : ℕ) → (b == 46) ≡ true → goes_on_number b ≡ true
dot_goes_on b e = grind arith

pub hex_letter_goes_on : (b : ℕ) → is_hex_letter b ≡ true → goes_on_number b ≡ true
hex_letter_goes_on b e = grind arith

pub digit_no_hex_letter : (b : ℕ) → is_ascii_digit b ≡ true → is_hex_letter b ≡ false
digit_no_hex_letter b e = grind arith

pub exponent_no_hex_letter : (b : ℕ) → is_exponent_letter b ≡ true → is_hex_letter b ≡ false
exponent_no_hex_letter b e = grind arith

pub exponent_no_digit : (b : ℕ) → is_exponent_letter b ≡ true → (is_ascii_digit b ≡ false)
    × ((b == 46) ≡ false)
exponent_no_digit b e = (grind arith, grind arith)

pub digit_no_sign : (b : ℕ) → is_ascii_digit b ≡ true → is_sign b ≡ false
digit_no_sign b e = grind arith

-- ---- the byte at the front

pub next_here : (byte : ℕ) (here : List ℕ) → next_is byte here ≡ true → here ≡ byte ∷ drop 1 here
next_here byte [] e = absurd cc
next_here byte (b ∷ here) e = ap (λ (c : ℕ). c ∷ here) (same_byte b byte e)

pub first_here : (test : ℕ → Bool) (here : List ℕ) → begins test here ≡ true
    → (b : ℕ) × (here ≡ b ∷ drop 1 here) × (test b ≡ true)
first_here test [] e = absurd cc
first_here test (b ∷ here) e = (b, refl, e)

pub neither : (p q : ℕ → Bool) (here : List ℕ) → begins p here ≡ false → begins q here ≡ false
    → begins (λ b. p b || q b) here ≡ false
neither p q [] e f = refl
neither p q (b ∷ here) e f = rw (e, f) refl

pub neither_parts : (p q : ℕ → Bool) (here : List ℕ) → begins (λ b. p b || q b) here ≡ false
    → (begins p here ≡ false) × (begins q here ≡ false)
neither_parts p q [] e = (refl, refl)
neither_parts p q (b ∷ here) e = or_parts (p b) (q b) e

pub never : (here : List ℕ) → begins (λ b. false) here ≡ false
never [] = refl
never (b ∷ here) = refl
