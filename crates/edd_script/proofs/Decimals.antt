-- What `parse` reads is the decimal number.
use Rattle.std.proofs.Common.{◌≡◌, ℕ, ◌-◌, ◌^◌, ◌<◌, ◌≤◌, true, false, ◌&&◌, List, length, drop, Some, None, Result, Ok, Err, ℤ, pos, refl, ap, arith, inl, inr}
use Rattle.std.specs.Prelude.{◌==◌, neg_ℤ, option_map, nat_lt, nat_le, slice_index, OkIff}
use Rattle.std.specs.Result.{result_ok}
use Rattle.std.specs.Int.{Width}
use Rattle.std.specs.Str.{all_ascii_digits}
use Rattle.std.specs.Str.Parse.{digits_value, starts_with_minus, ParsesSigned}
use Rattle.std.proofs.lemmas.Bool.{cases_Bool, and_parts, lt-ltb, le-leb, ltb-true, leb-true, eqb-true, eqb-false}
use Rattle.std.proofs.lemmas.Str.Parse.{IsNumeralModel, numerals_by_value, tells_all_ascii_digits, parse_signed_minus, parse_signed_plain}
use mir.Val.{hbits}
use Rattle.edd_script.specs.Numbers.{decimal_of, digits_up_to}

own : IsNumeralModel (λ digits. all_ascii_digits digits ≡ true) (digits_value 10)
own = numerals_by_value _ tells_all_ascii_digits

abbrev IsUpTo : (most : ℕ) → List ℕ → Type 0
IsUpTo most digits = (all_ascii_digits digits ≡ true) × (0 < length digits)
    × (digits_value 10 digits ≤ most)

passes : (most : ℕ) (digits : List ℕ) → IsUpTo most digits
    → digits_up_to most digits ≡ Some (digits_value 10 digits)
passes most digits fits = rw (fits.0, lt-ltb 0 (length digits) fits.1, le-leb (digits_value 10 digits) most fits.2) refl

fails : (most : ℕ) (digits : List ℕ) → (IsUpTo most digits → ⊥) → digits_up_to most digits ≡ None
fails most digits not = elim (cases_Bool (nat_lt 0 (length digits) && (all_ascii_digits digits
    && nat_le (digits_value 10 digits) most))) [
      | inl all ↦
          let parts = and_parts (nat_lt 0 (length digits)) _ all in
          let more = and_parts (all_ascii_digits digits) _ parts.1 in
          absurd (not (more.0, ltb-true 0 (length digits) parts.0, leb-true (digits_value 10 digits) most more.1))
      | inr other ↦ rw other refl
    ]

digits_given : {E : Type 0} (most : ℕ) (digits : List ℕ) (f : ℕ → ℤ) (r : Result ℤ E)
    → OkIff r (IsUpTo most digits) (f (digits_value 10 digits))
    → result_ok r ≡ option_map f (digits_up_to most digits)
digits_given most digits f (Ok z) given = rw (passes most digits given.0) (ap Some given.1)
digits_given most digits f (Err e) given = rw (fails most digits given) refl

below : {E : Type 0} (limit : ℕ) (digits : List ℕ) (z : ℤ) (r : Result ℤ E) → 0 < limit
    → OkIff r ((all_ascii_digits digits ≡ true) × (0 < length digits)
    × (digits_value 10 digits < limit)) z → OkIff r (IsUpTo (limit - 1) digits) z
below limit digits z (Ok x) some given = ((given.0.0, given.0.1, omega (arith, given.0.2)), given.1)
below limit digits z (Err e) some given = λ fits. given (fits.0, fits.1, omega (arith, fits.2))

pub parses : {E : Type 0} (w : Width) (bits : ℕ) (word : List ℕ) (r : Result ℤ E) → bits - 1 ≡ hbits w
    → 0 < 2 ^ hbits w → ParsesSigned w 10 word r → (slice_index word 0 == 43) ≡ false
    → result_ok r ≡ decimal_of bits word
parses w bits word r same some parsed plain = elim (cases_Bool (starts_with_minus word)) [
  | inl minus ↦
      let given = parse_signed_minus own w word r parsed (eqb-true (slice_index word 0) 45 minus) in
      rw (minus, same) (digits_given (2 ^ hbits w) (drop 1 word) (λ n. neg_ℤ (pos n)) r given)
  | inr other ↦
      let given = parse_signed_plain own w word r parsed (eqb-false (slice_index word 0) 43 plain)
      (eqb-false (slice_index word 0) 45 other) in
      rw (other, same) (digits_given (2 ^ hbits w - 1) word pos r
      (below (2 ^ hbits w) word (pos (digits_value 10 word)) r some given))
]
