-- What a step reads stands there: words, numbers, strings, comments and marks.
use Rattle.std.proofs.Common.{◌≡◌, ◌≢◌, ℕ, ◌≤◌, Bool, true, false, cond, ◌&&◌, ◌||◌, ◌==◌, List, [], ◌∷◌, ◌++◌, drop, length, Option, Some, None, refl, sym, ap, subst, ◌∙◌, inl, inr, ◌⊎◌, append_assoc, arith}
use Rattle.std.specs.Prelude.{nat_le, nat_lt}
use Rattle.std.specs.Char.{is_ascii_digit, is_ascii_hexdigit}
use Rattle.std.specs.List.{list_all}
use Rattle.edd_syntax.specs.Names.{is_name, begins_name, goes_on_name}
use Rattle.edd_syntax.specs.Token.{String}
use Rattle.edd_lexer.specs.Bytes.{in_line, goes_on_number, begins, front, behind}
use Rattle.edd_lexer.specs.Numbers.{number, IsPlainInteger, IsHexInteger, IsInteger, IsDigits, IsFraction, IsSigned, IsExponent, IsDecimal, is_hex_letter, is_exponent_letter, is_sign, begins_number}
use Rattle.edd_lexer.specs.Strings.{quote, Closed}
use Rattle.edd_lexer.specs.Gaps.{Gap, block_comment, mark, behind_close, makes_mark}
use Rattle.edd_lexer.specs.Tokens.{Stands, word, integer, decimal, string}
use Rattle.edd_lexer.specs.Faults.{BadCharacter, FaultHere, open_comment, open_string, bad_escape, bad_number, directive, bad_character}
use Rattle.edd_lexer.specs.Reading.{Step, token, gap, wrong, word_at, integer_of, has_leading_zero, plain_integer, is_hex, hex_integer, decimal_to, digits_end, signed_end, exponent_end, decimal_or, fraction_to, number_from, number_at, string_end, string_to, string_at, comment_to, block_comment_at, hash_at, next_is}
use Rattle.edd_lexer.proofs.Runs.{both, front_behind, front_each, behind_stops, some_front, no_behind}
use Rattle.edd_lexer.proofs.ByteTests.{and_false, and_both, same_byte, le_is, lt_again, name_no_other, name_no_number, name_goes_on, next_here, first_here}
use Rattle.edd_lexer.proofs.StringEnds.{string_is, none_closed, inside_is}

-- what a step says is so
abbrev pub Right : (fresh : Bool) → (here : List ℕ) → Step → Type 0
Right fresh here (token t rest) = Stands here t rest
Right fresh here (gap next rest) = Gap fresh here next rest
Right fresh here (wrong fault) = FaultHere fresh here fault

pub right_if : (fresh : Bool) (here : List ℕ) (t : Bool) (x y : Step)
    → (t ≡ true → Right fresh here x) → (t ≡ false → Right fresh here y)
    → Right fresh here (cond t x y)
right_if fresh here true x y a b = a refl
right_if fresh here false x y a b = b refl

-- ---- words

name_front : (b : ℕ) (here : List ℕ) → begins_name b ≡ true
    → nat_le (length (front goes_on_name (b ∷ here))) 255 ≡ true
    → is_name (front goes_on_name (b ∷ here)) ≡ true
name_front b here start short =
    let run : front goes_on_name (b ∷ here) ≡ b ∷ front goes_on_name here =
    rw (name_goes_on b start) refl in
    let le : length (b ∷ front goes_on_name here) ≤ 255 =
    le_is (length (b ∷ front goes_on_name here)) 255
    (ap (λ (t : List ℕ). nat_le (length t) 255) (sym run) ∙ short) in
    let lt : nat_lt (length (front goes_on_name here)) 255 ≡ true =
    lt_again (length (front goes_on_name here)) 255 (omega arith) in
    let name : is_name (b ∷ front goes_on_name here) ≡ true =
    and_both (begins_name b && list_all goes_on_name (front goes_on_name here)) _
    (and_both (begins_name b) _ start (front_each goes_on_name here)) lt in
    ap is_name run ∙ name

-- a word that is too long is a bad character
long_word : (fresh : Bool) (b : ℕ) (here : List ℕ) → begins_name b ≡ true
    → FaultHere fresh (b ∷ here) BadCharacter
long_word fresh b here start =
    let other = name_no_other b start in
    let number = name_no_number b start in
    bad_character (λ e. cc) (rw other.slash refl) other.quote (rw (number.0, number.1) refl)
    (rw other.hash (and_false fresh))

pub word_right : (fresh : Bool) (b : ℕ) (here : List ℕ) → begins_name b ≡ true
    → Right fresh (b ∷ here) (word_at (b ∷ here))
unfolding word_at
word_right fresh b here start =
    right_if fresh (b ∷ here) (nat_le (length (front goes_on_name (b ∷ here))) 255) _ _
    (λ short. word (front goes_on_name (b ∷ here)) (sym (front_behind goes_on_name (b ∷ here)))
    (name_front b here start short) (behind_stops goes_on_name (b ∷ here)) refl)
    (λ long. long_word fresh b here start)

-- ---- numbers

integer_right : (fresh : Bool) (here : List ℕ) (base : ℕ) (digits rest bytes : List ℕ)
    → begins_number here ≡ true → here ≡ bytes ++ rest
    → IsInteger bytes (number base 0 digits) → Right fresh here (integer_of base digits rest)
unfolding integer_of
integer_right fresh here base digits rest bytes begin whole is =
    right_if fresh here (begins goes_on_number rest) _ _
    (λ _. bad_number begin)
    (λ free. right_if fresh here (nat_le (number base 0 digits) 4294967295) _ _
    (λ fits. integer bytes (number base 0 digits) whole is
    (le_is (number base 0 digits) 4294967295 fits) free refl)
    (λ _. bad_number begin))

hex_right : (fresh : Bool) (here : List ℕ) → begins_number here ≡ true → is_hex here ≡ true
    → Right fresh here (hex_integer (drop 2 here))
unfolding hex_integer
hex_right fresh [] begin h = absurd cc
hex_right fresh (b ∷ []) begin h = absurd cc
hex_right fresh (b ∷ x ∷ here) begin h =
    let first = both (b == 48) _ h in
    let second = both (is_hex_letter x) (begins is_ascii_hexdigit here) first.1 in
    let digits = front is_ascii_hexdigit here in
    let spelled : IsHexInteger (b ∷ x ∷ digits) (number 16 0 digits) = (
      x,
      digits,
      ap (λ (c : ℕ). c ∷ x ∷ digits) (same_byte b 48 first.0),
      second.0,
      some_front is_ascii_hexdigit here second.1,
      front_each is_ascii_hexdigit here,
      refl,
    ) in
    integer_right fresh (b ∷ x ∷ here) 16 digits (behind is_ascii_hexdigit here) (b ∷ x ∷ digits)
    begin
    (ap (λ (t : List ℕ). b ∷ x ∷ t) (sym (front_behind is_ascii_hexdigit here))) (inr spelled)

-- no leading zero
leads : (b : ℕ) (digits : List ℕ) → has_leading_zero (b ∷ digits) ≡ false → (b ≢ 48) ⊎ (digits ≡ [])
leads b [] e = inr refl
leads b (c ∷ digits) e =
    inl (λ z. let zero_is : (b == 48) ≡ true = rw z refl in let f : ◌≡◌ {A = Bool} true false = sym
    zero_is ∙ e in cc)

plain_right : (fresh : Bool) (here digits rest : List ℕ) → begins_number here ≡ true
    → here ≡ digits ++ rest → IsDigits digits → Right fresh here (plain_integer digits rest)
unfolding plain_integer
plain_right fresh here [] rest begin whole is = absurd (is.0 refl)
plain_right fresh here (b ∷ digits) rest begin whole is =
    right_if fresh here (has_leading_zero (b ∷ digits)) _ _
    (λ _. bad_number begin)
    (λ e. let spelled : IsPlainInteger (b ∷ digits) (number 10 0 (b ∷ digits)) =
    (is.1, leads b digits e, refl) in
    integer_right fresh here 10 (b ∷ digits) rest (b ∷ digits) begin whole (inl spelled))

decimal_right : (fresh : Bool) (here bytes rest : List ℕ) → begins_number here ≡ true
    → here ≡ bytes ++ rest → IsDecimal bytes → Right fresh here (decimal_to rest)
unfolding decimal_to
decimal_right fresh here bytes rest begin whole is =
    right_if fresh here (begins goes_on_number rest) _ _ (λ _. bad_number begin)
    (λ free. decimal bytes whole is free refl)

-- a run that was found, with what comes after it
pub record Front (P : List ℕ → Type 0) (here rest : List ℕ) : Type 0 where
  pub bytes : List ℕ
  pub whole : here ≡ bytes ++ rest
  pub holds : P bytes

FrontOf : (List ℕ → Type 0) → List ℕ → Option (List ℕ) → Type 0
FrontOf P here None = Unit {0}
FrontOf P here (Some rest) = Front P here rest

digits_front : (here : List ℕ) → FrontOf IsDigits here (digits_end here)
unfolding FrontOf
digits_front here = go (begins is_ascii_digit here) refl
  where
    go : (t : Bool) → begins is_ascii_digit here ≡ t
        → FrontOf IsDigits here (cond t (Some (behind is_ascii_digit here)) None)
    go false e = tt
    go true e = record {
      bytes = front is_ascii_digit here;
      whole = sym (front_behind is_ascii_digit here);
      holds = (some_front is_ascii_digit here e, front_each is_ascii_digit here);
    }

behind_sign : (here : List ℕ) (end : Option (List ℕ)) → begins is_sign here ≡ true
    → FrontOf IsDigits (drop 1 here) end → FrontOf IsSigned here end
unfolding FrontOf
behind_sign here None e found = tt
behind_sign here (Some rest) e found =
    let first = first_here is_sign here e in
    record {
      bytes = first.0 ∷ found.bytes;
      whole = first.1 ∙ ap (λ (t : List ℕ). first.0 ∷ t) found.whole;
      holds = inr (first.0, found.bytes, refl, first.2, found.holds);
    }

no_sign : (here : List ℕ) (end : Option (List ℕ)) → FrontOf IsDigits here end
    → FrontOf IsSigned here end
unfolding FrontOf
no_sign here None found = tt
no_sign here (Some rest) found =
    record { bytes = found.bytes; whole = found.whole; holds = inl found.holds }

signed_front : (here : List ℕ) → FrontOf IsSigned here (signed_end here)
unfolding FrontOf
signed_front here = go (begins is_sign here) refl
  where
    go : (t : Bool) → begins is_sign here ≡ t
        → FrontOf IsSigned here (cond t (digits_end (drop 1 here)) (digits_end here))
    go true e = behind_sign here (digits_end (drop 1 here)) e (digits_front (drop 1 here))
    go false e = no_sign here (digits_end here) (digits_front here)

behind_letter : (here : List ℕ) (end : Option (List ℕ)) → begins is_exponent_letter here ≡ true
    → FrontOf IsSigned (drop 1 here) end → FrontOf IsExponent here end
unfolding FrontOf
behind_letter here None e found = tt
behind_letter here (Some rest) e found =
    let first = first_here is_exponent_letter here e in
    record {
      bytes = first.0 ∷ found.bytes;
      whole = first.1 ∙ ap (λ (t : List ℕ). first.0 ∷ t) found.whole;
      holds = (first.0, found.bytes, refl, first.2, found.holds);
    }

exponent_front : (here : List ℕ) → FrontOf IsExponent here (exponent_end here)
unfolding exponent_end FrontOf
exponent_front here = go (begins is_exponent_letter here) refl
  where
    go : (t : Bool) → begins is_exponent_letter here ≡ t
        → FrontOf IsExponent here (cond t (signed_end (drop 1 here)) None)
    go true e = behind_letter here (signed_end (drop 1 here)) e (signed_front (drop 1 here))
    go false e = tt

-- after a fraction an exponent, or none
fraction_right : (fresh : Bool) (here bytes rest : List ℕ) → begins_number here ≡ true
    → here ≡ bytes ++ rest → IsFraction bytes → Right fresh here (fraction_to rest)
unfolding FrontOf
fraction_right fresh here bytes rest begin whole is = go (exponent_end rest) (exponent_front rest)
  where
    go : (end : Option (List ℕ)) → FrontOf IsExponent rest end
        → Right fresh here (decimal_or (decimal_to rest) end)
    go None found = decimal_right fresh here bytes rest begin whole (inl is)
    go (Some end) found =
        decimal_right fresh here (bytes ++ found.bytes) end begin
        (whole ∙ (ap (λ (t : List ℕ). bytes ++ t) found.whole
        ∙ sym (append_assoc bytes found.bytes end)))
        (inr (bytes, found.bytes, refl, inl is, found.holds))

-- after digits an exponent, or none
whole_right : (fresh : Bool) (here digits rest : List ℕ) → begins_number here ≡ true
    → here ≡ digits ++ rest → IsDigits digits
    → Right fresh here (decimal_or (plain_integer digits rest) (exponent_end rest))
unfolding FrontOf
whole_right fresh here digits rest begin whole is = go (exponent_end rest) (exponent_front rest)
  where
    go : (end : Option (List ℕ)) → FrontOf IsExponent rest end
        → Right fresh here (decimal_or (plain_integer digits rest) end)
    go None found = plain_right fresh here digits rest begin whole is
    go (Some end) found =
        decimal_right fresh here (digits ++ found.bytes) end begin
        (whole ∙ (ap (λ (t : List ℕ). digits ++ t) found.whole
        ∙ sym (append_assoc digits found.bytes end)))
        (inr (digits, found.bytes, refl, inr is, found.holds))

number_from_right : (fresh : Bool) (here whole rest : List ℕ) → begins_number here ≡ true
    → here ≡ whole ++ rest → list_all is_ascii_digit whole ≡ true
    → (whole ≢ []) ⊎ ((next_is 46 rest ≡ true) × (begins is_ascii_digit (drop 1 rest) ≡ true))
    → Right fresh here (number_from whole rest)
unfolding number_from
number_from_right fresh here whole rest begin split digits some = go (next_is 46 rest) refl some
  where
    part_is : (whole ≢ []) ⊎ ((next_is 46 rest ≡ true)
        × (begins is_ascii_digit (drop 1 rest) ≡ true))
        → (whole ≢ []) ⊎ (front is_ascii_digit (drop 1 rest) ≢ [])
    part_is (inl w) = inl w
    part_is (inr p) = inr (some_front is_ascii_digit (drop 1 rest) p.1)

    go : (t : Bool) → next_is 46 rest ≡ t
        → (whole ≢ []) ⊎ ((next_is 46 rest ≡ true) × (begins is_ascii_digit (drop 1 rest) ≡ true))
        → Right fresh here (cond t (fraction_to (behind is_ascii_digit (drop 1 rest)))
        (decimal_or (plain_integer whole rest) (exponent_end rest)))
    go true e enough =
        let tail = drop 1 rest in
        let part = front is_ascii_digit tail in
        let after = behind is_ascii_digit tail in
        let cut : rest ≡ 46 ∷ (part ++ after) = next_here 46 rest e ∙ ap (λ (t : List ℕ). 46 ∷ t)
        (sym (front_behind is_ascii_digit tail)) in
        fraction_right fresh here (whole ++ 46 ∷ part) after begin
        (split ∙ (ap (λ (t : List ℕ). whole ++ t) cut ∙ sym (append_assoc whole (46 ∷ part) after)))
        (whole, part, refl, digits, front_each is_ascii_digit tail, part_is enough)
    go false e (inl w) = whole_right fresh here whole rest begin split (w, digits)
    go false e (inr p) = absurd (let f : ◌≡◌ {A = Bool} false true = sym e ∙ p.0 in cc)

pub number_right : (fresh : Bool) (here : List ℕ) → begins_number here ≡ true
    → Right fresh here (number_at here)
unfolding number_at
number_right fresh [] begin = absurd cc
number_right fresh (b ∷ here) begin =
    right_if fresh (b ∷ here) (is_hex (b ∷ here)) _ _
    (λ h. hex_right fresh (b ∷ here) begin h)
    (λ _. number_from_right fresh (b ∷ here) (front is_ascii_digit (b ∷ here))
    (behind is_ascii_digit (b ∷ here)) begin
    (sym (front_behind is_ascii_digit (b ∷ here))) (front_each is_ascii_digit (b ∷ here))
    (some (is_ascii_digit b) refl begin))
  where
    some : (t : Bool) → is_ascii_digit b ≡ t
        → (is_ascii_digit b || ((b == 46) && begins is_ascii_digit here)) ≡ true
        → (front is_ascii_digit (b ∷ here) ≢ [])
        ⊎ ((next_is 46 (behind is_ascii_digit (b ∷ here)) ≡ true)
        × (begins is_ascii_digit (drop 1 (behind is_ascii_digit (b ∷ here))) ≡ true))
    some true e n = inl (some_front is_ascii_digit (b ∷ here) e)
    some false e n =
        let dotted = both (b == 46) (begins is_ascii_digit here)
        (ap (λ (t : Bool). t || ((b == 46) && begins is_ascii_digit here)) (sym e) ∙ n) in
        let stays = no_behind is_ascii_digit (b ∷ here) e in
        inr (
          ap (next_is 46) stays ∙ dotted.0,
          ap (λ (t : List ℕ). begins is_ascii_digit (drop 1 t))
              stays ∙ dotted.1,
        )

-- ---- strings, comments and marks

pub string_right : (fresh : Bool) (b : ℕ) (here : List ℕ) → (b == quote) ≡ true
    → Right fresh (b ∷ here) (string_at here)
unfolding string_at
string_right fresh b here e = go (string_end true here) refl
  where
    first : b ∷ here ≡ quote ∷ here
    first = ap (λ (c : ℕ). c ∷ here) (same_byte b quote e)

    go : (end : Option (Bool × List ℕ)) → string_end true here ≡ end
        → Right fresh (b ∷ here) (string_to here end)
    go None f = open_string here first (λ raw rest. none_closed true here raw rest f)
    go (Some end) f =
        let found = string_is true here end f in
        let closed : Closed here found.raw end.1 =
        record { whole = found.whole; inside = found.is_inside } in
        right_if fresh (b ∷ here) end.0 _ _
        (λ good. string here found.raw first closed (sym found.escapes_are ∙ good)
        (ap String (inside_is here found.raw end.1 found.whole)))
        (λ bad. bad_escape here found.raw end.1 first closed (sym found.escapes_are ∙ bad))

pub block_comment_right : (fresh : Bool) (here body : List ℕ) → here ≡ 47 ∷ 42 ∷ body
    → Right fresh here (block_comment_at body)
unfolding block_comment_at
block_comment_right fresh here body whole = go (behind_close body) refl
  where
    go : (end : Option (List ℕ)) → behind_close body ≡ end → Right fresh here (comment_to end)
    go None e = open_comment (rw whole refl)
    go (Some rest) e = let P : List ℕ → Type 0 = λ t. Gap fresh t false rest in subst P (sym whole)
        (block_comment e)

pub hash_right : (fresh : Bool) (b : ℕ) (here : List ℕ) → (b == 35) ≡ true
    → Right fresh (b ∷ here) (hash_at fresh here)
unfolding hash_at
hash_right true b here e =
    right_if true (b ∷ here) (makes_mark here) _ _
    (λ m. let P : ℕ → Type 0 = λ c. Gap true (c ∷ here) false (behind in_line here) in subst P
    (sym (same_byte b 35 e)) (mark m))
    (λ _. directive e)
hash_right false b here e =
    let P : ℕ → Type 0 = λ c. FaultHere false (c ∷ here) BadCharacter in
    subst P (sym (same_byte b 35 e)) (bad_character (λ f. cc) refl refl refl refl)
