-- What the lexer's own steps stand for.
use Rattle.std.proofs.Common.{◌≡◌, ◌≢◌, ℕ, ◌+◌, ◌-◌, ◌≤◌, ◌<◌, ◌==◌, ◌||◌, ◌&&◌, Bool, true, false, List, [], ◌∷◌, take, drop, length, refl, sym, ap, ◌∙◌, inl, inr, arith}
use Rattle.std.specs.Prelude.{nat_le, slice_index}
use Rattle.std.specs.Char.{is_ascii_digit}
use Rattle.std.specs.List.{list_all}
use Rattle.std.proofs.lemmas.List.{take_rest}
use Rattle.edd_syntax.specs.Names.{begins_name, goes_on_name}
use Rattle.edd_syntax.specs.declared.symbols.Symbol.TheVariants as symbol
use Rattle.edd_syntax.specs.Token.{Token, Integer, Sign, word_token}
use Rattle.edd_lexer.specs.Bytes.{begins, front, behind, goes_on_number}
use Rattle.edd_lexer.specs.Numbers.{begins_number, digit_value, IsInteger}
use Rattle.edd_lexer.specs.Strings.{quote}
use Rattle.edd_lexer.specs.Faults.{BadCharacter}
use Rattle.edd_lexer.specs.Reading.{token, wrong, word_at, step_at, symbol_at, single_symbol}
use Rattle.edd_lexer.proofs.Runs.{front_is, front_length}
use Rattle.edd_lexer.proofs.Complete.{integer_token_again}
use Rattle.edd_lexer.proofs.ByteTests.{le_again, name_goes_on, or_parts}

le_not : (a b : ℕ) → b < a → nat_le a b ≡ false
le_not a b lt = grind arith

-- a word of more than 255 bytes
pub long_word : (text rest : List ℕ) → rest ≡ behind goes_on_name text
    → 255 < length text - length rest → wrong BadCharacter ≡ word_at text
unfolding word_at
long_word text rest e long =
    let large : nat_le (length (front goes_on_name text)) 255 ≡ false =
    le_not (length (front goes_on_name text)) 255
    (omega (arith, front_length goes_on_name text, ap length e)) in
    rw large refl

-- a shorter one
pub short_word : (text rest : List ℕ) (t : Token) → rest ≡ behind goes_on_name text
    → length text - length rest ≤ 255
    → t ≡ word_token (take (length text - length rest) text) → token t rest ≡ word_at text
unfolding word_at
short_word text rest t e le f =
    let small : nat_le (length (front goes_on_name text)) 255 ≡ true =
    le_again (length (front goes_on_name text)) 255
    (omega (arith, front_length goes_on_name text, ap length e)) in
    let cut : take (length text - length rest) text ≡ front goes_on_name text =
    ap (λ (r : List ℕ). take (length text - length r) text) e ∙ front_is goes_on_name text in
    rw small (ap (λ (x : Token). token x rest) (f ∙ ap word_token cut)
    ∙ ap (λ (r : List ℕ). token (word_token (front goes_on_name text)) r) e)

-- the letter at the front of a word goes on with it
goes_on_behind : (b : ℕ) (rest : List ℕ) → begins_name b ≡ true
    → behind goes_on_name (b ∷ rest) ≡ behind goes_on_name rest
goes_on_behind b rest name = rw (name_goes_on b name) refl

pub behind_word : (here inside rest : List ℕ) → begins begins_name here ≡ true
    → inside ≡ drop 1 here → rest ≡ behind goes_on_name inside → rest ≡ behind goes_on_name here
behind_word [] inside rest name e is = absurd cc
behind_word (b ∷ here) inside rest name e is =
    is ∙ (ap (behind goes_on_name) e ∙ sym (goes_on_behind b here name))

-- ---- a dot alone

dot_is : (b : ℕ) → is_ascii_digit b ≡ false
    → (is_ascii_digit b || b == 46 || b == quote || b == 47 || b == 35) ≡ true
    → b ≢ 34 → b ≢ 47 → b ≢ 35 → b ≡ 46
dot_is b none longer quoted slash hash = grind arith

no_digit : (b : ℕ) (digit : Bool) → b ≡ 46 → (b == 46 && digit) ≡ false → digit ≡ false
no_digit b true e h = grind arith
no_digit b false e h = refl

step_of_dot : (fresh : Bool) (b : ℕ) (rest : List ℕ) → b ≡ 46 → begins is_ascii_digit rest ≡ false
    → step_at fresh (b ∷ rest) ≡ token (Sign symbol.Dot) rest
unfolding step_at symbol_at single_symbol
step_of_dot fresh b rest e n = rw (e, n) refl

-- of the bytes at which more than a sign may begin, only the dot is also a sign
pub lone_dot : (fresh : Bool) (here : List ℕ)
    → begins (λ b. is_ascii_digit b || b == 46 || b == quote || b == 47 || b == 35) here ≡ true
    → begins_number (slice_index here 0 ∷ take (length here - 1) (drop 1 here)) ≡ false
    → slice_index here 0 ≢ 34 → slice_index here 0 ≢ 47 → slice_index here 0 ≢ 35
    → token (Sign symbol.Dot) (take (length here - 1) (drop 1 here)) ≡ step_at fresh here
lone_dot fresh [] longer number quoted slash hash = absurd cc
lone_dot fresh (b ∷ rest) longer number quoted slash hash =
    let all = take_rest (b ∷ rest) 1 in
    let behind = take (length (b ∷ rest) - 1) (drop 1 (b ∷ rest)) in
    let parts = or_parts (is_ascii_digit b) (b == 46 && begins is_ascii_digit behind) number in
    let dot = dot_is b parts.0 longer quoted slash hash in
    let none : begins is_ascii_digit rest ≡ false =
    ap (begins is_ascii_digit) (sym all)
    ∙ no_digit b (begins is_ascii_digit behind) dot parts.1 in
    ap (λ (x : List ℕ). token (Sign symbol.Dot) x) all ∙ sym (step_of_dot fresh b rest dot none)

-- ---- a digit alone

and_zero : (n : ℕ) → n ≡ 0 + n
and_zero n = omega arith

digit_small : (b : ℕ) → is_ascii_digit b ≡ true → digit_value b ≤ 4294967295
digit_small b digit = grind arith

-- a digit to which nothing sticks is an integer
pub lone_digit : (fresh : Bool) (here : List ℕ) → 0 < length here
    → is_ascii_digit (slice_index here 0) ≡ true
    → begins goes_on_number (take (length here - 1) (drop 1 here)) ≡ false
    → token (Integer (digit_value (slice_index here 0))) (take (length here - 1) (drop 1 here))
    ≡ step_at fresh here
lone_digit fresh [] some digit alone = absurd (omega arith)
lone_digit fresh (b ∷ rest) some digit alone =
    let all = take_rest (b ∷ rest) 1 in
    let digits : list_all is_ascii_digit (b ∷ []) ≡ true = rw digit refl in
    let plain : IsInteger (b ∷ []) (digit_value b) = inl (digits, inr refl, and_zero (digit_value b)) in
    let free : begins goes_on_number rest ≡ false = ap (begins goes_on_number) (sym all) ∙ alone in
    ap (λ (x : List ℕ). token (Integer (digit_value b)) x) all
    ∙ sym (integer_token_again fresh (b ∷ []) rest (digit_value b) plain (digit_small b digit)
    free)
