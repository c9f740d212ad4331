-- Reading a text from left to right: what the lexer computes.
use Rattle.std.specs.Prelude.{ℕ, zero, suc, ◌-◌, ◌==◌, ◌&&◌, ◌||◌, Bool, true, false, nat_le, List, [], ◌∷◌, length, take, drop, Option, Some, None, Result, Ok, Err, if◌then◌else◌}
use Rattle.std.specs.Char.{is_ascii_digit, is_ascii_hexdigit}
use Rattle.edd_syntax.specs.declared.operators.Operator.{Operator}
use Rattle.edd_syntax.specs.declared.operators.Operator.TheVariants as operator
use Rattle.edd_syntax.specs.declared.operators.Comparison.{Comparison}
use Rattle.edd_syntax.specs.declared.operators.Comparison.TheVariants as comparison
use Rattle.edd_syntax.specs.declared.symbols.Symbol.{Symbol}
use Rattle.edd_syntax.specs.declared.symbols.Symbol.TheVariants as symbol
use Rattle.edd_syntax.specs.Names.{begins_name, goes_on_name}
use Rattle.edd_syntax.specs.Words.{backslash, is_escape}
use Rattle.edd_syntax.specs.Token.{Token, Integer, Decimal, String, Sign, word_token}
use Rattle.edd_lexer.specs.Bytes.{is_blank, is_line_end, in_line, goes_on_number, begins, front, behind}
use Rattle.edd_lexer.specs.Numbers.{number, is_hex_letter, is_exponent_letter, is_sign, begins_number}
use Rattle.edd_lexer.specs.Strings.{quote}
use Rattle.edd_lexer.specs.Gaps.{behind_close, makes_mark}
use Rattle.edd_lexer.specs.Tokens.{Lexeme, behind_byte_order_mark}
use Rattle.edd_lexer.specs.Faults.{Fault, BadCharacter, OpenComment, OpenString, BadEscape, BadNumber, Directive}

-- what begins at a place: a token or a gap, with what comes after it, or a fault
pub data Step : Type 0 where
  token : Token → (rest : List ℕ) → Step
  gap : (fresh : Bool) → (rest : List ℕ) → Step
  wrong : Fault → Step

-- ---- words

-- a name or a reserved word of at most 255 bytes
unfoldable pub word_at : List ℕ → Step
word_at here =
    if nat_le (length (front goes_on_name here)) 255 then token
    (word_token (front goes_on_name here)) (behind goes_on_name here)
    else wrong BadCharacter

-- ---- numbers

-- a number with these digits, and what comes after it
unfoldable pub integer_of : (base : ℕ) → (digits rest : List ℕ) → Step
integer_of base digits rest =
    if begins goes_on_number rest then wrong BadNumber
    else if nat_le (number base 0 digits) 4294967295 then token (Integer (number base 0 digits))
    rest
    else wrong BadNumber

-- a `0` with more after it
abbrev pub has_leading_zero : List ℕ → Bool
has_leading_zero [] = false
has_leading_zero (b ∷ []) = false
has_leading_zero (b ∷ c ∷ digits) = b == 48

-- an integer with these decimal digits; a leading zero makes it a bad number
unfoldable pub plain_integer : (digits rest : List ℕ) → Step
plain_integer digits rest = if has_leading_zero digits then wrong BadNumber else integer_of 10
    digits rest

-- `0x` and a hexadecimal digit
abbrev pub is_hex : List ℕ → Bool
is_hex (b ∷ x ∷ here) = b == 48 && (is_hex_letter x && begins is_ascii_hexdigit here)
is_hex _ = false

-- an integer from its hexadecimal digits on, after `0x` or `0X`
unfoldable pub hex_integer : List ℕ → Step
hex_integer here = integer_of 16 (front is_ascii_hexdigit here) (behind is_ascii_hexdigit here)

-- a decimal that ends before `rest`, or a bad number where it can't end there
unfoldable pub decimal_to : (rest : List ℕ) → Step
decimal_to rest = if begins goes_on_number rest then wrong BadNumber else token Decimal rest

-- what comes after one or more digits
abbrev pub digits_end : List ℕ → Option (List ℕ)
digits_end here = if begins is_ascii_digit here then Some (behind is_ascii_digit here) else None

-- what comes after digits with a sign or none before them
abbrev pub signed_end : List ℕ → Option (List ℕ)
signed_end here = if begins is_sign here then digits_end (drop 1 here) else digits_end here

-- what comes after an exponent
unfoldable pub exponent_end : List ℕ → Option (List ℕ)
exponent_end here = if begins is_exponent_letter here then signed_end (drop 1 here) else None

-- a decimal up to the end of an exponent, or what is read where there is none
abbrev pub decimal_or : (other : Step) → Option (List ℕ) → Step
decimal_or other None = other
decimal_or other (Some end) = decimal_to end

-- after a fraction an exponent or none
abbrev pub fraction_to : List ℕ → Step
fraction_to here = decimal_or (decimal_to here) (exponent_end here)

-- a number that begins with these digits, or none
unfoldable pub number_from : (whole here : List ℕ) → Step
number_from whole here =
    if begins (λ b. b == 46) here then fraction_to (behind is_ascii_digit (drop 1 here))
    else decimal_or (plain_integer whole here) (exponent_end here)

-- the number at a place where one begins
unfoldable pub number_at : List ℕ → Step
number_at here = if is_hex here then hex_integer (drop 2 here) else number_from
    (front is_ascii_digit here) (behind is_ascii_digit here)

-- ---- strings

-- what comes after the quote that closes a string, and whether each escape up to there is one
unfoldable mutual
  pub string_end : (good : Bool) → List ℕ → Option (Bool × List ℕ)
  string_end good [] = None
  string_end good (b ∷ rest) =
      elim (b == backslash) [
        | true ↦ escape_end good rest
        | false ↦ elim (b == quote) [ true ↦ Some (good, rest) | false ↦ string_end good rest ]
      ]

  -- the same after a backslash, which is good if the next byte makes it an escape
  pub escape_end : (good : Bool) → List ℕ → Option (Bool × List ℕ)
  escape_end good [] = None
  escape_end good (b ∷ rest) = string_end (good && is_escape b) rest

-- the inside of a string, without the quote that is before `rest`
abbrev pub inside_before : (here rest : List ℕ) → List ℕ
inside_before here rest = take (length here - length rest - 1) here

-- the string up to the end that was found, or the fault of it
abbrev pub string_to : (here : List ℕ) → Option (Bool × List ℕ) → Step
string_to here None = wrong OpenString
string_to here (Some end) = if end.0 then token (String (inside_before here end.1)) end.1 else wrong
    BadEscape

-- a string, from the byte after its opening quote on
unfoldable pub string_at : List ℕ → Step
string_at here = string_to here (string_end true here)

-- ---- gaps

-- a comment up to the end that was found, or the fault where there is none
abbrev pub comment_to : Option (List ℕ) → Step
comment_to None = wrong OpenComment
comment_to (Some rest) = gap false rest

-- a block comment, from the byte after its opening on
unfoldable pub block_comment_at : (body : List ℕ) → Step
block_comment_at body = comment_to (behind_close body)

-- after a `#`: a mark up to the end of its line, or the fault
unfoldable pub hash_at : (fresh : Bool) → List ℕ → Step
hash_at fresh here =
    if fresh then (if makes_mark here then gap false (behind in_line here) else wrong Directive)
    else wrong BadCharacter

-- ---- signs

-- this byte comes next
abbrev pub next_is : (byte : ℕ) → List ℕ → Bool
next_is byte here = begins (λ b. b == byte) here

-- the sign `longer` if this byte is next, else what `other` is
abbrev pub followed : (byte : ℕ) → (longer : Symbol) → (other : Step) → List ℕ → Step
followed byte longer other here = if next_is byte here then token (Sign longer) (drop 1 here) else
    other

-- the operator, or its assignment if `=` is next
abbrev pub assigned : Operator → List ℕ → Step
assigned o here = followed 61 (symbol.CompoundAssign o) (token (Sign (symbol.Operator o)) here) here

-- the shift if this byte is next, or its assignment; else the comparison with `=` after it, or
-- without
abbrev pub shifted : (byte : ℕ) → (shift : Operator) → (with_equals alone : Comparison) → List ℕ
    → Step
shifted byte shift with_equals alone here =
    if next_is byte here then assigned shift (drop 1 here)
    else followed 61 (symbol.Comparison with_equals) (token (Sign (symbol.Comparison alone)) here)
    here

-- the longest operator that begins with the byte `first`, with `here` after that byte
unfoldable pub operator_at : (first : ℕ) → List ℕ → Step
operator_at first here =
    if first == 61 then followed 61 (symbol.Comparison comparison.Equal)
    (token (Sign symbol.Equals) here) here
    else if first == 33 then followed 61 (symbol.Comparison comparison.NotEqual)
    (token (Sign symbol.Exclamation) here) here
    else if first == 43 then followed 43 symbol.Increment (assigned operator.Add here) here
    else if first == 45 then followed 45 symbol.Decrement (assigned operator.Subtract here) here
    else if first == 42 then assigned operator.Multiply here
    else if first == 37 then assigned operator.Remainder here
    else if first == 94 then assigned operator.Xor here
    else if first == 38 then followed 38 symbol.LogicalAnd (assigned operator.And here) here
    else if first == 124 then followed 124 symbol.LogicalOr (assigned operator.Or here) here
    else if first == 60 then shifted 60 operator.ShiftLeft comparison.LessOrEqual comparison.Less
    here
    else if first == 62 then shifted 62 operator.ShiftRight comparison.GreaterOrEqual
    comparison.Greater here
    else wrong BadCharacter

-- the signs that nothing makes longer; of `.` the digits are looked at before
unfoldable pub single_symbol : ℕ → Option Symbol
single_symbol b =
    if b == 59 then Some symbol.Semicolon
    else if b == 44 then Some symbol.Comma
    else if b == 123 then Some symbol.OpenBrace
    else if b == 125 then Some symbol.CloseBrace
    else if b == 40 then Some symbol.OpenParenthesis
    else if b == 41 then Some symbol.CloseParenthesis
    else if b == 91 then Some symbol.OpenBracket
    else if b == 93 then Some symbol.CloseBracket
    else if b == 58 then Some symbol.Colon
    else if b == 46 then Some symbol.Dot
    else if b == 63 then Some symbol.Question
    else if b == 126 then Some symbol.Tilde
    else None

-- the sign that begins with the byte `first`, with `here` after that byte
unfoldable pub symbol_at : (first : ℕ) → List ℕ → Step
symbol_at first here = elim (single_symbol first) [
  | Some s ↦ token (Sign s) here
  | None ↦ operator_at first here
]

-- ---- the whole text

-- a slash: a comment or a sign
unfoldable pub slash_at : List ℕ → Step
slash_at here =
    if next_is 47 here then gap false (behind in_line (drop 1 here))
    else if next_is 42 here then block_comment_at (drop 1 here)
    else assigned operator.Divide here

-- what begins at a place
unfoldable pub step_at : (fresh : Bool) → List ℕ → Step
step_at fresh [] = wrong BadCharacter
step_at fresh (b ∷ here) =
    if is_blank b then gap (fresh || is_line_end b) here
    else if begins_name b then word_at (b ∷ here)
    else if begins_number (b ∷ here) then number_at (b ∷ here)
    else if b == quote then string_at here
    else if b == 47 then slash_at here
    else if b == 35 then hash_at fresh here
    else symbol_at b here

-- the tokens with this one in front; a fault is passed on
abbrev pub with_first : Lexeme → Result (List Lexeme) Fault → Result (List Lexeme) Fault
with_first lexeme (Err fault) = Err fault
with_first lexeme (Ok more) = Ok (lexeme ∷ more)

-- what a step adds to what is read from after it; `left` bytes of `total` begin with it
abbrev pub after_step : (total left : ℕ) → Step → (Bool → List ℕ → Result (List Lexeme) Fault)
    → Result (List Lexeme) Fault
after_step total left (wrong fault) go = Err fault
after_step total left (gap fresh rest) go = go fresh rest
after_step total left (token t rest) go =
    with_first (record { token = t; start = total - left; end = total - length rest })
    (go false rest)

-- the tokens from a place on, or the first fault; the second number bounds how many steps there are
unfoldable pub tokens_at : (total steps : ℕ) → (fresh : Bool) → List ℕ → Result (List Lexeme) Fault
tokens_at total steps fresh [] = Ok []
tokens_at total zero fresh (b ∷ here) = Err BadCharacter
tokens_at total (suc steps) fresh (b ∷ here) =
    after_step total (length (b ∷ here)) (step_at fresh (b ∷ here))
    (λ next rest. tokens_at total steps next rest)

-- the tokens of a text, or its first fault
unfoldable pub tokens_of : List ℕ → Result (List Lexeme) Fault
tokens_of text = tokens_at (length text) (length text) true (behind_byte_order_mark text)
