-- How many lines end in what is read.
use Rattle.std.proofs.Common.{◌≡◌, ◌≢◌, ◌⊎◌, inl, inr, ℕ, suc, ◌+◌, ◌-◌, ◌≤◌, ◌<◌, Bool, true, false, cond, ◌==◌, List, [], ◌∷◌, ◌++◌, filter, take, drop, length, drop-drop, refl, sym, ap, subst, ◌∙◌, arith}
use Rattle.std.specs.Prelude.{bytes_eq, slice_index, ◌%◌}
use Rattle.std.specs.List.{AllByRecursion, list_all}
use Rattle.std.proofs.lemmas.List.{take-append-drop, take_all}
use Rattle.std.proofs.lemmas.Slice.Eq.{bytes_eq-Decides}
use Rattle.std.specs.Char.{is_ascii_digit, is_ascii_hexdigit}
use native.Mathlib.Nat.{mod-eq_of_lt}
use Rattle.edd_syntax.specs.declared.operators.Comparison.{Comparison}
use Rattle.edd_syntax.specs.declared.operators.Comparison.TheVariants as comparison
use Rattle.edd_syntax.specs.declared.operators.Operator.{Operator}
use Rattle.edd_syntax.specs.declared.operators.Operator.TheVariants as operator
use Rattle.edd_syntax.specs.declared.symbols.Symbol.{Symbol}
use Rattle.edd_syntax.specs.declared.symbols.Symbol.TheVariants as symbol
use Rattle.edd_syntax.specs.Names.{begins_name, goes_on_name, is_name}
use Rattle.edd_syntax.specs.Token.{Token, String, word_token}
use Rattle.edd_syntax.specs.Token as pure
use Rattle.edd_lexer.specs.declared.lexer.Step.{Step}
use Rattle.edd_lexer.specs.declared.lexer.Step.TheVariants as code
use Rattle.edd_lexer.specs.declared.token.Token.{Token as Read}
use Rattle.edd_lexer.specs.declared.token.TokenKind.{TokenKind}
use Rattle.edd_lexer.specs.declared.token.TokenKind.TheVariants as kind
use Rattle.edd_lexer.specs.Bytes.{begins, behind, in_line, is_blank, is_line_end}
use Rattle.edd_lexer.specs.Numbers.{IsDecimal, IsDigits, IsExponent, IsFraction, IsInteger, IsSigned, is_exponent_letter, is_hex_letter, is_sign}
use Rattle.edd_lexer.specs.Parts.{step_of}
use Rattle.edd_lexer.specs.Places.{Counts, CountsOrNone, Ends, EndsToken, IsOnItsLine, lines_in}
use Rattle.edd_lexer.specs.Reading as reading
use Rattle.edd_lexer.specs.Reading.{step_at}
use Rattle.edd_lexer.specs.Signs.{comparison_bytes, operator_bytes, symbol_bytes}
use Rattle.edd_lexer.specs.Tokens.{Stands, behind_byte_order_mark, decimal, integer, sign, string, word}
use Rattle.edd_lexer.proofs.ByteTests.{not_true, same_byte}
use Rattle.edd_lexer.proofs.Runs.{both}
use Rattle.edd_lexer.proofs.Sound.{Right}
use Rattle.edd_lexer.proofs.SoundSigns.{step_right}

-- ---- one byte

pub one_more : (b : ℕ) (bytes : List ℕ) → is_line_end b ≡ true
    → lines_in (b ∷ bytes) ≡ suc (lines_in bytes)
one_more b bytes is =
    ap (λ (t : Bool). length (cond t (b ∷ filter is_line_end bytes) (filter is_line_end bytes))) is

pub no_more : (b : ℕ) (bytes : List ℕ) → is_line_end b ≡ false
    → lines_in (b ∷ bytes) ≡ lines_in bytes
no_more b bytes is =
    ap (λ (t : Bool). length (cond t (b ∷ filter is_line_end bytes) (filter is_line_end bytes))) is

-- ---- joined

pub lines_joined : (xs ys : List ℕ) → lines_in (xs ++ ys) ≡ lines_in xs + lines_in ys
lines_joined [] ys = omega arith
lines_joined (x ∷ xs) ys = by (is_line_end x) refl (lines_joined xs ys)
  where
    by : (t : Bool) → is_line_end x ≡ t → lines_in (xs ++ ys) ≡ lines_in xs + lines_in ys
        → lines_in (x ∷ xs ++ ys) ≡ lines_in (x ∷ xs) + lines_in ys
    by true is rest =
        let front = one_more x xs is in
        one_more x (xs ++ ys) is ∙ (let whole = rest in omega (arith, front, whole))
    by false is rest =
        let front = no_more x xs is in
        no_more x (xs ++ ys) is ∙ (let whole = rest in omega (arith, front, whole))

pub few_lines : (xs : List ℕ) → lines_in xs ≤ length xs
few_lines [] = omega arith
few_lines (x ∷ xs) = by (is_line_end x) refl (few_lines xs)
  where
    by : (t : Bool) → is_line_end x ≡ t → lines_in xs ≤ length xs → lines_in (x ∷ xs) ≤ suc (length xs)
    by true is rest = let front = one_more x xs is in omega (arith, front, rest)
    by false is rest = let front = no_more x xs is in omega (arith, front, rest)

-- ---- bytes that end no line

-- the test lets no line feed through
abbrev pub IsWithin : (test : ℕ → Bool) → Type 0
IsWithin test = (b : ℕ) → test b ≡ true → is_line_end b ≡ false

pub within : (test : ℕ → Bool) → test 10 ≡ false → IsWithin test
within test none b passes = by (is_line_end b) refl
  where
    by : (t : Bool) → is_line_end b ≡ t → is_line_end b ≡ false
    by true end =
        let clash : true ≡ false = sym passes ∙ ap test (same_byte b 10 end) ∙ none in absurd cc
    by false end = end

pub none_in : (test : ℕ → Bool) (xs : List ℕ) → IsWithin test → list_all test xs ≡ true
    → lines_in xs ≡ 0
none_in test [] within all = refl
none_in test (x ∷ xs) within all =
    let parts = both (test x) (list_all test xs) all in
    no_more x xs (within x parts.0) ∙ none_in test xs within parts.1

pub none_before : (test : ℕ → Bool) (here : List ℕ) → IsWithin test
    → lines_in (behind test here) ≡ lines_in here
none_before test [] within = refl
none_before test (b ∷ rest) within = by (test b) refl (none_before test rest within)
  where
    by : (t : Bool) → test b ≡ t → lines_in (behind test rest) ≡ lines_in rest
        → lines_in (cond t (behind test rest) (b ∷ rest)) ≡ lines_in (b ∷ rest)
    by true is later = later ∙ sym (no_more b rest (within b is))
    by false is later = refl

-- a byte that isn't a line feed at the front
pub first_ends_none : (test : ℕ → Bool) (here : List ℕ) → IsWithin test → begins test here ≡ true
    → lines_in (drop 1 here) ≡ lines_in here
first_ends_none test [] within is = absurd cc
first_ends_none test (b ∷ rest) within is = sym (no_more b rest (within b is))

-- a byte that is no blank at the front
pub no_blank_first : (here : List ℕ) → begins is_blank here ≡ false
    → lines_in (drop 1 here) ≡ lines_in here
no_blank_first [] is = refl
no_blank_first (b ∷ rest) is = by (is_line_end b) refl
  where
    by : (t : Bool) → is_line_end b ≡ t → lines_in rest ≡ lines_in (b ∷ rest)
    by true end = let ten : b ≡ 10 = same_byte b 10 end in
        let clash : true ≡ false = ap is_blank (sym ten) ∙ is in absurd cc
    by false end = sym (no_more b rest end)

-- ---- turns of loops

-- one byte is taken
pub line_taken : (body : List ℕ) (b : ℕ) (tail : List ℕ) (lines after : ℕ)
    → Ends body lines (b ∷ tail) → after + lines_in [] ≡ lines + lines_in (b ∷ [])
    → Ends body after tail
line_taken body b tail lines after so one =
    let both = lines_joined (b ∷ []) tail in omega (arith, so, one, both)

-- the two bytes that close a comment end no line
pub close_here : (body : List ℕ) (tail : List ℕ) (lines : ℕ) → Ends body lines (42 ∷ tail)
    → begins (λ c. c == 47) tail ≡ true → Ends body lines (drop 1 tail)
close_here body tail lines so slash =
    let first = first_ends_none (λ c. c == 47) tail (within (λ c. c == 47) refl) slash in
    let star = no_more 42 tail refl in omega (arith, so, first, star)

-- a text within the limit has fewer lines than would fit
pub few_ended : (body : List ℕ) (lines : ℕ) (rest : List ℕ) → Ends body lines rest
    → length body ≤ 1048576 → lines < 4294967295
few_ended body lines rest so small = let few = few_lines body in omega (arith, so, small, few)

-- what is behind the first byte
pub tail_is : (text : List ℕ) → take (length text - 1) (drop 1 text) ≡ drop 1 text
tail_is [] = refl
tail_is (b ∷ rest) = take_all (length (b ∷ rest) - 1) rest (omega arith)

-- `#` and the rest of the line
pub mark_ends : (text tail rest : List ℕ) → begins is_blank text ≡ false → tail ≡ drop 1 text
    → rest ≡ behind in_line tail → Ends text 0 rest
mark_ends text tail rest first is line =
    let later : lines_in rest ≡ lines_in (drop 1 text) =
    ap lines_in line ∙ none_before in_line tail (λ b passes. not_true (is_line_end b) passes)
    ∙ ap lines_in is in
    let one = no_blank_first text first in omega (arith, later, one)

-- `//` and the rest of the line
pub line_comment_ends : (text tail more rest : List ℕ) → begins is_blank text ≡ false
    → tail ≡ drop 1 text → begins (λ b. b == 47) tail ≡ true → more ≡ drop 1 tail
    → rest ≡ behind in_line more → Ends text 0 rest
line_comment_ends text tail more rest first is slash so line =
    let later : lines_in rest ≡ lines_in (drop 1 tail) =
    ap lines_in line ∙ none_before in_line more (λ b passes. not_true (is_line_end b) passes)
    ∙ ap lines_in so in
    let two = first_ends_none (λ b. b == 47) tail (within (λ b. b == 47) refl) slash in
    let same : lines_in tail ≡ lines_in (drop 1 text) = ap lines_in is in
    let one = no_blank_first text first in omega (arith, later, one, two, same)

-- `/*` and what is behind
pub comment_ends : (text : List ℕ) (lines : ℕ) (rest : List ℕ) → begins is_blank text ≡ false
    → begins (λ b. b == 42) (drop 1 text) ≡ true → Ends (drop 2 text) lines rest
    → Ends text lines rest
comment_ends text lines rest first star so =
    let one = no_blank_first text first in
    let two = first_ends_none (λ b. b == 42) (drop 1 text) (within (λ b. b == 42) refl) star in
    let both : lines_in (drop 1 (drop 1 text)) ≡ lines_in (drop 2 text) =
    ap lines_in (drop-drop 1 1 text) in omega (arith, so, one, two, both)

-- a quote and what is behind
pub string_ends : (text : List ℕ) (lines : ℕ) (rest : List ℕ) → begins is_blank text ≡ false
    → Ends (drop 1 text) lines rest → Ends text lines rest
string_ends text lines rest first so = let one = no_blank_first text first in omega (arith, so, one)

-- a token that is no string
pub other_ends : (k : TokenKind) (here rest : List ℕ) → k ≢ kind.String → EndsToken k here 0 rest
other_ends kind.String here rest other = absurd (other refl)
other_ends _ here rest other = refl

-- ---- the loop over a text

-- the lines so far, and those that are still to come
pub line_on : (text here rest : List ℕ) (line lines : ℕ) → line + lines_in here ≡ 1 + lines_in text
    → Ends here lines rest → length text ≤ 1048576
    → (line + lines) % 4294967296 + lines_in rest ≡ 1 + lines_in text
line_on text here rest line lines so ends small =
    let few = few_lines text in
    let lt : line + lines < 4294967296 = omega (arith, so, ends, small, few) in
    rw (mod-eq_of_lt lt) (omega (arith, so, ends))

pub blank_line : (text here : List ℕ) (line after : ℕ) → 0 < length here
    → line + lines_in here ≡ 1 + lines_in text
    → after + lines_in [] ≡ line + lines_in (slice_index here 0 ∷ [])
    → after + lines_in (drop 1 here) ≡ 1 + lines_in text
blank_line text [] line after some so one = absurd (omega arith)
blank_line text (b ∷ rest) line after some so one =
    let both = lines_joined (b ∷ []) rest in omega (arith, so, one, both)

pub few_so_far : (text here : List ℕ) (line : ℕ) → line + lines_in here ≡ 1 + lines_in text
    → length text ≤ 1048576 → line < 4294967295
few_so_far text here line so small = let few = few_lines text in omega (arith, so, small, few)

-- one more is on its line
pub all_placed : (text : List ℕ) (list : List Read) (t : Read) → AllByRecursion (IsOnItsLine text) list
    → IsOnItsLine text t → AllByRecursion (IsOnItsLine text) (list ++ t ∷ [])
all_placed text [] t all one = (one, tt)
all_placed text (x ∷ rest) t all one = (all.0, all_placed text rest t all.1 one)

-- ---- tokens

joined_none : (xs ys : List ℕ) → lines_in xs ≡ 0 → lines_in ys ≡ 0 → lines_in (xs ++ ys) ≡ 0
joined_none xs ys front later = let both = lines_joined xs ys in omega (arith, both, front, later)

name_lines : (bytes : List ℕ) → is_name bytes ≡ true → lines_in bytes ≡ 0
name_lines [] is = refl
name_lines (b ∷ xs) is =
    let parts = both (begins_name b) (list_all goes_on_name xs) (both _ _ is).0 in
    no_more b xs (within begins_name refl b parts.0)
    ∙ none_in goes_on_name xs (within goes_on_name refl) parts.1

digit_lines : (xs : List ℕ) → list_all is_ascii_digit xs ≡ true → lines_in xs ≡ 0
digit_lines xs all = none_in is_ascii_digit xs (within is_ascii_digit refl) all

integer_lines : (bytes : List ℕ) (n : ℕ) → IsInteger bytes n → lines_in bytes ≡ 0
integer_lines [] n (inl is) = absurd is
integer_lines (b ∷ digits) n (inl is) = digit_lines (b ∷ digits) is.0
integer_lines bytes n (inr is) =
    ap lines_in is.2
    ∙ no_more 48 (is.0 ∷ is.1) refl
    ∙ no_more is.0 is.1 (within is_hex_letter refl is.0 is.3)
    ∙ none_in is_ascii_hexdigit is.1 (within is_ascii_hexdigit refl) is.5

fraction_lines : (bytes : List ℕ) → IsFraction bytes → lines_in bytes ≡ 0
fraction_lines bytes is =
    ap lines_in is.2
    ∙ joined_none is.0 (46 ∷ is.1) (digit_lines is.0 is.3)
    (no_more 46 is.1 refl ∙ digit_lines is.1 is.4)

signed_lines : (bytes : List ℕ) → IsSigned bytes → lines_in bytes ≡ 0
signed_lines bytes (inl is) = digit_lines bytes is.1
signed_lines bytes (inr is) =
    ap lines_in is.2
    ∙ no_more is.0 is.1 (within is_sign refl is.0 is.3)
    ∙ digit_lines is.1 is.4.1

exponent_lines : (bytes : List ℕ) → IsExponent bytes → lines_in bytes ≡ 0
exponent_lines bytes is =
    ap lines_in is.2
    ∙ no_more is.0 is.1 (within is_exponent_letter refl is.0 is.3)
    ∙ signed_lines is.1 is.4

before_lines : (bytes : List ℕ) → IsFraction bytes ⊎ IsDigits bytes → lines_in bytes ≡ 0
before_lines bytes (inl is) = fraction_lines bytes is
before_lines bytes (inr is) = digit_lines bytes is.1

decimal_lines : (bytes : List ℕ) → IsDecimal bytes → lines_in bytes ≡ 0
decimal_lines bytes (inl is) = fraction_lines bytes is
decimal_lines bytes (inr is) =
    ap lines_in is.2
    ∙ joined_none is.0 is.1 (before_lines is.0 is.3) (exponent_lines is.1 is.4)

operator_lines : (o : Operator) → lines_in (operator_bytes o) ≡ 0
operator_lines operator.Add = refl
operator_lines operator.Subtract = refl
operator_lines operator.Multiply = refl
operator_lines operator.Divide = refl
operator_lines operator.Remainder = refl
operator_lines operator.ShiftLeft = refl
operator_lines operator.ShiftRight = refl
operator_lines operator.And = refl
operator_lines operator.Or = refl
operator_lines operator.Xor = refl

comparison_lines : (c : Comparison) → lines_in (comparison_bytes c) ≡ 0
comparison_lines comparison.Equal = refl
comparison_lines comparison.NotEqual = refl
comparison_lines comparison.Less = refl
comparison_lines comparison.LessOrEqual = refl
comparison_lines comparison.Greater = refl
comparison_lines comparison.GreaterOrEqual = refl

sign_lines : (s : Symbol) → lines_in (symbol_bytes s) ≡ 0
sign_lines (symbol.Operator o) = operator_lines o
sign_lines (symbol.Comparison c) = comparison_lines c
sign_lines (symbol.CompoundAssign o) = joined_none (operator_bytes o) (61 ∷ []) (operator_lines o) refl
sign_lines symbol.OpenBrace = refl
sign_lines symbol.CloseBrace = refl
sign_lines symbol.OpenParenthesis = refl
sign_lines symbol.CloseParenthesis = refl
sign_lines symbol.OpenBracket = refl
sign_lines symbol.CloseBracket = refl
sign_lines symbol.Semicolon = refl
sign_lines symbol.Comma = refl
sign_lines symbol.Colon = refl
sign_lines symbol.Dot = refl
sign_lines symbol.Question = refl
sign_lines symbol.Exclamation = refl
sign_lines symbol.Tilde = refl
sign_lines symbol.Equals = refl
sign_lines symbol.LogicalAnd = refl
sign_lines symbol.LogicalOr = refl
sign_lines symbol.Increment = refl
sign_lines symbol.Decrement = refl

-- the token is a string
abbrev is_string : Token → Bool
is_string (pure.String raw) = true
is_string _ = false

behind_none : (here bytes rest : List ℕ) → here ≡ bytes ++ rest → lines_in bytes ≡ 0
    → lines_in rest ≡ lines_in here
behind_none here bytes rest whole none =
    let all = lines_joined bytes rest in
    let same : lines_in rest ≡ lines_in (bytes ++ rest) = omega (arith, all, none) in
    same ∙ ap lines_in (sym whole)

stands_none : (here : List ℕ) (t : Token) (rest : List ℕ) → Stands here t rest
    → is_string t ≡ false → lines_in rest ≡ lines_in here
stands_none here t rest (word bytes whole is ends same) other =
    behind_none here bytes rest whole (name_lines bytes is)
stands_none here t rest (integer bytes n whole is small ends same) other =
    behind_none here bytes rest whole (integer_lines bytes n is)
stands_none here t rest (decimal bytes whole is ends same) other =
    behind_none here bytes rest whole (decimal_lines bytes is)
stands_none here t rest (string inside raw opens closed good same) other =
    let clash : true ≡ false = ap is_string (sym same) ∙ other in absurd cc
stands_none here t rest (sign s whole ends same) other =
    behind_none here (symbol_bytes s) rest whole (sign_lines s)

pub right_at : (fresh : Bool) (here : List ℕ) (t : Token) (rest : List ℕ)
    → reading.token t rest ≡ step_at fresh here → Stands here t rest
unfolding step_at
right_at fresh [] t rest is = absurd cc
right_at fresh (b ∷ more) t rest is = subst (Right fresh (b ∷ more)) (sym is) (step_right fresh b more)

none_ends : (here : List ℕ) (lines : ℕ) (rest : List ℕ) → lines ≡ 0
    → lines_in rest ≡ lines_in here → Ends here lines rest
none_ends here lines rest none same = omega (arith, none, same)

pub counted : (fresh : Bool) (here : List ℕ) (s : Step) → step_of here s ≡ step_at fresh here
    → CountsOrNone here s → Counts here s
counted fresh here (code.Gap next lines rest) is counts = counts
counted fresh here (code.Wrong fault) is counts = tt
counted fresh here (code.Token kind.String lines rest) is counts = counts
counted fresh here (code.Token (kind.Keyword k) lines rest) is none =
    none_ends here lines rest.now none
    (stands_none here _ rest.now (right_at fresh here _ rest.now is) refl)
counted fresh here (code.Token kind.Name lines rest) is none =
    none_ends here lines rest.now none
    (stands_none here _ rest.now (right_at fresh here _ rest.now is) refl)
counted fresh here (code.Token (kind.Integer n) lines rest) is none =
    none_ends here lines rest.now none
    (stands_none here _ rest.now (right_at fresh here _ rest.now is) refl)
counted fresh here (code.Token kind.Decimal lines rest) is none =
    none_ends here lines rest.now none
    (stands_none here _ rest.now (right_at fresh here _ rest.now is) refl)
counted fresh here (code.Token (kind.Symbol s) lines rest) is none =
    none_ends here lines rest.now none
    (stands_none here _ rest.now (right_at fresh here _ rest.now is) refl)

-- ---- a text

-- the mark of a byte order ends no line
pub start_lines : (text : List ℕ) → lines_in (behind_byte_order_mark text) ≡ lines_in text
start_lines text = by (bytes_eq (take 3 text) (239 ∷ 187 ∷ 191 ∷ [])) refl
  where
    by : (t : Bool) → bytes_eq (take 3 text) (239 ∷ 187 ∷ 191 ∷ []) ≡ t
        → lines_in (cond t (drop 3 text) text) ≡ lines_in text
    by true is =
        let mark : take 3 text ≡ 239 ∷ 187 ∷ 191 ∷ [] =
        (bytes_eq-Decides (take 3 text) (239 ∷ 187 ∷ 191 ∷ [])).0 is in
        behind_none text (239 ∷ 187 ∷ 191 ∷ []) (drop 3 text)
        (sym (take-append-drop 3 text) ∙ ap (λ (front : List ℕ). front ++ drop 3 text) mark) refl
    by false is = refl

-- the line of a place, where the lines before it were counted
pub line_is : (text rest : List ℕ) (line : ℕ) → rest ≡ drop (length text - length rest) text
    → line + lines_in rest ≡ 1 + lines_in text
    → line ≡ 1 + lines_in (take (length text - length rest) text)
line_is text rest line is counted =
    let k : ℕ = length text - length rest in
    let whole : lines_in text ≡ lines_in (take k text) + lines_in (drop k text) =
    ap lines_in (sym (take-append-drop k text)) ∙ lines_joined (take k text) (drop k text) in
    let same : lines_in rest ≡ lines_in (drop k text) = ap lines_in is in
    omega (arith, whole, same, counted)
