-- The first fault of a text.
pub use Rattle.edd_lexer.specs.declared.fault.Fault.{Fault}
pub use Rattle.edd_lexer.specs.declared.fault.Fault.TheVariants.{
  TooLong,
  NotUtf8,
  BadCharacter,
  OpenComment,
  OpenString,
  BadEscape,
  BadNumber,
  Directive,
}
use Rattle.std.specs.Prelude.{◌≡◌, ◌≢◌, ℕ, ◌==◌, ◌<◌, ◌≤◌, Bool, true, false, ◌&&◌, List, [], ◌∷◌, length, IsUtf8}
use Rattle.edd_syntax.specs.Words.{has_escapes}
use Rattle.edd_syntax.specs.Token.{Token}
use Rattle.edd_lexer.specs.Bytes.{begins}
use Rattle.edd_lexer.specs.Numbers.{begins_number}
use Rattle.edd_lexer.specs.Strings.{Closed, quote}
use Rattle.edd_lexer.specs.Gaps.{Gap}
use Rattle.edd_lexer.specs.Tokens.{Stands, behind_byte_order_mark, text_limit}

-- ---- what is at a place where nothing begins

-- `/*` is here
abbrev pub begins_comment : List ℕ → Bool
begins_comment [] = false
begins_comment (b ∷ rest) = b == 47 && begins (λ c. c == 42) rest

-- a quote is here
abbrev pub begins_string : List ℕ → Bool
begins_string here = begins (λ b. b == quote) here

-- a `#` before which only blanks are on its line
abbrev pub begins_directive : Bool → List ℕ → Bool
begins_directive fresh here = fresh && begins (λ b. b == 35) here

-- If nothing begins here, this is the fault. `fresh`: only blanks are before it on its line.
pub data FaultHere (fresh : Bool) (here : List ℕ) : Fault → Type 0 where
  -- `/*` without an end
  open_comment : begins_comment here ≡ true → FaultHere fresh here OpenComment
  -- a quote after which no other closes the string
  open_string : (inside : List ℕ) → here ≡ quote ∷ inside
      → ((raw rest : List ℕ) → ¬ (Closed inside raw rest)) → FaultHere fresh here OpenString
  -- a string with an end, and with a backslash that begins none of the escapes
  bad_escape : (inside raw rest : List ℕ) → here ≡ quote ∷ inside → Closed inside raw rest
      → has_escapes raw ≡ false → FaultHere fresh here BadEscape
  -- an integer that is too large, or a number with something directly after it
  bad_number : begins_number here ≡ true → FaultHere fresh here BadNumber
  directive : begins_directive fresh here ≡ true → FaultHere fresh here Directive
  bad_character : here ≢ [] → begins_comment here ≡ false → begins_string here ≡ false
      → begins_number here ≡ false
      → begins_directive fresh here ≡ false → FaultHere fresh here BadCharacter

-- neither a token nor a blank, a comment or a mark begins here
pub record NothingBegins (fresh : Bool) (here : List ℕ) : Type 0 where
  pub no_token : (t : Token) (rest : List ℕ) → ¬ (Stands here t rest)
  pub no_gap : (next : Bool) (rest : List ℕ) → ¬ (Gap fresh here next rest)

-- From `here` on this is the fault at the first place that tokens and gaps reach and where nothing
-- begins.
pub data FaultFrom : (fresh : Bool) → (here : List ℕ) → Fault → Type 0 where
  at_once : {fresh : Bool} {here : List ℕ} {fault : Fault} → NothingBegins fresh here
      → FaultHere fresh here fault → FaultFrom fresh here fault
  behind_gap : {fresh next : Bool} {here rest : List ℕ} {fault : Fault} → Gap fresh here next rest
      → FaultFrom next rest fault → FaultFrom fresh here fault
  behind_token : {fresh : Bool} {here rest : List ℕ} {t : Token} {fault : Fault}
      → Stands here t rest → FaultFrom false rest fault → FaultFrom fresh here fault

-- this is the lexical fault of the text
pub data LexicalFault (text : List ℕ) : Fault → Type 0 where
  too_long : text_limit < length text → LexicalFault text TooLong
  not_utf8 : length text ≤ text_limit → ¬ (IsUtf8 text) → LexicalFault text NotUtf8
  at_a_place : {fault : Fault} → length text ≤ text_limit → IsUtf8 text
      → FaultFrom true (behind_byte_order_mark text) fault → LexicalFault text fault
