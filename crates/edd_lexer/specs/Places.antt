-- On which line a place of a text is.
use Rattle.std.specs.Prelude.{◌≡◌, ℕ, ◌+◌, ⊤, Bool, true, false, List, drop, filter, length, take}
use Rattle.std.specs.Str.{IsValidUpTo}
use Rattle.edd_syntax.specs.Token as pure
use Rattle.edd_lexer.specs.declared.fault.LexFault.{LexFault}
use Rattle.edd_lexer.specs.declared.fault.LexFault.TheVariants as refused
use Rattle.edd_lexer.specs.declared.lexer.Step.{Step}
use Rattle.edd_lexer.specs.declared.lexer.Step.TheVariants as code
use Rattle.edd_lexer.specs.declared.token.Token.{Token}
use Rattle.edd_lexer.specs.declared.token.TokenKind.{TokenKind}
use Rattle.edd_lexer.specs.declared.token.TokenKind.TheVariants as kind
use Rattle.edd_lexer.specs.Bytes.{is_line_end}
use Rattle.edd_lexer.specs.Faults.{BadCharacter, BadEscape, BadNumber, Directive, Fault, FaultHere, NotUtf8, NothingBegins, OpenComment, OpenString, TooLong}
use Rattle.edd_lexer.specs.Gaps.{Gap}
use Rattle.edd_lexer.specs.Tokens.{Stands, behind_byte_order_mark}

-- how many lines end in these bytes
abbrev pub lines_in : List ℕ → ℕ
lines_in bytes = length (filter is_line_end bytes)

-- the line of the byte with this number: 1 and the line feeds before it
abbrev pub line_of_byte : (text : List ℕ) → (number : ℕ) → ℕ
line_of_byte text number = 1 + lines_in (take number text)

-- the token has the line on which it begins
abbrev pub IsOnItsLine : (text : List ℕ) → Token → Type 0
IsOnItsLine text t = t.line ≡ line_of_byte text t.start

-- Tokens and gaps lead from the first place, where the flag says whether only blanks are before it on its
-- line, to the second one.
pub data Reaches (start : Bool) (first : List ℕ) : (fresh : Bool) → (here : List ℕ) → Type 0 where
  at_start : Reaches start first start first
  behind_gap : {fresh next : Bool} {here rest : List ℕ} → Reaches start first fresh here
      → Gap fresh here next rest → Reaches start first next rest
  behind_token : {fresh : Bool} {here rest : List ℕ} {t : pure.Token} → Reaches start first fresh here
      → Stands here t rest → Reaches start first false rest

-- Reading a text stops here for this fault, on this line: nothing begins here.
pub record StopsOn (text : List ℕ) (fault : Fault) (line : ℕ) : Type 0 where
  pub place : ℕ
  pub fresh : Bool
  pub reached : Reaches true (behind_byte_order_mark text) fresh (drop place text)
  pub nothing : NothingBegins fresh (drop place text)
  pub here : FaultHere fresh (drop place text) fault
  pub on_line : line ≡ line_of_byte text place

-- the refusal has the line on which its fault is; of a text that isn't UTF-8 that of the first byte
-- that is none
abbrev pub IsOnFaultLine : (text : List ℕ) → LexFault → Type 0
IsOnFaultLine text refused.TooLong = ⊤
IsOnFaultLine text refused.Memory = ⊤
IsOnFaultLine text (refused.NotUtf8 line) = (number : ℕ) × IsValidUpTo text number
    × (line ≡ line_of_byte text number)
IsOnFaultLine text (refused.BadCharacter line) = StopsOn text BadCharacter line
IsOnFaultLine text (refused.OpenComment line) = StopsOn text OpenComment line
IsOnFaultLine text (refused.OpenString line) = StopsOn text OpenString line
IsOnFaultLine text (refused.BadEscape line) = StopsOn text BadEscape line
IsOnFaultLine text (refused.BadNumber line) = StopsOn text BadNumber line
IsOnFaultLine text (refused.Directive line) = StopsOn text Directive line

-- ---- inside

-- the refusal for this fault, with a line where it has one
abbrev pub refused_on : Fault → (line : ℕ) → LexFault
refused_on TooLong line = refused.TooLong
refused_on NotUtf8 line = refused.NotUtf8 line
refused_on BadCharacter line = refused.BadCharacter line
refused_on OpenComment line = refused.OpenComment line
refused_on OpenString line = refused.OpenString line
refused_on BadEscape line = refused.BadEscape line
refused_on BadNumber line = refused.BadNumber line
refused_on Directive line = refused.Directive line

-- so many lines end from here up to `rest`
abbrev pub Ends : (here : List ℕ) → (lines : ℕ) → (rest : List ℕ) → Type 0
Ends here lines rest = lines + lines_in rest ≡ lines_in here

-- what a step says of lines is so
abbrev pub Counts : (here : List ℕ) → Step → Type 0
Counts here (code.Token k lines rest) = Ends here lines rest.now
Counts here (code.Gap fresh lines rest) = Ends here lines rest.now
Counts here (code.Wrong fault) = ⊤

-- a string ends so many lines, and any other token none
abbrev pub EndsToken : TokenKind → (here : List ℕ) → (lines : ℕ) → (rest : List ℕ) → Type 0
EndsToken kind.String here lines rest = Ends here lines rest
EndsToken _ here lines rest = lines ≡ 0

-- the same of a step, and of a gap the lines that end in it
abbrev pub CountsOrNone : (here : List ℕ) → Step → Type 0
CountsOrNone here (code.Token k lines rest) = EndsToken k here lines rest.now
CountsOrNone here (code.Gap fresh lines rest) = Ends here lines rest.now
CountsOrNone here (code.Wrong fault) = ⊤
