-- What the lexer's tokens, refusals and answers stand for.
use Rattle.std.specs.Prelude.{ℕ, ◌-◌, List, length, slice_range, map, Option, Some, None, IfSome, Result, Ok, Err, Vec}
use Rattle.std.specs.declared.alloc.Global.{Global}
use Rattle.edd_syntax.specs.Token as pure
use Rattle.edd_lexer.specs.declared.token.TokenKind.{TokenKind}
use Rattle.edd_lexer.specs.declared.token.TokenKind.TheVariants as kind
use Rattle.edd_lexer.specs.declared.token.Token.{Token}
use Rattle.edd_lexer.specs.declared.fault.LexFault.{LexFault}
use Rattle.edd_lexer.specs.declared.fault.LexFault.TheVariants as refused
use Rattle.edd_lexer.specs.Tokens.{Lexeme, AreTokens}
use Rattle.edd_lexer.specs.Faults.{Fault, LexicalFault, TooLong, NotUtf8, BadCharacter, OpenComment, OpenString, BadEscape, BadNumber, Directive}

-- a token of this kind, by its bytes: a name by all of them, a string by those between its quotes
abbrev pub token_of : TokenKind → List ℕ → pure.Token
token_of (kind.Keyword k) bytes = pure.Reserved k
token_of kind.Name bytes = pure.Identifier bytes
token_of (kind.Integer n) bytes = pure.Integer n
token_of kind.Decimal bytes = pure.Decimal
token_of kind.String bytes = pure.String (slice_range bytes 1 (length bytes - 1))
token_of (kind.Symbol s) bytes = pure.Sign s

-- a token of this text, without its line
abbrev pub lexeme_of : List ℕ → Token → Lexeme
lexeme_of text t = record {
  token = token_of t.kind (slice_range text t.start t.end);
  start = t.start;
  end = t.end;
}

-- the fault of a refusal, without its line; out of memory is none
abbrev pub fault_of : LexFault → Option Fault
fault_of refused.TooLong = Some TooLong
fault_of (refused.NotUtf8 line) = Some NotUtf8
fault_of (refused.BadCharacter line) = Some BadCharacter
fault_of (refused.OpenComment line) = Some OpenComment
fault_of (refused.OpenString line) = Some OpenString
fault_of (refused.BadEscape line) = Some BadEscape
fault_of (refused.BadNumber line) = Some BadNumber
fault_of (refused.Directive line) = Some Directive
fault_of refused.Memory = None

-- the answer is the text's tokens or its fault, unless memory ran out
abbrev pub Answers : List ℕ → Result (Vec Token Global) LexFault → Type 0
Answers text (Ok list) = AreTokens text (map (lexeme_of text) list.items)
Answers text (Err e) = IfSome (fault_of e) (λ fault. LexicalFault text fault)
