-- The tokens of a text.
use Rattle.std.specs.Prelude.{ℕ, ◌-◌, ◌≤◌, List, length, map, slice_range, IsUtf8}
use Rattle.edd_syntax.specs.Token.{Token, Reserved, Identifier, Integer, Decimal, String, Sign}
use Rattle.edd_lexer.specs.declared.token.Token as code
use Rattle.edd_lexer.specs.declared.token.TokenKind.{TokenKind}
use Rattle.edd_lexer.specs.declared.token.TokenKind.TheVariants as kind
use Rattle.edd_lexer.specs.Views.{token_of}

-- a token of this text, as the grammar sees it
abbrev pub token_in : List ℕ → code.Token → Token
token_in text t = token_of t.kind (slice_range text t.start t.end)

-- all tokens of this text, as the grammar sees them
abbrev pub tokens_in : List ℕ → List code.Token → List Token
tokens_in text tokens = map (token_in text) tokens

-- the bytes of a name and of a string are text
abbrev pub HasText : Token → Type 0
HasText (Reserved k) = Unit {0}
HasText (Identifier name) = IsUtf8 name
HasText (Integer n) = Unit {0}
HasText Decimal = Unit {0}
HasText (String raw) = IsUtf8 raw
HasText (Sign s) = Unit {0}

-- a string has its quotes
abbrev pub HasQuotes : TokenKind → ℕ → Type 0
HasQuotes kind.String size = 2 ≤ size
HasQuotes _ size = Unit {0}

-- a token that is in this text
pub record IsReadable (text : List ℕ) (t : code.Token) : Type 0 where
  pub forward : t.start ≤ t.end
  pub within : t.end ≤ length text
  pub text_is : HasText (token_in text t)
  pub quotes : HasQuotes t.kind (t.end - t.start)
