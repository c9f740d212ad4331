-- What the tokens of a text keep.
use Rattle.std.specs.Prelude.{◌≡◌, ◌+◌, ◌-◌, ◌<◌, ◌≤◌, ℕ, true, List, length}
use Rattle.edd_syntax.specs.Names.{is_name}
use Rattle.edd_syntax.specs.Words.{has_escapes}
use Rattle.edd_syntax.specs.Token.{Token, Reserved, Identifier, Integer, Decimal, String, Sign}
use Rattle.edd_lexer.specs.Tokens.{Lexeme}

-- of a token of this many bytes
abbrev pub IsKept : Token → (size : ℕ) → Type 0
IsKept (Reserved k) size = Unit {0}
IsKept (Identifier name) size = (is_name name ≡ true) × (length name ≡ size)
IsKept (Integer n) size = n ≤ 4294967295
IsKept Decimal size = Unit {0}
-- the quotes are two bytes more
IsKept (String raw) size = (has_escapes raw ≡ true) × (length raw + 2 ≡ size)
IsKept (Sign s) size = Unit {0}

-- a token that is in the text
pub record IsLexeme (text : List ℕ) (lexeme : Lexeme) : Type 0 where
  pub not_empty : lexeme.start < lexeme.end
  pub within : lexeme.end ≤ length text
  pub kept : IsKept lexeme.token (lexeme.end - lexeme.start)
