-- When two texts have the same tokens.
use Rattle.std.specs.Prelude.{◌≡◌, ℕ, true, false, List, [], ◌∷◌, map, slice_range}
use Rattle.edd_syntax.specs.Token as pure
use Rattle.edd_lexer.specs.declared.token.Token.{Token}
use Rattle.edd_lexer.specs.Bytes.{is_blank}
use Rattle.edd_lexer.specs.Tokens.{Lexeme, AreTokens, behind_byte_order_mark}
use Rattle.edd_lexer.specs.Views.{lexeme_of}

-- what a token of a text is, and the bytes that it has there
abbrev pub spelled : List ℕ → Lexeme → pure.Token × List ℕ
spelled text lexeme = (lexeme.token, slice_range text lexeme.start lexeme.end)

-- The two texts have the same tokens in the same order, each with the same bytes. Only what is
-- between tokens may differ.
pub record SameTokens (text other : List ℕ) : Type 0 where
  pub lexemes : List Lexeme
  pub others : List Lexeme
  pub of_text : AreTokens text lexemes
  pub of_other : AreTokens other others
  pub same : map (spelled text) lexemes ≡ map (spelled other) others

-- the bytes of a text that are no blanks
abbrev pub without_blanks : List ℕ → List ℕ
without_blanks [] = []
without_blanks (b ∷ rest) = elim (is_blank b) [
  | true ↦ without_blanks rest
  | false ↦ b ∷ without_blanks rest
]

-- The two texts have the same bytes in the same order but for blanks, so also the same comments and
-- marks. A byte order mark at the very beginning counts as a blank.
abbrev pub HaveSameBytes : (text other : List ℕ) → Type 0
HaveSameBytes text other =
    without_blanks (behind_byte_order_mark text) ≡ without_blanks (behind_byte_order_mark other)

-- what a token of the lexer is, and its bytes
abbrev pub spelling : List ℕ → Token → pure.Token × List ℕ
spelling text token = spelled text (lexeme_of text token)

-- the same of all of them
abbrev pub spellings : List ℕ → List Token → List (pure.Token × List ℕ)
spellings text tokens = map (spelled text) (map (lexeme_of text) tokens)
