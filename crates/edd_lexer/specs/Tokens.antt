-- The tokens of a text, as a relation on the whole of it.
use Rattle.std.specs.Prelude.{◌≡◌, ℕ, ◌+◌, ◌≤◌, Bool, true, false, List, [], ◌∷◌, ◌++◌, length, take, drop, IsUtf8, bytes_eq, if◌then◌else◌}
use Rattle.edd_syntax.specs.declared.symbols.Symbol.{Symbol}
use Rattle.edd_syntax.specs.Names.{is_name, goes_on_name}
use Rattle.edd_syntax.specs.Words.{has_escapes}
use Rattle.edd_syntax.specs.Token.{Token, word_token}
use Rattle.edd_syntax.specs.Token as token
use Rattle.edd_lexer.specs.Bytes.{begins, goes_on_number}
use Rattle.edd_lexer.specs.Numbers.{IsInteger, IsDecimal}
use Rattle.edd_lexer.specs.Strings.{Closed, quote}
use Rattle.edd_lexer.specs.Signs.{symbol_bytes, lengthens}
use Rattle.edd_lexer.specs.Gaps.{Gap}

-- From `here` up to `rest` is this token, and none that is longer: what would make it longer
-- doesn't follow.
pub data Stands (here : List ℕ) (t : Token) (rest : List ℕ) : Type 0 where
  word : (bytes : List ℕ) → here ≡ bytes ++ rest → is_name bytes ≡ true → begins goes_on_name rest
      ≡ false → t ≡ word_token bytes → Stands here t rest
  integer : (bytes : List ℕ) (n : ℕ) → here ≡ bytes ++ rest → IsInteger bytes n → n ≤ 4294967295
      → begins goes_on_number rest ≡ false → t ≡ token.Integer n → Stands here t rest
  decimal : (bytes : List ℕ) → here ≡ bytes ++ rest → IsDecimal bytes → begins goes_on_number rest
      ≡ false → t ≡ token.Decimal → Stands here t rest
  string : (inside raw : List ℕ) → here ≡ quote ∷ inside → Closed inside raw rest
      → has_escapes raw ≡ true → t ≡ token.String raw → Stands here t rest
  sign : (s : Symbol) → here ≡ symbol_bytes s ++ rest → begins (lengthens s) rest ≡ false
      → t ≡ token.Sign s → Stands here t rest

-- a token, and the bytes of the text that it takes: from `start` up to `end`
pub record Lexeme : Type 0 where
  pub token : Token
  pub start : ℕ
  pub end : ℕ

-- From `here` on, which is the end of a text of `total` bytes, these are the tokens.
-- `fresh` says whether only blanks are before `here` on its line.
pub data TokensFrom (total : ℕ) : (fresh : Bool) → (here : List ℕ) → List Lexeme → Type 0 where
  nothing : {fresh : Bool} → TokensFrom total fresh [] []
  behind_gap : {fresh next : Bool} {here rest : List ℕ} {more : List Lexeme}
      → Gap fresh here next rest
      → TokensFrom total next rest more → TokensFrom total fresh here more
  behind_token : {fresh : Bool} {here rest : List ℕ} {lexeme : Lexeme} {more : List Lexeme}
      → Stands here lexeme.token rest
      → lexeme.start + length here ≡ total → lexeme.end + length rest ≡ total
      → TokensFrom total false rest more → TokensFrom total fresh here (lexeme ∷ more)

-- a byte order mark at the very beginning counts as a blank
abbrev pub behind_byte_order_mark : List ℕ → List ℕ
behind_byte_order_mark text = if bytes_eq (take 3 text) (239 ∷ 187 ∷ 191 ∷ []) then drop 3 text else
    text

-- in bytes
abbrev pub text_limit : ℕ
text_limit = 1048576

-- these are the tokens of the text
pub record AreTokens (text : List ℕ) (tokens : List Lexeme) : Type 0 where
  pub fits : length text ≤ text_limit
  pub utf8 : IsUtf8 text
  pub read : TokensFrom (length text) true (behind_byte_order_mark text) tokens
