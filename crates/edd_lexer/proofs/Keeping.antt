-- What the tokens of a text keep.
use Rattle.std.proofs.Common.{◌≡◌, ℕ, ◌+◌, ◌-◌, Bool, true, false, List, ◌∷◌, length, All, sym, ap, subst, inl, inr, length-append, arith}
use Rattle.std.proofs.lemmas.List.Elements.{All-nil, All-cons}
use Rattle.edd_syntax.specs.Names.{is_name}
use Rattle.edd_syntax.specs.Token.{Token, word_token}
use Rattle.edd_lexer.specs.Strings.{quote}
use Rattle.edd_lexer.specs.Tokens.{Lexeme, Stands, word, integer, decimal, string, sign, TokensFrom, nothing, behind_gap, behind_token, AreTokens}
use Rattle.edd_lexer.specs.Kept.{IsKept, IsLexeme}
use Rattle.edd_lexer.proofs.ReservedWords.{Tokened, word_tokened}
use Rattle.edd_lexer.proofs.Whole.{token_shortens}

word_kept : (bytes : List ℕ) (t : Token) (size : ℕ) → is_name bytes ≡ true → length bytes ≡ size
    → Tokened bytes t → IsKept t size
word_kept bytes t size name e (inl (k, is, spelled)) = let P : Token
    → Type 0 = λ x. IsKept x size in subst P (sym is) tt
word_kept bytes t size name e (inr is) = let P : Token
    → Type 0 = λ x. IsKept x size in subst P (sym is) (name, e)

stands_kept : (here : List ℕ) (t : Token) (rest : List ℕ) (size : ℕ) → Stands here t rest
    → size + length rest ≡ length here → IsKept t size
stands_kept here t rest size (word bytes whole name stop is) e =
    let P : Token → Type 0 = λ x. IsKept x size in
    subst P (sym is) (word_kept bytes (word_token bytes) size name
    (omega (arith, length-append bytes rest, ap length whole)) (word_tokened bytes))
stands_kept here t rest size (integer bytes n whole spelled fits free is) e = let P : Token
    → Type 0 = λ x. IsKept x size in subst P (sym is) fits
stands_kept here t rest size (decimal bytes whole spelled free is) e = let P : Token
    → Type 0 = λ x. IsKept x size in subst P (sym is) tt
stands_kept here t rest size (string inside raw whole closed good is) e =
    let P : Token → Type 0 = λ x. IsKept x size in
    let n : length raw + 2 ≡ size =
    omega (arith, ap length whole, ap length closed.whole, length-append raw (quote ∷ rest)) in
    subst P (sym is) (good, n)
stands_kept here t rest size (sign s whole free is) e = let P : Token
    → Type 0 = λ x. IsKept x size in subst P (sym is) tt

from_kept : (text : List ℕ) (fresh : Bool) (here : List ℕ) (lexemes : List Lexeme)
    → TokensFrom (length text) fresh here lexemes → All (IsLexeme text) lexemes
from_kept text fresh here lexemes nothing = All-nil (IsLexeme text)
from_kept text fresh here lexemes (behind_gap {next = next} {rest = rest} gap_is more) =
    from_kept text next rest lexemes more
from_kept text fresh here lexemes (behind_token {rest = rest} {lexeme = lexeme} {more = others}
    stands start end more) =
    let lt = token_shortens here lexeme.token rest stands in
    let first : IsLexeme text lexeme = record {
      not_empty = omega arith;
      within = omega arith;
      kept = stands_kept here lexeme.token rest (lexeme.end - lexeme.start) stands (omega arith);
    } in
    All-cons (IsLexeme text) lexeme others first (from_kept text false rest others more)

-- each token stands in the text, and keeps what tokens of its kind keep
pub tokens_kept : (text : List ℕ) (lexemes : List Lexeme) → AreTokens text lexemes
    → All (IsLexeme text) lexemes
tokens_kept text lexemes are = from_kept text true _ lexemes are.read
