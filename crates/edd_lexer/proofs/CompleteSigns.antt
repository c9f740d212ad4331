-- What stands at a place is read there: signs, blanks, comments and marks.
use Rattle.std.proofs.Common.{◌≡◌, ℕ, Bool, false, ◌||◌, ◌==◌, List, ◌++◌, Some, refl, sym, ap, ◌∙◌}
use Rattle.edd_syntax.specs.declared.operators.Operator.{Operator}
use Rattle.edd_syntax.specs.declared.operators.Operator.TheVariants as operator
use Rattle.edd_syntax.specs.declared.operators.Comparison.TheVariants as comparison
use Rattle.edd_syntax.specs.declared.symbols.Symbol.{Symbol}
use Rattle.edd_syntax.specs.declared.symbols.Symbol.TheVariants as symbol
use Rattle.edd_syntax.specs.Token.{Token, Sign}
use Rattle.edd_lexer.specs.Bytes.{begins}
use Rattle.edd_lexer.specs.Signs.{operator_bytes, symbol_bytes, lengthens_operator, lengthens}
use Rattle.edd_lexer.specs.Gaps.{Gap, blank, line_comment, block_comment, mark, behind_close}
use Rattle.edd_lexer.specs.Tokens.{Stands, word, integer, decimal, string, sign}
use Rattle.edd_lexer.specs.Reading.{token, gap, operator_at, single_symbol, symbol_at, slash_at, step_at, comment_to, block_comment_at, hash_at}
use Rattle.edd_lexer.proofs.ByteTests.{neither_parts}
use Rattle.edd_lexer.proofs.Complete.{word_again, integer_token_again, decimal_again, string_token_again}

-- a sign is its own first step
operator_again : (fresh : Bool) (o : Operator) (rest : List ℕ) → begins (lengthens_operator o) rest
    ≡ false → step_at fresh (operator_bytes o ++ rest) ≡ token (Sign (symbol.Operator o)) rest
unfolding step_at symbol_at single_symbol operator_at slash_at
operator_again fresh operator.Add rest e = let parts = neither_parts (λ c. c == 43) (λ c. c == 61)
    rest e in rw (parts.0, parts.1) refl
operator_again fresh operator.Subtract rest e = let parts =
    neither_parts (λ c. c == 45) (λ c. c == 61) rest e in rw (parts.0, parts.1) refl
operator_again fresh operator.Divide rest e =
    let parts = neither_parts (λ c. (c == 47) || (c == 42)) (λ c. c == 61) rest e in
    let comments = neither_parts (λ c. c == 47) (λ c. c == 42) rest parts.0 in
    rw (comments.0, comments.1, parts.1) refl
operator_again fresh operator.And rest e = let parts = neither_parts (λ c. c == 38) (λ c. c == 61)
    rest e in rw (parts.0, parts.1) refl
operator_again fresh operator.Or rest e = let parts = neither_parts (λ c. c == 124) (λ c. c == 61)
    rest e in rw (parts.0, parts.1) refl
operator_again fresh _ rest e = rw e refl

compound_again : (fresh : Bool) (o : Operator) (rest : List ℕ)
    → step_at fresh (symbol_bytes (symbol.CompoundAssign o) ++ rest)
    ≡ token (Sign (symbol.CompoundAssign o)) rest
unfolding step_at symbol_at single_symbol operator_at slash_at
compound_again fresh operator.Add rest = refl
compound_again fresh _ rest = refl

sign_again : (fresh : Bool) (s : Symbol) (rest : List ℕ) → begins (lengthens s) rest ≡ false
    → step_at fresh (symbol_bytes s ++ rest) ≡ token (Sign s) rest
unfolding step_at symbol_at single_symbol operator_at slash_at
sign_again fresh symbol.OpenBrace rest e = refl
sign_again fresh symbol.CloseBrace rest e = refl
sign_again fresh symbol.OpenParenthesis rest e = refl
sign_again fresh symbol.CloseParenthesis rest e = refl
sign_again fresh symbol.OpenBracket rest e = refl
sign_again fresh symbol.CloseBracket rest e = refl
sign_again fresh symbol.Semicolon rest e = refl
sign_again fresh symbol.Comma rest e = refl
sign_again fresh symbol.Colon rest e = refl
sign_again fresh symbol.Dot rest e = rw e refl
sign_again fresh symbol.Question rest e = refl
sign_again fresh symbol.Exclamation rest e = rw e refl
sign_again fresh symbol.Tilde rest e = refl
sign_again fresh symbol.Equals rest e = rw e refl
sign_again fresh symbol.LogicalAnd rest e = refl
sign_again fresh symbol.LogicalOr rest e = refl
sign_again fresh symbol.Increment rest e = refl
sign_again fresh symbol.Decrement rest e = refl
sign_again fresh (symbol.Operator o) rest e = operator_again fresh o rest e
sign_again fresh (symbol.Comparison comparison.Less) rest e = let parts =
    neither_parts (λ c. c == 60) (λ c. c == 61) rest e in rw (parts.0, parts.1) refl
sign_again fresh (symbol.Comparison comparison.Greater) rest e = let parts =
    neither_parts (λ c. c == 62) (λ c. c == 61) rest e in rw (parts.0, parts.1) refl
sign_again fresh (symbol.Comparison _) rest e = refl
sign_again fresh (symbol.CompoundAssign o) rest e = compound_again fresh o rest

-- A token that stands here is read.
pub token_again : (fresh : Bool) (here : List ℕ) (t : Token) (rest : List ℕ) → Stands here t rest
    → step_at fresh here ≡ token t rest
token_again fresh here t rest (word bytes whole name stop is) =
    ap (step_at fresh) whole
    ∙ (word_again fresh bytes rest name stop ∙ ap (λ (x : Token). token x rest) (sym is))
token_again fresh here t rest (integer bytes n whole spelled fits free is) =
    ap (step_at fresh) whole ∙ (integer_token_again fresh bytes rest n spelled fits free
    ∙ ap (λ (x : Token). token x rest) (sym is))
token_again fresh here t rest (decimal bytes whole spelled free is) =
    ap (step_at fresh) whole
    ∙ (decimal_again fresh bytes rest spelled free ∙ ap (λ (x : Token). token x rest) (sym is))
token_again fresh here t rest (string inside raw whole closed good is) =
    ap (step_at fresh) whole ∙ (string_token_again fresh inside raw rest closed good
    ∙ ap (λ (x : Token). token x rest) (sym is))
token_again fresh here t rest (sign s whole free is) =
    ap (step_at fresh) whole
    ∙ (sign_again fresh s rest free ∙ ap (λ (x : Token). token x rest) (sym is))

comment_again : (body rest : List ℕ) → behind_close body ≡ Some rest → block_comment_at body
    ≡ gap false rest
unfolding block_comment_at
comment_again body rest e = ap comment_to e

-- A gap that stands here is read.
pub gap_again : (fresh : Bool) (here : List ℕ) (next : Bool) (rest : List ℕ)
    → Gap fresh here next rest → step_at fresh here ≡ gap next rest
unfolding step_at slash_at hash_at
gap_again fresh here next rest (blank e) = rw e refl
gap_again fresh here next rest line_comment = refl
gap_again fresh here next rest (block_comment {body = body} e) = comment_again body rest e
gap_again fresh here next rest (mark e) = rw e refl
