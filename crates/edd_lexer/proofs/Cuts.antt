-- What a gap or a token takes of the text: some bytes in front of what is after it.
use Rattle.std.proofs.Common.{◌≡◌, ℕ, Bool, true, false, ◌&&◌, ◌==◌, List, [], ◌∷◌, ◌++◌, drop, Option, Some, refl, sym, ap, ◌∙◌, append_assoc}
use Rattle.edd_syntax.specs.Token.{Token}
use Rattle.edd_lexer.specs.Bytes.{begins, front, in_line}
use Rattle.edd_lexer.specs.Strings.{quote}
use Rattle.edd_lexer.specs.Gaps.{Gap, blank, line_comment, block_comment, mark, behind_close}
use Rattle.edd_lexer.specs.Signs.{symbol_bytes}
use Rattle.edd_lexer.specs.Tokens.{Stands, word, integer, decimal, string, sign}
use Rattle.edd_lexer.proofs.Runs.{both, front_behind}
use Rattle.edd_lexer.proofs.ByteTests.{next_here}

-- after the end of a comment stands the end of it
close_cut : (body rest : List ℕ) → behind_close body ≡ Some rest
    → (bytes : List ℕ) × (body ≡ bytes ++ rest)
close_cut [] rest e = absurd cc
close_cut (b ∷ body) rest e = go ((b == 42) && begins (λ c. c == 47) body) refl e
    (close_cut body rest)
  where
    go : (t : Bool) → ((b == 42) && begins (λ c. c == 47) body) ≡ t
        → (elim t as (λ _. Option (List ℕ)) [
          | true ↦ Some (drop 1 body)
          | false ↦ behind_close body
        ]) ≡ Some rest
        → (behind_close body ≡ Some rest → (bytes : List ℕ) × (body ≡ bytes ++ rest))
        → (bytes : List ℕ) × (b ∷ body ≡ bytes ++ rest)
    go true t f more =
        let same : drop 1 body ≡ rest = cc in
        let slash = next_here 47 body (both (b == 42) (begins (λ c. c == 47) body) t).1 in
        (b ∷ 47 ∷ [], ap (λ (x : List ℕ). b ∷ x) slash ∙ ap (λ (x : List ℕ). b ∷ 47 ∷ x) same)
    go false t f more = let found = more f in (b ∷ found.0, ap (λ (x : List ℕ). b ∷ x) found.1)

pub gap_cut : (fresh : Bool) (here : List ℕ) (next : Bool) (rest : List ℕ)
    → Gap fresh here next rest → (bytes : List ℕ) × (here ≡ bytes ++ rest)
gap_cut fresh here next rest (blank {b = b} e) = (b ∷ [], refl)
gap_cut fresh here next rest (line_comment {body = body}) = (
  47 ∷ 47 ∷ front in_line body,
  ap (λ (x : List ℕ). 47 ∷ 47 ∷ x)
      (sym (front_behind in_line body)),
)
gap_cut fresh here next rest (block_comment {body = body} e) =
    let found = close_cut body rest e in (
      47 ∷ 42 ∷ found.0,
      ap (λ (x : List ℕ). 47 ∷ 42 ∷ x)
          found.1,
    )
gap_cut fresh here next rest (mark {body = body} e) =
    (35 ∷ front in_line body, ap (λ (x : List ℕ). 35 ∷ x) (sym (front_behind in_line body)))

unfoldable pub token_cut : (here : List ℕ) (t : Token) (rest : List ℕ) → Stands here t rest
    → (bytes : List ℕ) × (here ≡ bytes ++ rest)
token_cut here t rest (word bytes whole name stop is) = (bytes, whole)
token_cut here t rest (integer bytes n whole spelled fits free is) = (bytes, whole)
token_cut here t rest (decimal bytes whole spelled free is) = (bytes, whole)
token_cut here t rest (string inside raw whole closed good is) = (
  quote ∷ (raw ++ quote ∷ []),
  whole
      ∙ (ap (λ (x : List ℕ). quote ∷ x) closed.whole ∙ ap (λ (x : List ℕ). quote ∷ x)
      (sym (append_assoc raw (quote ∷ []) rest))),
)
token_cut here t rest (sign s whole free is) = (symbol_bytes s, whole)
