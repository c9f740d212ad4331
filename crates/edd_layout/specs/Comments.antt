-- The comments and marks of a text, and between which tokens they are.
use Rattle.std.specs.Prelude.{◌≡◌, ℕ, ◌-◌, ◌==◌, Bool, true, false, ◌||◌, ◌&&◌, List, [], ◌∷◌, length, take, drop, slice_range, Some, ⊤, ◌⊎◌}
use Rattle.edd_lexer.specs.Bytes.{begins, behind, in_line, is_blank}
use Rattle.edd_lexer.specs.Gaps.{behind_close}
use Rattle.edd_lexer.specs.Tokens.{AreTokens, Lexeme, behind_byte_order_mark}

-- `//` of a comment, or the `#` of a mark, which go on to the line's end
abbrev pub begins_line_comment : List ℕ → Bool
begins_line_comment [] = false
begins_line_comment (b ∷ rest) = b == 35 || (b == 47 && begins (λ c. c == 47) rest)

-- `/*`
abbrev pub begins_block_comment : List ℕ → Bool
begins_block_comment [] = false
begins_block_comment (b ∷ rest) = b == 47 && begins (λ c. c == 42) rest

-- The first n bytes are a comment or a mark: `//` or `#` up to the line's end, or `/*` up to the first
-- `*/` behind it.
pub data IsComment (n : ℕ) (here : List ℕ) : Type 0 where
  line : begins_line_comment here ≡ true → drop n here ≡ behind in_line here → IsComment n here
  block : begins_block_comment here ≡ true → behind_close (drop 2 here) ≡ Some (drop n here)
      → IsComment n here

-- the text of a comment without CRs, which the ends of its lines may have
abbrev pub without_returns : List ℕ → List ℕ
without_returns [] = []
without_returns (b ∷ rest) = elim (b == 13) [
  | true ↦ without_returns rest
  | false ↦ b ∷ without_returns rest
]

-- Between two tokens these have the same comments and marks in the same order, each with the same text
-- but for CRs; the blanks before and behind them may differ.
pub data SameComments : (here there : List ℕ) → Type 0 where
  nothing : SameComments [] []
  blank : {b : ℕ} {here there : List ℕ} → is_blank b ≡ true → SameComments here there
      → SameComments (b ∷ here) there
  other_blank : {b : ℕ} {here there : List ℕ} → is_blank b ≡ true → SameComments here there
      → SameComments here (b ∷ there)
  comment : {here there : List ℕ} (n m : ℕ) → IsComment n here → IsComment m there
      → without_returns (take n here) ≡ without_returns (take m there)
      → SameComments (drop n here) (drop m there) → SameComments here there

-- what is before each token from a place on, and what is behind the last
abbrev pub gaps_from : (text : List ℕ) → (from : ℕ) → List Lexeme → List (List ℕ)
gaps_from text from [] = slice_range text from (length text) ∷ []
gaps_from text from (l ∷ ls) = slice_range text from l.start ∷ gaps_from text l.end ls

-- where a text begins: behind its byte order mark
abbrev pub beginning : (text : List ℕ) → ℕ
beginning text = length text - length (behind_byte_order_mark text)

-- each has the same comments and marks as its counterpart
abbrev pub EachSame : List (List ℕ) → List (List ℕ) → Type 0
EachSame [] [] = ⊤
EachSame [] (other ∷ others) = ⊥
EachSame (gap ∷ gaps) [] = ⊥
EachSame (gap ∷ gaps) (other ∷ others) = SameComments gap other × EachSame gaps others

-- The two texts have the same comments and marks between the same tokens.
pub record HaveSameComments (text other : List ℕ) : Type 0 where
  pub lexemes : List Lexeme
  pub others : List Lexeme
  pub of_text : AreTokens text lexemes
  pub of_other : AreTokens other others
  pub same : EachSame (gaps_from text (beginning text) lexemes)
      (gaps_from other (beginning other) others)

-- It is the text itself, or has the same comments and marks as the text between the same tokens.
abbrev pub KeepsComments : (text other : List ℕ) → Type 0
KeepsComments text other = (other ≡ text) ⊎ HaveSameComments text other
