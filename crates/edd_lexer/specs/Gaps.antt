-- What may be between tokens: blanks, comments and marks.
use Rattle.std.specs.Prelude.{◌≡◌, ℕ, ◌==◌, Bool, true, false, ◌||◌, ◌&&◌, List, [], ◌∷◌, take, drop, bytes_eq, codes, Option, Some, None}
use Rattle.std.specs.Char.{is_ascii_digit}
use Rattle.edd_lexer.specs.Bytes.{is_blank, is_line_end, in_line, is_line_blank, begins, behind}

-- what comes after the first `*/`
abbrev pub behind_close : List ℕ → Option (List ℕ)
behind_close [] = None
behind_close (b ∷ rest) = elim (b == 42 && begins (λ c. c == 47) rest) [
  | true ↦ Some (drop 1 rest)
  | false ↦ behind_close rest
]

-- a blank, or the end of the text
abbrev pub ends_word : List ℕ → Bool
ends_word [] = true
ends_word (b ∷ rest) = is_blank b

-- the word `line`, and a blank or the line's end
abbrev pub begins_line_word : List ℕ → Bool
begins_line_word here = bytes_eq (take 4 here) (codes "line") && ends_word (drop 4 here)

-- after a `#`: past blanks of the line a digit or the word `line`
abbrev pub makes_mark : List ℕ → Bool
makes_mark here = begins is_ascii_digit (behind is_line_blank here)
    || begins_line_word (behind is_line_blank here)

-- From the first list up to the second is one blank, comment or mark. The flags say of either
-- place whether only blanks are before it on its line: a mark needs that, an LF brings it, and a
-- comment ends it, one with an LF inside too.
pub data Gap : (fresh : Bool) → (here : List ℕ) → (next : Bool) → (rest : List ℕ) → Type 0 where
  blank : {fresh : Bool} {b : ℕ} {rest : List ℕ} → is_blank b ≡ true
      → Gap fresh (b ∷ rest) (fresh || is_line_end b) rest
  -- `//` up to the line's end
  line_comment : {fresh : Bool} {body : List ℕ}
      → Gap fresh (47 ∷ 47 ∷ body) false (behind in_line body)
  -- `/*` up to the first `*/` after it
  block_comment : {fresh : Bool} {body rest : List ℕ} → behind_close body ≡ Some rest
      → Gap fresh (47 ∷ 42 ∷ body) false rest
  -- `#` up to the line's end
  mark : {body : List ℕ} → makes_mark body ≡ true → Gap true (35 ∷ body) false (behind in_line body)
