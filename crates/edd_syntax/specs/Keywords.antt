-- Where a word is looked up among the reserved words.
use Rattle.std.specs.Prelude.{ℕ, ◌+◌, ◌*◌, ◌/◌, ◌==◌, ◌&&◌, List, [], ◌∷◌, length, slice_index, bytes_eq, if◌then◌else◌, Option, Some, None}
use Rattle.edd_syntax.specs.declared.symbols.Keyword.{Keyword}
use Rattle.edd_syntax.specs.Token.{spelling}

-- the place of a word
unfoldable pub place : List ℕ → ℕ
place word = 2 * slice_index word 0 + 8 * slice_index word (length word / 4) + length word

-- the one of these reserved words that is written so and has this place
unfoldable pub keyword_at : ℕ → List ℕ → List Keyword → Option Keyword
keyword_at p word [] = None
keyword_at p word (k ∷ ks) =
    if p == place (spelling k) && bytes_eq (spelling k) word then Some k else keyword_at p word ks
