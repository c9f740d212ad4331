-- A token is the longest one where it begins.
use Rattle.std.specs.Prelude.{◌≡◌, ℕ, ◌≤◌, List, [], ◌++◌, length}
use Rattle.edd_syntax.specs.Token.{Token}
use Rattle.edd_lexer.specs.Tokens.{Stands}

-- these bytes alone are the token
abbrev pub IsAlone : List ℕ → Token → Type 0
IsAlone bytes t = Stands bytes t []

-- what a token takes of a text is the token also by itself
abbrev pub TokensStandAlone : Type 0
TokensStandAlone = (here rest : List ℕ) (t : Token) → Stands here t rest
    → (bytes : List ℕ) × (here ≡ bytes ++ rest) × IsAlone bytes t

-- what else is a token by itself and begins where a token is leaves at least as much after it
abbrev pub TokensAreLongest : Type 0
TokensAreLongest = (here rest : List ℕ) (t : Token) → Stands here t rest
    → (bytes behind : List ℕ) (other : Token) → here ≡ bytes ++ behind → IsAlone bytes other
    → length rest ≤ length behind
