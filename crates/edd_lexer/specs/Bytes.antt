-- Bytes by what they may stand for, and runs of them.
use Rattle.std.specs.Prelude.{ℕ, ◌==◌, Bool, false, not, ◌||◌, ◌&&◌, nat_le, List, [], ◌∷◌, if◌then◌else◌}
use Rattle.edd_syntax.specs.Names.{goes_on_name}

-- space, tab, LF, VT, FF or CR
abbrev pub is_blank : ℕ → Bool
is_blank b = b == 32 || (nat_le 9 b && nat_le b 13)

-- LF, which ends a line
abbrev pub is_line_end : ℕ → Bool
is_line_end b = b == 10

-- any byte but LF, so one that doesn't end its line
abbrev pub in_line : ℕ → Bool
in_line b = not (is_line_end b)

-- a blank within a line
abbrev pub is_line_blank : ℕ → Bool
is_line_blank b = is_blank b && in_line b

-- a letter, a digit, `_` or `.`: what no number may be directly followed by
abbrev pub goes_on_number : ℕ → Bool
goes_on_number b = goes_on_name b || b == 46

-- the first byte passes the test
abbrev pub begins : (ℕ → Bool) → List ℕ → Bool
begins test [] = false
begins test (b ∷ bytes) = test b

-- the longest run at the front that passes the test
abbrev pub front : (ℕ → Bool) → List ℕ → List ℕ
front test [] = []
front test (b ∷ bytes) = if test b then b ∷ front test bytes else []

-- what comes after that run
abbrev pub behind : (ℕ → Bool) → List ℕ → List ℕ
behind test [] = []
behind test (b ∷ bytes) = if test b then behind test bytes else b ∷ bytes
