-- A test with what was seen in place of what it expects.
use Rattle.std.specs.Prelude.{◌≡◌, ℕ, List, map, take, Option, Some, None, filter_map}
use Rattle.edd_cases.specs.declared.lines.Line.{Line}
use Rattle.edd_cases.specs.declared.lines.Says.{Says}
use Rattle.edd_cases.specs.declared.lines.Says.TheVariants as says
use Rattle.edd_cases.specs.declared.printed.Seen.{Seen}
use Rattle.edd_cases.specs.declared.renewing.Piece.{Piece}
use Rattle.edd_cases.specs.declared.renewing.Piece.TheVariants as piece

-- all lines but those with `=` stay
abbrev staying : Says → (raw : List ℕ) → Option (List ℕ)
staying (says.Whole text) raw = None
staying _ raw = Some raw

-- a line of a test with its end, if it stays
abbrev pub stays : Line → Option (List ℕ)
stays line = staying line.says line.raw.now

-- the lines of a test that stay, with their ends
abbrev pub staying_of : List Line → List (List ℕ)
staying_of = filter_map stays

-- a piece that is a line of the test
abbrev pub kept : Piece → Option (List ℕ)
kept (piece.Kept raw) = Some raw.now
kept (piece.Seen text) = None

-- the lines of the test among the pieces
abbrev pub kept_of : List Piece → List (List ℕ)
kept_of = filter_map kept

-- the texts of the lines that were printed
abbrev pub texts : List Seen → List (List ℕ)
texts = map (λ s. s.text.now)

-- a piece that is a line that was seen
abbrev pub shown : Piece → Option (List ℕ)
shown (piece.Kept raw) = None
shown (piece.Seen text) = Some text.now

-- the lines that were seen among the pieces
abbrev pub shown_of : List Piece → List (List ℕ)
shown_of = filter_map shown

-- they are the first of the lines that were printed, and so many
abbrev pub HaveSeen : List Piece → List Seen → (added : ℕ) → Type 0
HaveSeen pieces seen added = shown_of pieces ≡ texts (take added seen)
