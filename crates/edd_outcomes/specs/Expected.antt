-- What the lines of a test expect of the lines that are printed.
use Rattle.std.specs.Prelude.{◌≡◌, ℕ, Bool, true, false, ◌&&◌, ◌||◌, not, if◌then◌else◌, List, [], ◌∷◌, map, Option, Some, None, filter_map, is_some}
use Rattle.std.specs.Borrow.{Bor}
use Rattle.std.specs.HashMap.{HashMap, get_by}
use Rattle.std.specs.Str.{bytes_eq}
use Rattle.edd_cases.specs.declared.lines.Line.{Line}
use Rattle.edd_cases.specs.declared.lines.Says.{Says}
use Rattle.edd_cases.specs.declared.lines.Says.TheVariants as says
use Rattle.edd_cases.specs.declared.settings.Form.{Form}
use Rattle.edd_cases.specs.declared.settings.Form.TheVariants as form
pub use Rattle.edd_cases.specs.Renewed.{texts}

-- ---- the lines that a test expects

-- the text of a line with `=`
abbrev pub whole : Says → Option (List ℕ)
whole (says.Whole text) = Some text.now
whole _ = None

-- those with `=`
abbrev pub wholes : List Line → List (List ℕ)
wholes = filter_map (λ line. whole line.says)

-- the text of a line with `~`
abbrev pub part : Says → Option (List ℕ)
part (says.Part text) = Some text.now
part _ = None

-- those with `~`
abbrev pub parts : List Line → List (List ℕ)
parts = filter_map (λ line. part line.says)

-- the text of a line with `!`
abbrev pub absent : Says → Option (List ℕ)
absent (says.Absent text) = Some text.now
absent _ = None

-- those with `!`
abbrev pub absents : List Line → List (List ℕ)
absents = filter_map (λ line. absent line.says)

-- ---- when what was printed is what a test expects

-- the same lines, in order
abbrev pub same : (expected : List (List ℕ)) → (printed : List (List ℕ)) → Bool
same [] [] = true
same [] (line ∷ printed) = false
same (text ∷ expected) [] = false
same (text ∷ expected) (line ∷ printed) = bytes_eq line text && same expected printed

-- what is behind the first line that is this text
abbrev pub behind : (text : List ℕ) → List (List ℕ) → Option (List (List ℕ))
behind text [] = None
behind text (line ∷ rest) = elim (bytes_eq line text) [
  | true ↦ Some rest
  | false ↦ behind text rest
]

-- each is printed, behind the one before
abbrev pub holds : (expected : List (List ℕ)) → (printed : List (List ℕ)) → Bool
holds [] printed = true
holds (text ∷ expected) printed = elim (behind text printed) [
  | None ↦ false
  | Some rest ↦ holds expected rest
]

-- a line that was printed is this text
abbrev pub is_printed : (printed : List (List ℕ)) → (text : List ℕ) → Bool
is_printed [] text = false
is_printed (line ∷ rest) text = bytes_eq line text || is_printed rest text

-- none of these was printed
abbrev pub lacks : (forbidden : List (List ℕ)) → (printed : List (List ℕ)) → Bool
lacks [] printed = true
lacks (text ∷ forbidden) printed = not (is_printed printed text) && lacks forbidden printed

-- what a test expects is printed: with `=` nothing else is, with `~` in this order
abbrev pub meets : Form → List Line → (printed : List (List ℕ)) → Bool
meets form.Whole lines printed = same (wholes lines) printed
meets form.Parts lines printed = holds (parts lines) printed

-- what a test expects is printed, and no line with `!` is
abbrev pub passes : Form → List Line → (printed : List (List ℕ)) → Bool
passes form lines printed = meets form lines printed && lacks (absents lines) printed

-- ---- a test line by line: what is left of the printed lines behind what a line expects of them

-- what is behind the next line, which is this text
abbrev pub behind_next : (text : List ℕ) → List (List ℕ) → Option (List (List ℕ))
behind_next text [] = None
behind_next text (line ∷ rest) = if bytes_eq line text then Some rest else None

-- what is left after a line with `=`, whose text has to come next; another line takes nothing
abbrev past_whole : Says → List (List ℕ) → Option (List (List ℕ))
past_whole (says.Whole text) left = behind_next text.now left
past_whole _ left = Some left

-- what is left after a line with `~`, whose text has to come; another line takes nothing
abbrev past_part : Says → List (List ℕ) → Option (List (List ℕ))
past_part (says.Part text) left = behind text.now left
past_part _ left = Some left

-- what is left after a line of a test of this form
abbrev pub past : Form → Says → List (List ℕ) → Option (List (List ℕ))
past form.Whole = past_whole
past form.Parts = past_part

-- ---- the lines that must not be printed, one by one

-- a line with `!` was not printed; another one forbids nothing
abbrev pub lacks_one : Says → (printed : List (List ℕ)) → Bool
lacks_one (says.Absent text) printed = not (is_printed printed text.now)
lacks_one _ printed = true

-- the map has the texts of these lines, and no others
abbrev pub HasTexts : {S : Type 0} → HashMap (Bor (List ℕ)) ℕ S → (printed : List (List ℕ)) → Type 0
HasTexts map printed = (text : List ℕ)
    → is_some (get_by (λ k. bytes_eq text k.now) map) ≡ is_printed printed text
