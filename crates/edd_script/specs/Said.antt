-- What a line of a script says.
use Rattle.std.specs.Prelude.{codes, ℕ, ℤ, List, [], ◌∷◌, length, Option, Some, None, option_map, nat_lt, ◌==◌, if◌then◌else◌}
use Rattle.std.specs.List.{position_or_len, before_first, after_first}
use Rattle.std.specs.Str.{bytes_eq, is_utf8}
use Rattle.edd_syntax.specs.declared.numbers.VarNo.{VarNo}
use Rattle.edd_syntax.specs.Text.{Name}
use Rattle.edd_syntax.specs.Answers.{Change, Answer, Go, Abort, answer_of}
use Rattle.edd_image.specs.Front.{◌>>=◌}
use Rattle.edd_cases.specs.Ends.{without_end}
use Rattle.edd_script.specs.declared.said.Line as code
use Rattle.edd_script.specs.declared.said.Line.TheVariants as written
use Rattle.edd_script.specs.Named.{VariableNames, variable_named}
use Rattle.edd_script.specs.Numbers.{decimal_of}
use Rattle.edd_script.specs.Words.{words}

-- a line sets a variable, answers a request, or has no word
pub data Line : Type 0 where
  Set : (change : Change) → Line
  Answered : (answer : Answer) → Line
  Blank : Line

-- the variable of this name and the number that the word is
abbrev pub setting_of : VariableNames → Name → (value : List ℕ) → Option Change
setting_of names name value = variable_named names name >>= λ variable.
    option_map (λ number. record { variable = variable; value = number }) (decimal_of 64 value)

-- `NAME=N`: the first `=` parts the two
abbrev pub pair_of : VariableNames → (word : List ℕ) → Option Change
pair_of names word = if nat_lt (position_or_len (λ b. b == 61) word) (length word)
    then setting_of names (before_first (λ b. b == 61) word) (after_first (λ b. b == 61) word) else None

-- each word is such a setting
abbrev pub pairs_of : VariableNames → (words : List (List ℕ)) → Option (List Change)
pairs_of names [] = Some []
pairs_of names (word ∷ rest) = pair_of names word >>= λ set. option_map (λ sets. set ∷ sets) (pairs_of names rest)

-- behind `set`: `NAME N`
abbrev pub said_set : VariableNames → (words : List (List ℕ)) → Option Line
said_set names (name ∷ value ∷ []) = option_map Set (setting_of names name value)
said_set names _ = None

-- behind `answer`: `CODE NAME=N ..`
abbrev pub said_answer : VariableNames → (words : List (List ℕ)) → Option Line
said_answer names [] = None
said_answer names (code ∷ rest) = decimal_of 32 code >>= λ number.
    option_map (λ sets. Answered (Go number sets)) (pairs_of names rest)

-- behind `abort`: nothing
abbrev pub said_abort : (words : List (List ℕ)) → Option Line
said_abort [] = Some (Answered Abort)
said_abort (word ∷ rest) = None

-- what the words of a line say
abbrev pub said_by : VariableNames → (words : List (List ℕ)) → Option Line
said_by names [] = Some Blank
said_by names (word ∷ rest) =
    if bytes_eq word (codes "set") then said_set names rest
    else if bytes_eq word (codes "answer") then said_answer names rest
    else if bytes_eq word (codes "abort") then said_abort rest
    else None

-- the text of a line, without its end, if it is text at all
abbrev pub text_in : (line : List ℕ) → Option (List ℕ)
text_in line = if is_utf8 line then Some (without_end line) else None

-- what a line says, if it can be read
abbrev pub line_of : VariableNames → (line : List ℕ) → Option Line
line_of names line = text_in line >>= λ text. said_by names (words text)

-- ---- lines in the code

-- what a setting in the code stands for
abbrev pub change_of : VarNo × ℤ → Change
change_of set = record { variable = set.0; value = set.1 }

-- what a line in the code stands for
abbrev pub seen : code.Line → Line
seen (written.Set variable value) = Set (record { variable = variable; value = value })
seen (written.Answer answer) = Answered (answer_of answer)
seen written.Blank = Blank
