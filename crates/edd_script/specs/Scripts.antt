-- What a script says.
use Rattle.std.specs.Prelude.{ℕ, suc, ℤ, pos, Bool, true, false, List, [], ◌∷◌, map, replicate, slice_set, filter_map, Option, Some, None, Result, Ok, Err, if◌then◌else◌}
use Rattle.edd_syntax.specs.Answers.{Change, Answer, answer_of, values_set}
use Rattle.edd_script.specs.declared.script.Script as code
use Rattle.edd_script.specs.declared.script.ScriptFault.{ScriptFault}
use Rattle.edd_script.specs.declared.script.ScriptFault.TheVariants as fault
use Rattle.edd_script.specs.Lines.{lines}
use Rattle.edd_script.specs.Named.{VariableNames}
use Rattle.edd_script.specs.Said.{Line, Set, Answered, line_of}

-- f of what was read
abbrev pub mapped : {A B : Type 0} → (A → B) → Result A ℕ → Result B ℕ
mapped f (Ok read) = Ok (f read)
mapped f (Err line) = Err line

-- what the lines say, from this line number on; or the number of the first that can't be read
abbrev pub read_from : VariableNames → (number : ℕ) → (lines : List (List ℕ)) → Result (List Line) ℕ
read_from names number [] = Ok []
read_from names number (line ∷ rest) = elim (line_of names line) [
  | None ↦ Err number
  | Some said ↦ mapped (λ more. said ∷ more) (read_from names (suc number) rest)
]

-- what a text says line by line, from line 1 on
abbrev pub lines_read : VariableNames → (text : List ℕ) → Result (List Line) ℕ
lines_read names text = read_from names 1 (lines text)

-- what a line sets
abbrev set_in : Line → Option Change
set_in (Set change) = Some change
set_in _ = None

-- how a line answers
abbrev answer_in : Line → Option Answer
answer_in (Answered answer) = Some answer
answer_in _ = None

-- what the lines set, in order
abbrev pub sets_in : List Line → List Change
sets_in = filter_map set_in

-- the answers, in order
abbrev pub answers_in : List Line → List Answer
answers_in = filter_map answer_in

-- the values of all variables by their numbers, and the answers
pub record Said : Type 0 where
  pub values : List ℤ
  pub answers : List Answer

-- of each variable the value that is set last, 0 where none is, and the answers in order
abbrev pub script_of : VariableNames → (text : List ℕ) → Result Said ℕ
script_of names text = mapped (λ said. record {
  values = values_set (replicate names.count (pos 0)) (sets_in said);
  answers = answers_in said;
}) (lines_read names text)

-- the values after the sets, in their order, where a value may be missing
abbrev pub given_set : List (Option ℤ) → List Change → List (Option ℤ)
given_set given [] = given
given_set given (set ∷ rest) = given_set (slice_set given set.variable.0 (Some set.value)) rest

-- what a script sets: of each variable the value that is set last, if one is
abbrev pub given_by : VariableNames → (text : List ℕ) → Result (List (Option ℤ)) ℕ
given_by names text = mapped (λ said. given_set (replicate names.count None) (sets_in said))
    (lines_read names text)

-- whether a line answers a request
abbrev is_answer : Option Line → Bool
is_answer (Some (Answered answer)) = true
is_answer _ = false

-- the numbers of the lines that answer, from this number on; unreadable lines are passed over
abbrev pub answering : VariableNames → (number : ℕ) → (lines : List (List ℕ)) → List ℕ
answering names number [] = []
answering names number (line ∷ rest) = if is_answer (line_of names line)
    then number ∷ answering names (suc number) rest else answering names (suc number) rest

-- ---- scripts in the code

-- what a script in the code stands for
abbrev pub said_in : code.Script → Said
said_in script = record {
  values = script.values.items;
  answers = map answer_of script.answers.items;
}

-- the line that a fault names
abbrev pub line_in : ScriptFault → Option ℕ
line_in (fault.Line line) = Some line
line_in fault.Memory = None
