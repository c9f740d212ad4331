-- What a host sees of a method's run: by the machine that runs it, and by the state that the source
-- reaches.
use Rattle.std.specs.Prelude.{ℕ, ℤ, List, [], ◌∷◌, ◌++◌, map, Option, Some, None, option_map}
use Rattle.edd_syntax.specs.declared.numbers.MethNo.{MethNo}
use Rattle.edd_syntax.specs.declared.numbers.StrNo.{StrNo}
use Rattle.edd_syntax.specs.Words.{Words}
use Rattle.edd_syntax.specs.Answers.{Change, Answer}
use Rattle.edd_syntax.specs.MethodState as source
use Rattle.edd_syntax.specs.Execution.{Transcript}
use Rattle.edd_instructions.specs.declared.requests.Request as image
use Rattle.edd_instructions.specs.declared.requests.RequestArgument as image_argument
use Rattle.edd_instructions.specs.declared.requests.RequestArgument.TheVariants as argument
use Rattle.edd_instructions.specs.Requests.{arguments_asked, kind_asked}
use Rattle.edd_instructions.specs.declared.records.Status.TheVariants.{Running}
use Rattle.edd_instructions.specs.declared.unit.Sort.TheVariants.{Method}
use Rattle.edd_instructions.specs.Steps.{State, Environment}
use Rattle.edd_instructions.specs.Execution.{Ending, Outcome, execute}
use Rattle.edd_instructions.specs.MethodAgreement.{ending_of}

-- the requests, the changes, the device's values, the abort methods listed or left, the answers
-- left, and how the run ends; a request with an unknown string is none
pub record Report : Type 0 where
  pub requests : List (Option source.Request)
  pub changes : List Change
  pub values : List ℤ
  pub abort_methods : List MethNo
  pub answers : List Answer
  pub ending : Ending

-- ---- by the source

-- what a transcript says
abbrev pub transcript_report : Transcript → Report
transcript_report t = record {
  requests = map Some t.requests;
  changes = t.changes;
  values = t.values;
  abort_methods = t.abort_methods;
  answers = t.answers;
  ending = ending_of t.ending;
}

-- ---- by the machine

-- a running method, with its operands from the top, and the slots, values and abort methods of the
-- source's state
abbrev pub at : (code : List ℕ) (place : ℕ) (operands : List ℤ) → source.State → State
at code place operands s = record {
  unit = record { sort = Method; code = code };
  place = place;
  operands = operands;
  slots = s.slots;
  values = s.values;
  status = Running;
  abort_methods = s.abort_methods;
  is_aborting = s.is_aborting;
}

-- text: the words of each number, where it is the number of a string
module _ (text : StrNo → Option Words) where
  -- arguments with their words in place of their numbers, where they are numbers of strings
  abbrev pub words_told : List image_argument.RequestArgument → Option (List source.RequestArgument)
  words_told [] = Some []
  words_told (argument.Text t ∷ rest) = elim (text t) [
    | None ↦ None
    | Some w ↦ option_map (λ more. source.TextArgument w ∷ more) (words_told rest)
  ]
  words_told (argument.Number z ∷ rest) =
      option_map (λ more. source.NumberArgument z ∷ more) (words_told rest)
  words_told (argument.Variable v ∷ rest) =
      option_map (λ more. source.VariableArgument v ∷ more) (words_told rest)

  -- the same of a request
  abbrev pub worded : image.Request → Option source.Request
  worded r = option_map (λ all. record { kind = kind_asked r; arguments = all })
      (words_told (arguments_asked r))

  -- what the machine did, after what was asked and changed before
  abbrev pub report_after : source.State → Outcome → Report
  report_after s o = record {
    requests = map Some s.requests ++ map worded o.requests;
    changes = s.changes ++ o.changes;
    values = o.state.values;
    abort_methods = o.state.abort_methods;
    answers = o.answers;
    ending = o.ending;
  }

  -- what at most n steps from a place give, with these operands and this state of the method
  abbrev pub report : Environment → (code : List ℕ) → (n place : ℕ) → (operands : List ℤ)
      → source.State → Report
  report env code n place operands s =
      report_after s (execute env n (at code place operands s) s.answers)
