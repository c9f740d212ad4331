-- What a block results in, in a method: the operands that it leaves and the state of the method, or
-- a stop.
use Rattle.std.specs.Prelude.{◌≡◌, ℕ, ◌≤◌, ℤ, List, [], ◌∷◌, ◌++◌, Option, Some, None}
use Rattle.std.specs.List.{AllByRecursion}
use Rattle.edd_syntax.specs.declared.numbers.StrNo.{StrNo}
use Rattle.edd_syntax.specs.Words.{Words}
use Rattle.edd_syntax.specs.Answers.{Change, Answer, answer_fault}
use Rattle.edd_syntax.specs.MethodState as source
use Rattle.edd_syntax.specs.MethodState.{State, Stop, Done, Stopped, ask}
use Rattle.edd_syntax.specs.Execution.{transcript, ending_of}
use Rattle.edd_instructions.specs.declared.instruction.Instruction.{Instruction}
use Rattle.edd_instructions.specs.declared.records.Status.{Status}
use Rattle.edd_instructions.specs.declared.records.Status.TheVariants.{Running, Asking, Ended, Aborted, Trapped}
use Rattle.edd_instructions.specs.declared.unit.Way.{Way}
use Rattle.edd_instructions.specs.Units.{jump}
use Rattle.edd_instructions.specs.Steps.{Environment, Effect, act}
use Rattle.edd_code.specs.Blocks.{Block}
use Rattle.edd_code.specs.BlockEffects as blocks
use Rattle.edd_code.specs.BlockEffects.{Outcome, Goes, Stops, Stuck}
use Rattle.edd_code.specs.Reports.{Report, at, transcript_report, worded, report}

-- a stop, and the state that it leaves
pub record Halted : Type 0 where
  pub why : Stop
  pub state : State

-- the stop, in this state
abbrev pub stops : Stop → State → Outcome State Halted
stops why s = Stops (record { why = why; state = s })

-- the changes are noted after those so far
abbrev pub noted : List Change → State → State
noted [] s = s
noted (c ∷ rest) s = noted rest (record s { changes = s.changes ++ c ∷ [] })

-- the code of an answer on top of the operands
abbrev pub pushed : List ℤ → source.Outcome ℤ → Outcome State Halted
pushed operands (Done code s) = Goes (code ∷ operands) s
pushed operands (Stopped why s) = stops why s

-- the answer to a request, where its strings are known
abbrev pub when_known : List ℤ → State → Option source.Request → Outcome State Halted
when_known operands s None = Stuck
when_known operands s (Some r) = pushed operands (ask r s)

-- only what doesn't jump goes on to the instruction after it
abbrev pub unless_jump : Option Way → Outcome State Halted → Outcome State Halted
unless_jump None o = o
unless_jump (Some to) o = Stuck

-- each answer can be taken
abbrev pub CanBeTaken : Environment → List Answer → Type 0
CanBeTaken env answers = AllByRecursion (λ a. answer_fault env.types a ≡ None) answers

-- what a stop reports
abbrev pub stopped : Stop → State → Report
stopped why s = transcript_report (transcript (ending_of why) s)

module _ (text : StrNo → Option Words) (env : Environment) where
  -- a request comes with its answer
  abbrev pub with_answer : Status → List ℤ → State → Outcome State Halted
  with_answer Running operands s = Goes operands s
  with_answer (Asking r) operands s = when_known operands s (worded text r)
  with_answer Ended operands s = Stuck
  with_answer Aborted operands s = stops source.Aborted s
  with_answer (Trapped why) operands s = stops (source.Trapped why) s

  -- what the effect of an instruction results in, by the state that was before it
  abbrev pub outcome_of : State → Option Effect → Outcome State Halted
  outcome_of s None = Stuck
  outcome_of s (Some e) = with_answer e.state.status e.state.operands
      (noted e.changes (record s {
        slots = e.state.slots;
        values = e.state.values;
        abort_methods = e.state.abort_methods;
      }))

  -- what a straight instruction results in does not depend on where it is
  abbrev pub does_one : Instruction → List ℤ → State → Outcome State Halted
  does_one i operands s = unless_jump (jump i) (outcome_of s (act env i 0 (at [] 0 operands s)))

  -- what a block results in with these operands in front of it
  abbrev pub does : Block → List ℤ → State → Outcome State Halted
  does b operands s = blocks.does does_one b operands s

  -- From a place with these operands the run goes on to another place, with the operands and the
  -- state of the outcome, or reaches its stop: for any number of steps after it, from there at
  -- least as many.
  abbrev pub Comes : (code : List ℕ) → (from to : ℕ) → (operands : List ℤ) → State
      → Outcome State Halted → Type 0
  Comes code p q operands s (Goes left t) =
      CanBeTaken env t.answers
      × ((k : ℕ) → (n : ℕ) × (k ≤ n)
      × (report text env code n p operands s ≡ report text env code k q left t))
  Comes code p q operands s (Stops x) = (k : ℕ)
      → (n : ℕ) × (k ≤ n) × (report text env code n p operands s ≡ stopped x.why x.state)
  Comes code p q operands s Stuck = Unit {0}
