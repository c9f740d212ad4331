-- From a place the machine goes on to what an outcome says: to the end of the code, out of a loop,
-- back in it, or to a stop.
use Rattle.std.specs.Prelude.{◌≡◌, ℕ, suc, ◌≤◌, ℤ, List, [], Option}
use Rattle.edd_syntax.specs.declared.numbers.StrNo.{StrNo}
use Rattle.edd_syntax.specs.Words.{Words}
use Rattle.edd_syntax.specs.MethodState.{State, Outcome, Done, Stopped, Action}
use Rattle.edd_syntax.specs.Execution.{Completion, Normal, Breaks, Continues, Returns, Ended, ended, transcript}
use Rattle.edd_instructions.specs.Steps.{Environment}
use Rattle.edd_code.specs.Reports.{Report, report, transcript_report}
use Rattle.edd_code.specs.MethodEffects.{CanBeTaken, stopped}

-- where code goes on
pub record Exits : Type 0 where
  -- after it
  pub end : ℕ
  -- the target of `break`
  pub out : ℕ
  -- the target of `continue`
  pub back : ℕ

-- how many steps a run takes at least, with k after the outcome: one more where it jumped back,
-- and n where it is over
abbrev pub least : (n k : ℕ) → Outcome Completion → ℕ
least n k (Done Normal s) = k
least n k (Done Breaks s) = k
least n k (Done Continues s) = suc k
least n k (Done Returns s) = n
least n k (Stopped why s) = n

-- where the outcome is no stop, the answers that are left can be taken
abbrev pub StayTaken : Environment → Outcome Completion → Type 0
StayTaken env (Done x s) = CanBeTaken env s.answers
StayTaken env (Stopped why s) = Unit {0}

module _ (text : StrNo → Option Words) (env : Environment) (code : List ℕ) where
  -- what is reported of a run that results in an outcome and takes k steps more
  abbrev pub reached : (k : ℕ) → Exits → Outcome Completion → Report
  reached k to (Done Normal s) = report text env code k to.end [] s
  reached k to (Done Breaks s) = report text env code k to.out [] s
  reached k to (Done Continues s) = report text env code k to.back [] s
  reached k to (Done Returns s) = transcript_report (transcript Ended s)
  reached k to (Stopped why s) = stopped why s

  -- From a place with these operands the run results in the outcome, whatever number of steps is
  -- after it.
  pub record Does (n place : ℕ) (operands : List ℤ) (to : Exits) (s : State)
      (o : Outcome Completion) : Type 0 where
    pub answers : StayTaken env o
    pub comes : (k : ℕ) → (m : ℕ) × (least n k o ≤ m)
        × (report text env code m place operands s ≡ reached k to o)

  -- From every state, whatever its slots, and for each number of turns there is one of steps, no
  -- lower, in which the unit reports what f results in where each entry of a loop has so many
  -- turns.
  abbrev pub Follows : (f : ℕ → Action Completion) → Type 0
  Follows f = (s : State) → CanBeTaken env s.answers → (n : ℕ)
      → (k : ℕ) × (n ≤ k) × (report text env code k 0 [] s ≡ transcript_report (ended (f n s)))
