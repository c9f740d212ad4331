-- The law of more turns: an outcome that isn't for lack of turns is the same where loops have more
-- turns.
use Rattle.std.specs.Prelude.{◌≡◌, ◌≢◌, ℕ, ◌≤◌, ℤ, List}
use Rattle.edd_syntax.specs.declared.numbers.MethNo.{MethNo}
use Rattle.edd_syntax.specs.Answers.{Answer}
use Rattle.edd_syntax.specs.Item.{Description}
use Rattle.edd_syntax.specs.Reference.{Target}
use Rattle.edd_syntax.specs.Statement.{Stmt, Body}
use Rattle.edd_syntax.specs.Device.{Environment}
use Rattle.edd_syntax.specs.MethodState.{State, Outcome, Done, Stopped, Trapped, Aborted, Waiting, OutOfTurns, Action}
use Rattle.edd_syntax.specs.Execution as ending
use Rattle.edd_syntax.specs.Execution.{execute, run_body, run}

-- the outcome isn't for lack of turns
abbrev pub IsOver : {A : Type 0} → Outcome A → Type 0
IsOver (Done x s) = Unit {0}
IsOver (Stopped (Trapped why) s) = Unit {0}
IsOver (Stopped Aborted s) = Unit {0}
IsOver (Stopped Waiting s) = Unit {0}
IsOver (Stopped OutOfTurns s) = ⊥

-- wherever the first is over, the second comes to the same
abbrev pub Extends : {A : Type 0} → Action A → Action A → Type 0
Extends first second = (s : State) → IsOver (first s) → second s ≡ first s

-- what a statement results in, other than for lack of turns, stays where each loop has more turns
abbrev pub StatementsStay : Type 0
StatementsStay = (env : Environment) (statement : Stmt Target) (n m : ℕ) → n ≤ m
    → Extends (execute env statement n) (execute env statement m)

-- so does what the run of a body results in, from any state
abbrev pub BodiesStay : Type 0
BodiesStay = (env : Environment) (body : Body Target) (n m : ℕ) → n ≤ m → (s : State)
    → (run_body n env body s).ending ≢ ending.OutOfTurns → run_body m env body s
    ≡ run_body n env body s

-- so does what the run of a method results in, under the same values and answers
abbrev pub RunsStay : Type 0
RunsStay = (unit : Description Target) (method : MethNo) (n m : ℕ) → n ≤ m
    → (values : List ℤ) (answers : List Answer)
    → (run n unit method values answers).ending ≢ ending.OutOfTurns
    → run m unit method values answers ≡ run n unit method values answers
