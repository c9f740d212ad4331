-- The event of an answer, and the run of at most so many steps under answers.
use Rattle.std.specs.Prelude.{◌≡◌, ℕ, zero, suc, ◌+◌, List, [], ◌∷◌, ◌++◌, Option, Some, None, unwrap_or, ⊤}
use Rattle.edd_syntax.specs.declared.answer.Trap.{Trap}
use Rattle.edd_syntax.specs.Answers.{Change, Answer, Go, Abort, SetFault, answer_fault, values_set}
use Rattle.edd_instructions.specs.declared.requests.Request.{Request}
use Rattle.edd_instructions.specs.declared.records.Status.{Status}
use Rattle.edd_instructions.specs.declared.records.Status.TheVariants as status
use Rattle.edd_instructions.specs.declared.records.Emitted.{Emitted}
use Rattle.edd_instructions.specs.declared.records.Emitted.TheVariants as emitted
use Rattle.edd_instructions.specs.Steps.{State, Environment, Effect, step}

-- ---- an answer

-- the event of an answer to a state that asks
abbrev pub answered : State → Answer → Effect
answered s (Go code sets) = record {
  state = record s {
    operands = code ∷ s.operands;
    values = values_set s.values sets;
    status = status.Running;
  };
  emitted = emitted.Nothing;
  changes = sets;
}
answered s Abort = record {
  state = record s { status = status.Aborted };
  emitted = emitted.Nothing;
  changes = [];
}

-- ---- runs

-- how a run ends
pub data Ending : Type 0 where
  Ended : Ending
  Aborted : Ending
  Trapped : Trap → Ending
  -- a request has no answer left
  Waiting : Ending
  -- all steps were taken, any request made was answered, and the state is running
  OutOfSteps : Ending
  -- the next answer can't be taken
  Bad : SetFault → Ending
  -- a running state has no step, which never happens in a valid image
  Stuck : Ending

-- what a run results in: the requests and the changes that it made, in order, the state that it
-- reaches, the answers left, and how many steps it took
pub record Outcome : Type 0 where
  pub requests : List Request
  pub changes : List Change
  pub state : State
  pub answers : List Answer
  pub ending : Ending
  pub steps : ℕ

-- a state in which no request is pending, or why there is none: it is over, or the pending request
-- isn't answered
pub record Meeting : Type 0 where
  pub changes : List Change
  pub state : State
  pub answers : List Answer
  pub ending : Option Ending

-- no request is met: nothing changes, and all answers are left
abbrev pub nothing_met : State → List Answer → Option Ending → Meeting
nothing_met s answers ending =
    record { changes = []; state = s; answers = answers; ending = ending }

-- how a run ends in a state that has no step; a running state has one, and one that asks is met
-- first
abbrev pub over_at : Status → Option Ending
over_at status.Running = None
over_at (status.Asking r) = None
over_at status.Ended = Some Ended
over_at status.Aborted = Some Aborted
over_at (status.Trapped why) = Some (Trapped why)

-- nothing follows a step or an answer: the run goes on from the state that was reached
abbrev pub unchanged : State → State
unchanged s = s

-- after an answer, and what follows it, the run goes on or is over as the state says that they
-- lead to
abbrev pub after_answer : (follow : State → State) → Effect → List Answer → Meeting
after_answer follow e rest = record {
  changes = e.changes;
  state = follow e.state;
  answers = rest;
  ending = over_at (follow e.state).status;
}

-- the pending request is met by the next answer; an answer that can't be taken stays the next,
-- and the request stays pending
abbrev pub meet_request : (follow : State → State) → Environment → State → List Answer → Meeting
meet_request follow env s [] = nothing_met s [] (Some Waiting)
meet_request follow env s (answer ∷ rest) = elim (answer_fault env.types answer) [
  | Some fault ↦ nothing_met s (answer ∷ rest) (Some (Bad fault))
  | None ↦ after_answer follow (answered s answer) rest
]

-- a pending request is met by the next answer; else nothing is met, and the run may be over
abbrev pub meet_by : (follow : State → State) → Environment → Status → State → List Answer → Meeting
meet_by follow env (status.Asking r) s answers = meet_request follow env s answers
meet_by follow env st s answers = nothing_met s answers (over_at st)

-- the state and the answers that are left when the pending request, if there is one, has been met
abbrev pub meet : (follow : State → State) → Environment → State → List Answer → Meeting
meet follow env s answers = meet_by follow env s.status s answers

-- the run is over where the meeting left it
abbrev pub closed : Meeting → Ending → Outcome
closed m ending = record {
  requests = [];
  changes = m.changes;
  state = m.state;
  answers = m.answers;
  ending = ending;
  steps = 0;
}

-- the request that a step emits, if it emits one
abbrev pub request_in : Emitted → List Request
request_in emitted.Nothing = []
request_in (emitted.Record r) = []
request_in (emitted.Request r) = r ∷ []

-- the rest of a run, after these requests and changes
abbrev pub preceded : List Request → List Change → Outcome → Outcome
preceded requests changes rest =
    record rest { requests = requests ++ rest.requests; changes = changes ++ rest.changes }

-- the rest of a run, after one step
abbrev pub stepped : Outcome → Outcome
stepped rest = record rest { steps = suc rest.steps }

-- a run goes on with a step and what comes after it, unless it is over or has no step
abbrev pub go_on : Meeting → Option Ending → Option Effect → (Effect → Outcome) → Outcome
go_on m (Some ending) x behind = closed m ending
go_on m None None behind = closed m Stuck
go_on m None (Some e) behind =
    stepped (preceded (request_in e.emitted) (m.changes ++ e.changes) (behind e))

-- At most n steps, each request met at once by the next answer, also one pending at the start;
-- an answer counts no step. From the state after each step and each answer the run goes on at what
-- `follow` makes of it.
unfoldable pub execute_following : (follow : State → State) → Environment → (n : ℕ) → State
    → List Answer → Outcome
execute_following follow env zero s answers = let m = meet follow env s answers in closed m
    (unwrap_or m.ending OutOfSteps)
execute_following follow env (suc n) s answers =
    let m = meet follow env s answers in
    go_on m m.ending (step env m.state) (λ e. execute_following follow env n (follow e.state)
    m.answers)

-- a run of one unit, where nothing follows
unfoldable pub execute : Environment → (n : ℕ) → State → List Answer → Outcome
execute env n s answers = execute_following unchanged env n s answers

-- what follows makes no request of its own
abbrev pub AsksNothing : (State → State) → Type 0
AsksNothing follow = (s : State) (r : Request) → (follow s).status ≡ status.Asking r
    → s.status ≡ status.Asking r

-- an outcome that is out of steps, and at most n steps more from where it stopped
abbrev pub resumed_following : (follow : State → State) → Environment → (n : ℕ) → Outcome → Outcome
resumed_following follow env n o =
    let rest = execute_following follow env n o.state o.answers in
    record (preceded o.requests o.changes rest) { steps = o.steps + rest.steps }

-- an outcome that is out of steps, resumed for a run of one unit, where nothing follows
abbrev pub resumed : Environment → (n : ℕ) → Outcome → Outcome
resumed env n o = let rest = execute env n o.state o.answers in record
    (preceded o.requests o.changes rest) { steps = o.steps + rest.steps }

-- the image had a step for each running state, and no answer was bad
abbrev pub IsGoodEnding : Ending → Type 0
IsGoodEnding Ended = ⊤
IsGoodEnding Aborted = ⊤
IsGoodEnding (Trapped why) = ⊤
IsGoodEnding Waiting = ⊤
IsGoodEnding OutOfSteps = ⊤
IsGoodEnding (Bad fault) = ⊥
IsGoodEnding Stuck = ⊥
