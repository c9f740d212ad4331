-- A session that is driven by a host.
use Rattle.std.specs.Prelude.{◌≡◌, ◌≢◌, ℕ, ◌+◌, ◌-◌, ◌<◌, ◌≤◌, List, [], ◌∷◌, ◌++◌, length, map, drop, take, Some, None, option_map, ⊤, ◌⊎◌}
use Rattle.std.specs.List.{AllByRecursion}
use Rattle.edd_syntax.specs.Answers.{answer_fault}
use Rattle.edd_syntax.specs.DeviceValues.{VariableType}
use Rattle.edd_instructions.specs.declared.requests.Request.{Request}
use Rattle.edd_instructions.specs.declared.records.Status.{Status}
use Rattle.edd_instructions.specs.declared.records.Status.TheVariants as status
use Rattle.edd_instructions.specs.AbortMethods.{answered_in, execute_in}
use Rattle.edd_image.specs.Contents.{contents_in}
use Rattle.edd_instructions.specs.Execution as execution
use Rattle.edd_instructions.specs.Execution.{Outcome}
use Rattle.edd_instructions.specs.Steps.{State}
use Rattle.edd_port.specs.declared.turn.Drive.{Drive}
use Rattle.edd_port.specs.declared.turn.Drive.TheVariants.{Done, Waiting, Refused, HostFailed}
use Rattle.edd_port.specs.declared.turn.Turn.{Turn}
use Rattle.edd_port.specs.declared.turn.Turn.TheVariants as turn
use Rattle.edd_port.specs.Books.{Pair, Book, with_pair, with_nothing, with_failure}
use Rattle.edd_port.specs.Faults.{answer_fault_of}
use Rattle.edd_port.specs.Refusals.{BadSet, CodeFits}
use Rattle.edd_port.specs.Runs.{Run, environment, advanced, counted}
use Rattle.edd_port.specs.Turns.{turn_of}

-- ---- the law of a drive

-- the pairs that a host has after those that it had
abbrev pub added : Book → Book → List Pair
added before after = drop (length before.pairs) after.pairs

-- of these pairs those whose answer was taken: all but the last where its answer was refused
abbrev pub accepted : Drive → List Pair → List Pair
accepted (Done t) pairs = pairs
accepted Waiting pairs = pairs
accepted (Refused fault) pairs = take (length pairs - 1) pairs
accepted HostFailed pairs = pairs

-- the code of each of these answers has 32 bits, and none of its sets has a fault
abbrev pub AreValid : List VariableType → List Pair → Type 0
AreValid types pairs =
    AllByRecursion (λ pair. CodeFits pair.answer × (answer_fault types pair.answer ≡ None)) pairs

-- what a run results in within so many steps under the answers of these pairs
abbrev pub driven : Run → (steps : ℕ) → List Pair → Outcome
driven r steps pairs =
    execute_in (contents_in r.image) steps r.state (map (λ p. p.answer) pairs)

-- the pending request, if there is one
abbrev pub standing : Status → List Request
standing (status.Asking r) = r ∷ []
standing _ = []

-- These requests were met: the one pending at the start and those that were made are these, and
-- after them the one still pending at the end.
abbrev pub AreMet : State → Outcome → List Request → Type 0
AreMet s o met = standing s.status ++ o.requests ≡ met ++ standing o.state.status

-- how the execution ends: it waits after each end but `Done`, which never comes with a turn that
-- asks
abbrev pub EndsAs : Drive → execution.Ending → Type 0
EndsAs (Done (turn.Asks r)) ending = ⊥
EndsAs (Done turn.Ended) ending = ending ≡ execution.Ended
EndsAs (Done turn.Aborted) ending = ending ≡ execution.Aborted
EndsAs (Done (turn.Trapped why)) ending = ending ≡ execution.Trapped why
EndsAs (Done turn.Spent) ending = ending ≡ execution.OutOfSteps
EndsAs Waiting ending = ending ≡ execution.Waiting
EndsAs (Refused fault) ending = ending ≡ execution.Waiting
EndsAs HostFailed ending = ending ≡ execution.Waiting

-- what the session shows after a drive: the turn with which it is done, else the pending request
abbrev pub Shows : Drive → Turn → Type 0
Shows (Done t) shown = shown ≡ t
Shows Waiting shown = (r : Request) × (shown ≡ turn.Asks r)
Shows (Refused fault) shown = (r : Request) × (shown ≡ turn.Asks r)
Shows HostFailed shown = (r : Request) × (shown ≡ turn.Asks r)

-- what the host's count of nothing and that of failures are after a drive
abbrev pub nothing_after : Drive → ℕ → ℕ
nothing_after (Done t) n = n
nothing_after Waiting n = counted (n + 1)
nothing_after (Refused fault) n = n
nothing_after HostFailed n = n

-- the host's count of failures after a drive
abbrev pub failed_after : Drive → ℕ → ℕ
failed_after (Done t) n = n
failed_after Waiting n = n
failed_after (Refused fault) n = n
failed_after HostFailed n = counted (n + 1)

-- where an answer was refused, it is that of the last pair, which is of the pending request,
-- and this is its fault
abbrev pub RefusesLast : List VariableType → Drive → State → List Pair → Type 0
RefusesLast types (Done t) s pairs = ⊤
RefusesLast types Waiting s pairs = ⊤
RefusesLast types (Refused fault) s pairs = (others : List Pair) × (p : Pair)
    × (pairs ≡ others ++ p ∷ []) × (s.status ≡ status.Asking p.request)
    × (option_map BadSet (answer_fault types p.answer) ≡ Some (answer_fault_of fault))
RefusesLast types HostFailed s pairs = ⊤

-- ---- one turn of a drive

-- instructions are executed, at least one and no more than are left
pub record Executes (left : ℕ) (before : Run) (fewer : ℕ) (after : Run) : Type 0 where
  pub budget : ℕ
  pub within : budget ≤ left
  pub image : after.image ≡ before.image
  pub state : after.state ≡ (advanced before budget).state
  pub taken : after.taken ≡ counted (before.taken + (advanced before budget).steps)
  pub counts : (advanced before budget).steps + fewer ≡ left
  pub some : fewer < left

-- the answer of this pair is taken for the pending request
pub record Takes (before : Run) (pair : Pair) (after : Run) : Type 0 where
  pub asks : before.state.status ≡ status.Asking pair.request
  pub valid : answer_fault (environment before.image).types pair.answer ≡ None
  pub fits : CodeFits pair.answer
  pub is : after ≡ record before {
    state = (answered_in (contents_in before.image) before.state pair.answer).state;
  }

-- the drive goes on with so many instructions left: some were executed and the host was not asked,
-- or it gave an answer
abbrev pub GoesOn : (left : ℕ) → Run → Book → (fewer : ℕ) → Run → Book → Type 0
GoesOn left before book fewer after new =
    (Executes left before fewer after × (new ≡ book))
    ⊎ ((fewer ≡ left) × ((pair : Pair) × Takes before pair after × (new ≡ with_pair book pair)))

-- the drive ends here, with what it made of the host's book
abbrev pub Stops : (left : ℕ) → Run → Drive → Book → Book → Type 0
Stops left r (Done t) book new = (turn_of r.state.status ≡ t) × ((q : Request) → t ≢ turn.Asks q)
    × (t ≡ turn.Spent → left ≡ 0) × (new ≡ book)
Stops left r Waiting book new = (q : Request) × (r.state.status ≡ status.Asking q)
    × (new ≡ with_nothing book)
Stops left r (Refused fault) book new =
    (pair : Pair) × (r.state.status ≡ status.Asking pair.request)
    × (option_map BadSet (answer_fault (environment r.image).types pair.answer)
    ≡ Some (answer_fault_of fault)) × (new ≡ with_pair book pair)
Stops left r HostFailed book new = (q : Request) × (r.state.status ≡ status.Asking q)
    × (new ≡ with_failure book)
