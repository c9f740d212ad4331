-- What calls on a session make of it, and the one execution that does the same.
use Rattle.std.specs.Prelude.{◌≡◌, ℕ, ◌+◌, ℤ, List, [], ◌∷◌, ◌++◌, map}
use Rattle.edd_syntax.specs.declared.numbers.MethNo.{MethNo}
use Rattle.edd_syntax.specs.Answers.{Answer, Change}
use Rattle.edd_syntax.specs.DeviceValues.{AreDeviceValues}
use Rattle.edd_image.specs.Contents.{contents_in}
use Rattle.edd_instructions.specs.declared.requests.Request.{Request}
use Rattle.edd_instructions.specs.AbortMethods.{execute_in}
use Rattle.edd_instructions.specs.Execution.{Outcome}
use Rattle.edd_machine.specs.Types.{types_in}
use Rattle.edd_port.specs.Books.{Pair}
use Rattle.edd_port.specs.Drives.{AreMet, AreValid, Takes, driven}
use Rattle.edd_port.specs.Refusals.{sets_of}
use Rattle.edd_port.specs.Runs.{OpensIn, Run, advanced}
use Rattle.edd_port.specs.Turns.{turn_of, ending_of}

-- what was done so far: how many instructions were executed, which answers were taken, and which
-- requests and changes of variables were made
pub record Past : Type 0 where
  pub steps : ℕ
  pub answers : List Answer
  pub requests : List Request
  pub changes : List Change

-- at a session's start
abbrev pub nothing_done : Past
nothing_done = record { steps = 0; answers = []; requests = []; changes = [] }

-- an execution under these answers is done as well
abbrev pub with_run : Past → List Answer → Outcome → Past
with_run past answers o = record {
  steps = past.steps + o.steps;
  answers = past.answers ++ answers;
  requests = past.requests ++ o.requests;
  changes = past.changes ++ o.changes;
}

-- the pending request is answered as well, which changes what the answer sets
abbrev pub with_answer : Past → Answer → Past
with_answer past answer = record past {
  answers = past.answers ++ answer ∷ [];
  changes = past.changes ++ sets_of answer;
}

-- the answers of these pairs
abbrev pub answers_of : List Pair → List Answer
answers_of pairs = map (λ p. p.answer) pairs

-- the requests of these pairs
abbrev pub requests_of : List Pair → List Request
requests_of pairs = map (λ p. p.request) pairs

-- What `advance` says of a session before and after it.
pub record Advances (before : Run) (budget : ℕ) (after : Run) : Type 0 where
  pub image : after.image ≡ before.image
  pub state : after.state ≡ (advanced before budget).state

-- What `drive` says of a session before and after it, where it accepted the answers of these pairs,
-- which are valid.
pub record Drives (before : Run) (steps : ℕ) (pairs : List Pair) (after : Run) : Type 0 where
  pub image : after.image ≡ before.image
  pub state : after.state ≡ (driven before steps pairs).state
  pub used : (driven before steps pairs).answers ≡ []
  pub valid : AreValid (types_in before.image) pairs

-- This is what calls on a session, in any order and however it is cut, make of it.
pub data Comes (first : Run) : Past → Run → Type 0 where
  -- it was just started
  Started : Comes first nothing_done first
  -- it is advanced, within any budget
  Advanced : (past : Past) (before after : Run) (budget : ℕ) → Comes first past before
      → Advances before budget after
      → Comes first (with_run past [] (advanced before budget)) after
  -- the pending request is answered
  Answered : (past : Past) (before after : Run) (pair : Pair) → Comes first past before
      → Takes before pair after → Comes first (with_answer past pair.answer) after
  -- a host drives it
  Driven : (past : Past) (before after : Run) (steps : ℕ) (pairs : List Pair)
      → Comes first past before → Drives before steps pairs after
      → Comes first (with_run past (answers_of pairs) (driven before steps pairs)) after

-- A session on this method of the image, started under these values of a device, that did this and
-- is now here.
pub record IsSession (b : List ℕ) (method : MethNo) (device : List ℤ) (past : Past) (now : Run)
    : Type 0 where
  pub first : Run
  pub image : first.image ≡ b
  pub opens : OpensIn b method device first.state
  pub accepted : AreDeviceValues (types_in b) device
  pub comes : Comes first past now

-- A session on this method of the image that a host drove from its start to here, where the answers
-- of these pairs were accepted.
pub record IsDriven (b : List ℕ) (method : MethNo) (device : List ℤ) (steps : ℕ)
    (pairs : List Pair) (now : Run) : Type 0 where
  pub first : Run
  pub image : first.image ≡ b
  pub opens : OpensIn b method device first.state
  pub accepted : AreDeviceValues (types_in b) device
  pub drives : Drives first steps pairs now
  pub met : AreMet first.state (driven first steps pairs) (requests_of pairs)

-- what results from a session's start within so many instructions under these answers, in one piece
abbrev pub at_once : Run → (steps : ℕ) → List Answer → Outcome
at_once first steps answers = execute_in (contents_in first.image) steps first.state answers

-- The session is where one execution, of as many instructions and under the same answers, gets: it
-- makes the same requests and changes, uses all answers, and ends as the session's turn shows.
pub record IsOneRun (first : Run) (past : Past) (now : Run) : Type 0 where
  pub image : now.image ≡ first.image
  pub state : now.state ≡ (at_once first past.steps past.answers).state
  pub requests : (at_once first past.steps past.answers).requests ≡ past.requests
  pub changes : (at_once first past.steps past.answers).changes ≡ past.changes
  pub used : (at_once first past.steps past.answers).answers ≡ []
  pub count : (at_once first past.steps past.answers).steps ≡ past.steps
  pub ending : (at_once first past.steps past.answers).ending
      ≡ ending_of (turn_of now.state.status)
