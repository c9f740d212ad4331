-- A method that is run with a device: a run of the image under the answers that were given.
use Rattle.std.specs.Prelude.{◌≡◌, ◌⊎◌, ℕ, ◌-◌, ℤ, List, [], ◌∷◌, ◌++◌, Option, Some, None, Ok, Err, option_map}
use Rattle.edd_syntax.specs.declared.numbers.MethNo.{MethNo}
use Rattle.edd_syntax.specs.Answers.{Answer, Abort, answer_fault}
use Rattle.edd_image.specs.Contents.{contents_in}
use Rattle.edd_instructions.specs.declared.requests.Request.{Request}
use Rattle.edd_instructions.specs.declared.records.Status.TheVariants.{Asking}
use Rattle.edd_instructions.specs.AbortMethods.{answered_in, execute_in}
use Rattle.edd_instructions.specs.Steps.{State}
use Rattle.edd_port.specs.declared.fault.PlayFault.{PlayFault}
use Rattle.edd_port.specs.declared.fault.PlayFault.TheVariants as play_fault
use Rattle.edd_port.specs.declared.playing.Ending.{Ending}
use Rattle.edd_port.specs.declared.playing.Transcript.{Transcript}
use Rattle.edd_port.specs.Drives.{standing}
use Rattle.edd_port.specs.Faults.{play_refusal}
use Rattle.edd_port.specs.Plays.{IsFaultOf, ending_shown, played, under}
use Rattle.edd_port.specs.Refusals.{BadSet}
use Rattle.edd_port.specs.Runs.{OpensIn, Run, environment}
use Rattle.edd_device.specs.declared.fault.DeviceFault.{DeviceFault}
use Rattle.edd_device.specs.Devices.{IsReply, Simulated}

-- ---- who answers

-- the device, and a user, whose answers are in a script, with the first fault of the device so far
pub record Others : Type 0 where
  pub device : Simulated
  pub script : List Answer
  pub fault : Option DeviceFault

-- the first fault, after one more
abbrev pub first_fault : Option DeviceFault → DeviceFault → Option DeviceFault
first_fault None fault = Some fault
first_fault (Some first) fault = Some first

-- the device answers the request that is made under these values, and has other values then
abbrev pub ByDevice : Others → (values : List ℤ) → Request → Answer → Others → Type 0
ByDevice s values r a t =
    IsReply s.device values r (Ok (record { values = t.device.values; answer = Some a }))
    × (t ≡ record s { device = record s.device { values = t.device.values } })

-- the request is not for the device, and the user gives the next answer
abbrev pub ByUser : Others → (values : List ℤ) → Request → Answer → Others → Type 0
ByUser s values r a t =
    IsReply s.device values r (Ok (record { values = s.device.values; answer = None }))
    × (s.script ≡ a ∷ t.script) × (t ≡ record s { script = t.script })

-- the device has a fault, and the method is aborted
abbrev pub InVain : Others → (values : List ℤ) → Request → Answer → Others → Type 0
InVain s values r a t =
    (fault : DeviceFault) × IsReply s.device values r (Err fault) × (a ≡ Abort)
    × (t ≡ record s { fault = first_fault s.fault fault })

-- The request is answered by the device or by the user, or in vain.
abbrev pub IsAnswered : Others → (values : List ℤ) → Request → Answer → Others → Type 0
IsAnswered s values r a t =
    ByDevice s values r a t ⊎ (ByUser s values r a t ⊎ InVain s values r a t)

-- These answers are given to a run that goes on from a state, for at most so many steps: each to
-- the request at which it stands then, under the values that it has there.
abbrev pub AreGiven : (b : List ℕ) → Others → (steps : ℕ) → State → List Answer → Others → Type 0
AreGiven b s steps now [] t = t ≡ s
AreGiven b s steps now (a ∷ rest) t =
    let o = execute_in (contents_in b) steps now [] in
    (r : Request) × (o.state.status ≡ Asking r) × (u : Others) × IsAnswered s o.state.values r a u
    × AreGiven b u (steps - o.steps) (answered_in (contents_in b) o.state a).state rest t

-- ---- the whole

-- a transcript is what the method does within so many steps under these answers
pub record IsPlayed (b : List ℕ) (method : MethNo) (start : List ℤ) (steps : ℕ)
    (given : List Answer) (t : Transcript) : Type 0 where
  pub requests : option_map (λ o. o.requests) (played b method start steps given)
      ≡ Some t.requests.items
  pub values : option_map (λ o. o.state.values) (played b method start steps given)
      ≡ Some t.values.numbers.items
  pub ending : option_map (λ o. o.ending) (played b method start steps given)
      ≡ Some (ending_shown t.ending)

-- It is that under the answers that these gave, who are others then.
pub record IsTrial (b : List ℕ) (method : MethNo) (start : List ℤ) (steps : ℕ) (s t : Others)
    (transcript : Transcript) : Type 0 where
  pub given : List Answer
  pub opening : State
  pub opens : OpensIn b method start opening
  pub talk : AreGiven b s steps opening given t
  pub played : IsPlayed b method start steps given transcript

-- ---- on the way

-- from the first run the session led to this one, these requests and this ending under the answers
-- that these gave
pub record LeadsTo (first : Run) (steps : ℕ) (s : Others) (now : Run) (t : Others)
    (requests : List Request) (ending : Ending) : Type 0 where
  pub given : List Answer
  pub talk : AreGiven first.image s steps first.state given t
  pub made : standing first.state.status ++ (under first steps given).requests ≡ requests
  pub state : now.state ≡ (under first steps given).state
  pub ends : (under first steps given).ending ≡ ending_shown ending

-- under some answers the run ends with this fault
abbrev pub IsRefused : (first : Run) → (steps : ℕ) → PlayFault → Type 0
IsRefused first steps fault =
    (given : List Answer) × IsFaultOf fault (under first steps given).ending

-- the pending request gets an answer that can't be taken, or memory is refused
abbrev pub Refuses : Run → PlayFault → Type 0
Refuses now play_fault.NoItem = ⊥
Refuses now play_fault.WrongValues = ⊥
Refuses now play_fault.BadVariable = (answer : Answer)
    × (option_map BadSet (answer_fault (environment now.image).types answer)
    ≡ play_refusal play_fault.BadVariable)
Refuses now play_fault.OutOfRange = (answer : Answer)
    × (option_map BadSet (answer_fault (environment now.image).types answer)
    ≡ play_refusal play_fault.OutOfRange)
Refuses now play_fault.Memory = Unit {0}
