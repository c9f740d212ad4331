-- What `play` and sessions show of a method of an image, and what the unit's method does.
use Rattle.std.specs.Prelude.{◌≡◌, ℕ, ℤ, List, ◌++◌, Option, Some, None, option_map}
use Rattle.edd_syntax.specs.declared.numbers.MethNo.{MethNo}
use Rattle.edd_syntax.specs.declared.numbers.ItemNo.TheVariants as items
use Rattle.edd_syntax.specs.declared.numbers.StrNo.{StrNo}
use Rattle.edd_syntax.specs.declared.reference.Target.{Target}
use Rattle.edd_syntax.specs.Words.{Words}
use Rattle.edd_syntax.specs.Item.{Description}
use Rattle.edd_syntax.specs.Answers.{Answer, Change}
use Rattle.edd_syntax.specs.DeviceValues.{AreDeviceValues}
use Rattle.edd_syntax.specs.Device.{environment, item_at}
use Rattle.edd_syntax.specs.Execution.{Transcript, run}
use Rattle.edd_instructions.specs.declared.requests.Request.{Request}
use Rattle.edd_instructions.specs.MethodAgreement.{SameRequests, ending_of}
use Rattle.edd_machine.specs.Types.{types_in}
use Rattle.edd_port.specs.declared.fault.PlayFault.{PlayFault}
use Rattle.edd_port.specs.declared.fault.PlayFault.TheVariants as play_fault
use Rattle.edd_port.specs.declared.playing.Ending.{Ending}
use Rattle.edd_port.specs.Plays.{ending_shown, played}
use Rattle.edd_port.specs.Runs.{Run}
use Rattle.edd_port.specs.Turns as turns
use Rattle.edd_port.specs.Turns.{turn_of}

-- ---- what is shown

-- what a transcript of `play` shows
pub record Shown : Type 0 where
  pub requests : List Request
  pub values : List ℤ
  pub ending : Ending

-- What `play` says of a transcript that it gives.
pub record PlayShows (b : List ℕ) (method : MethNo) (device : List ℤ) (steps : ℕ)
    (answers : List Answer) (shown : Shown) : Type 0 where
  pub accepted : AreDeviceValues (types_in b) device
  pub requests : option_map (λ o. o.requests) (played b method device steps answers)
      ≡ Some shown.requests
  pub values : option_map (λ o. o.state.values) (played b method device steps answers)
      ≡ Some shown.values
  pub ending : option_map (λ o. o.ending) (played b method device steps answers)
      ≡ Some (ending_shown shown.ending)

-- the run that is played makes these changes, of which a transcript shows the values that they leave
abbrev pub Changes : List ℕ → MethNo → (device : List ℤ) → (steps : ℕ) → List Answer → List Change
    → Type 0
Changes b method device steps answers changed =
    option_map (λ o. o.changes) (played b method device steps answers) ≡ Some changed

-- ---- what the unit's method does

-- the numbers of strings stand for these strings
module _ (string_numbered : StrNo → Option Words) where
  -- The run of the unit says the same: the same requests in order, their texts by number, the same
  -- values and the same ending.
  pub record SameShown (t : Transcript) (shown : Shown) : Type 0 where
    pub requests : SameRequests string_numbered t.requests shown.requests
    pub values : shown.values ≡ t.values
    pub ending : ending_shown shown.ending ≡ ending_of t.ending

  -- A session that made these requests and these changes and is here shows the same as the run of the
  -- unit.
  pub record SameSession (t : Transcript) (made : List Request) (changed : List Change) (now : Run)
      : Type 0 where
    pub requests : SameRequests string_numbered t.requests made
    pub changes : changed ≡ t.changes
    pub values : now.state.values ≡ t.values
    pub ending : turns.ending_of (turn_of now.state.status) ≡ ending_of t.ending

  -- the method's run begins with these requests and these changes: within some turns it makes them, and
  -- perhaps more
  pub record BeginsWith (unit : Description Target) (method : MethNo) (device : List ℤ)
      (answers : List Answer) (made : List Request) (changed : List Change) : Type 0 where
    pub turns : ℕ
    pub more : List Request
    pub later : List Change
    pub requests : SameRequests string_numbered (run turns unit method device answers).requests
        (made ++ more)
    pub changes : (run turns unit method device answers).changes ≡ changed ++ later

-- what a fault of `play` says of the unit's method, where all answers are valid
abbrev pub IsRefusedPlay : Description Target → MethNo → (device : List ℤ) → PlayFault → Type 0
IsRefusedPlay unit method device play_fault.NoItem = item_at unit (items.Method method) ≡ None
IsRefusedPlay unit method device play_fault.WrongValues =
    ¬ AreDeviceValues (environment unit).variables device
IsRefusedPlay unit method device play_fault.BadVariable = ⊥
IsRefusedPlay unit method device play_fault.OutOfRange = ⊥
IsRefusedPlay unit method device play_fault.Memory = Unit {0}
