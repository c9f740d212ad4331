-- What the methods of a device make of its values.
use Rattle.std.specs.Prelude.{ℕ, zero, suc, ◌-◌, ℤ, pos, negsuc, List, [], Option, Some, None, Result, Ok, Err}
use Rattle.edd_syntax.specs.declared.numbers.MethNo.{MethNo}
use Rattle.edd_image.specs.Contents.{contents_in}
use Rattle.edd_instructions.specs.AbortMethods.{execute_in}
use Rattle.edd_instructions.specs.Execution as execution
use Rattle.edd_instructions.specs.Execution.{Outcome}
use Rattle.edd_instructions.specs.Reading.{body_of, opening_of}
use Rattle.edd_device.specs.declared.fault.DeviceFault.{DeviceFault}
use Rattle.edd_device.specs.declared.fault.DeviceFault.TheVariants.{Asks, Traps, Aborts, RunsOn}
use Rattle.edd_device.specs.Names.{method_named, second}

-- the device's values, and how many instructions it may still execute for this request
pub record Now : Type 0 where
  pub values : List ℤ
  pub left : ℕ

-- a step that may fail, and the next
infixl 10 ◌>>=◌
-- goes on with the result; a fault is passed on
abbrev pub ◌>>=◌ : {A B : Type 0} → Result A DeviceFault → (A → Result B DeviceFault)
    → Result B DeviceFault
Ok x >>= f = f x
Err fault >>= f = Err fault

-- What a run without answers means for the device: only one that comes to its end is right. No
-- answer is bad where there is none, and no run of a valid image is stuck.
abbrev pub ended : MethNo → (left : ℕ) → execution.Ending → Outcome → Result Now DeviceFault
ended m left execution.Ended o = Ok (record { values = o.state.values; left = left - o.steps })
ended m left execution.Aborted o = Err (Aborts m)
ended m left (execution.Trapped why) o = Err (Traps m why)
ended m left execution.Waiting o = Err (Asks m)
ended m left execution.OutOfSteps o = Err (RunsOn m)
ended m left (execution.Bad fault) o = Err (RunsOn m)
ended m left execution.Stuck o = Err (RunsOn m)

-- what a method makes of the device; one without a body does nothing
abbrev pub ran : (d : List ℕ) → MethNo → Now → Result Now DeviceFault
ran d m now = elim (body_of (contents_in d) m) [
  | None ↦ Ok now
  | Some row ↦
      let o = execute_in (contents_in d) now.left (opening_of (contents_in d) row now.values) [] in
      ended m now.left o.ending o
]

-- where the device has no method, nothing comes of it
abbrev pub ran_if_any : (d : List ℕ) → Option MethNo → Now → Result Now DeviceFault
ran_if_any d None now = Ok now
ran_if_any d (Some m) now = ran d m now

-- what a method makes of the device, one run after the other
abbrev pub ran_times : (d : List ℕ) → MethNo → (times : ℕ) → Now → Result Now DeviceFault
ran_times d m zero now = Ok now
ran_times d m (suc times) now = ran d m now >>= λ next. ran_times d m times next

-- a delay of less than 0 seconds is none
abbrev pub whole_seconds : ℤ → ℕ
whole_seconds (pos n) = n
whole_seconds (negsuc n) = 0

-- what so many seconds make of the device
abbrev pub waited : (d : List ℕ) → (seconds : ℤ) → Now → Result Now DeviceFault
waited d seconds now = elim (method_named d second) [
  | None ↦ Ok now
  | Some m ↦ ran_times d m (whole_seconds seconds) now
]
