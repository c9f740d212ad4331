-- A simulated device, and what it does with a request.
use Rattle.std.specs.Prelude.{◌≡◌, ℕ, ℤ, pos, List, [], Option, Some, None, IfSome, is_some, Result, Ok}
use Rattle.edd_syntax.specs.declared.numbers.MethNo.{MethNo}
use Rattle.edd_syntax.specs.Answers.{Answer, Go, IsValidAnswer}
use Rattle.edd_instructions.specs.declared.records.Record.{Record}
use Rattle.edd_instructions.specs.declared.requests.Request.{Request}
use Rattle.edd_instructions.specs.declared.requests.Request.TheVariants as request
use Rattle.edd_machine.specs.Types.{types_in}
use Rattle.edd_device.specs.declared.fault.DeviceFault.{DeviceFault}
use Rattle.edd_device.specs.Copies.{requested, replied, code_cleared, code_of}
use Rattle.edd_device.specs.Messages.{Message, IsMessage}
use Rattle.edd_device.specs.Methods.{Now, ◌>>=◌, ran_if_any, waited}
use Rattle.edd_device.specs.Names.{command_method, method_named}

-- the images of the instrument and of its device, and the device's values
pub record Simulated : Type 0 where
  pub instrument : List ℕ
  pub image : List ℕ
  pub values : List ℤ

-- the device's values after a request, and its answer, if the request is for the device
pub record Step : Type 0 where
  pub values : List ℤ
  pub answer : Option Answer

-- what it answers can be taken: the code has 32 bits, and each set names a variable of the
-- instrument and a value in its range
abbrev pub HasValidAnswer : (instrument : List ℕ) → Step → Type 0
HasValidAnswer instrument step = IfSome step.answer (IsValidAnswer (types_in instrument))

-- how many instructions a device may execute for one request
abbrev pub most_steps : ℕ
most_steps = 1000000

-- the code 0, and nothing is set
abbrev pub done_answer : Answer
done_answer = Go (pos 0) []

-- the step to these values, with the answer of code 0
abbrev pub done : (values : List ℤ) → Step
done values = record { values = values; answer = Some done_answer }

-- the device takes the values of the request, and its code is set to 0
abbrev pub started : Simulated → (values : List ℤ) → (request : List Record) → Result Now
    DeviceFault
started s values request = requested s.instrument s.image values request s.values
    >>= λ device. Ok (record { values = code_cleared s.image device; left = most_steps })

-- the answer is made of what the device has then
abbrev pub answered : Simulated → (reply : List Record) → Now → Result Step DeviceFault
answered s reply now = code_of s.image now.values
    >>= λ code. replied s.instrument s.image reply now.values
    >>= λ sets. Ok (record { values = now.values; answer = Some (Go code sets) })

-- between the two the method for the transaction runs, if the device has one
abbrev pub sent : Simulated → (values : List ℤ) → Option MethNo → Message → Result Step DeviceFault
sent s values method m = started s values m.request >>= λ now. ran_if_any s.image method now
    >>= λ next. answered s m.reply next

-- the device's method for a transaction
abbrev pub method_for : Simulated → (number transaction : ℤ) → Option MethNo
method_for s number transaction = method_named s.image (command_method number transaction)

-- what comes of a transaction that is sent under the instrument's values
abbrev pub IsSent : Simulated → (values : List ℤ) → (number transaction : ℤ)
    → Result Step DeviceFault → Type 0
IsSent s values number transaction r = (m : Result Message DeviceFault)
    × IsMessage s.instrument values number transaction
    (is_some (method_for s number transaction)) m
    × (r ≡ (m >>= λ message. sent s values (method_for s number transaction) message))

-- what comes of so many seconds
abbrev pub delayed : Simulated → (seconds : ℤ) → Result Step DeviceFault
delayed s seconds = waited s.image seconds (record { values = s.values; left = most_steps })
    >>= λ now. Ok (done now.values)

-- What comes of a request that is made under the instrument's values. A command without the number
-- of a transaction is that with the number 0; what asks the user is not for the device.
abbrev pub IsReply : Simulated → (values : List ℤ) → Request → Result Step DeviceFault → Type 0
IsReply s values (request.SendCommand number) r = IsSent s values number (pos 0) r
IsReply s values (request.SendCommandTrans number transaction) r =
    IsSent s values number transaction r
IsReply s values (request.Delay seconds text) r = r ≡ delayed s seconds
IsReply s values (request.PutMessage text) r = r ≡ Ok (done s.values)
IsReply s values request.SaveValues r = r ≡ Ok (done s.values)
IsReply s values _ r = r ≡ Ok (record { values = s.values; answer = None })
