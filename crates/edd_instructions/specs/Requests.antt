-- What a request of a method asks, and which request an instruction makes.
use Rattle.std.specs.Prelude.{ℕ, ℤ, pos, List, [], ◌∷◌}
use Rattle.edd_syntax.specs.declared.operators.RequestKind.{RequestKind}
use Rattle.edd_syntax.specs.declared.operators.RequestKind.TheVariants as kind
use Rattle.edd_instructions.specs.declared.instruction.Ask.{Ask}
use Rattle.edd_instructions.specs.declared.requests.Request.{Request}
use Rattle.edd_instructions.specs.declared.requests.Request.TheVariants as request
use Rattle.edd_instructions.specs.declared.requests.RequestArgument.{RequestArgument}
use Rattle.edd_instructions.specs.declared.requests.RequestArgument.TheVariants.{Text, Number, Variable}
use Rattle.edd_instructions.specs.declared.requests.Wanted.{Wanted}
use Rattle.edd_instructions.specs.declared.requests.Wanted.TheVariants as wanted
use Rattle.edd_instructions.specs.Decoding.{string, variable}

-- which request it is
abbrev pub kind_asked : Request → RequestKind
kind_asked (request.PutMessage text) = kind.PutMessage
kind_asked (request.Acknowledge text) = kind.Acknowledge
kind_asked (request.Delay seconds text) = kind.Delay
kind_asked (request.GetDevVarValue text v) = kind.GetDevVarValue
kind_asked (request.SelectFromList text choices) = kind.SelectFromList
kind_asked (request.SendCommand number) = kind.SendCommand
kind_asked (request.SendCommandTrans number transaction) = kind.SendCommandTrans
kind_asked request.SaveValues = kind.SaveValues

-- its arguments in written order
abbrev pub arguments_asked : Request → List RequestArgument
arguments_asked (request.PutMessage text) = Text text ∷ []
arguments_asked (request.Acknowledge text) = Text text ∷ []
arguments_asked (request.Delay seconds text) = Number seconds ∷ Text text ∷ []
arguments_asked (request.GetDevVarValue text v) = Text text ∷ Variable v ∷ []
arguments_asked (request.SelectFromList text choices) = Text text ∷ Text choices ∷ []
arguments_asked (request.SendCommand number) = Number number ∷ []
arguments_asked (request.SendCommandTrans number transaction) = Number number ∷ Number transaction
    ∷ []
arguments_asked request.SaveValues = []

-- the request with what the instruction names, s and t, and with the numbers x and y
abbrev pub request_with : RequestKind → (s t : ℕ) → (x y : ℤ) → Request
request_with kind.PutMessage s t x y = request.PutMessage (string s)
request_with kind.Acknowledge s t x y = request.Acknowledge (string s)
request_with kind.Delay s t x y = request.Delay x (string s)
request_with kind.GetDevVarValue s t x y = request.GetDevVarValue (string s) (variable t)
request_with kind.SelectFromList s t x y = request.SelectFromList (string s) (string t)
request_with kind.SendCommand s t x y = request.SendCommand x
request_with kind.SendCommandTrans s t x y = request.SendCommandTrans x y
request_with kind.SaveValues s t x y = request.SaveValues

-- the request that an instruction makes with these numbers
abbrev pub request_of : Ask → (first second : ℤ) → Request
request_of a first second = request_with a.kind a.first a.second first second

-- its numbers in written order; 0 stands where there are fewer than two
abbrev pub numbers_in : Request → ℤ × ℤ
numbers_in (request.Delay seconds text) = (seconds, pos 0)
numbers_in (request.SendCommand number) = (number, pos 0)
numbers_in (request.SendCommandTrans number transaction) = (number, transaction)
numbers_in _ = (pos 0, pos 0)

-- what a user answers
abbrev pub wanted_by : Request → Wanted
wanted_by (request.PutMessage text) = wanted.Nothing
wanted_by (request.Acknowledge text) = wanted.Nothing
wanted_by (request.Delay seconds text) = wanted.Nothing
wanted_by (request.GetDevVarValue text v) = wanted.Value v
wanted_by (request.SelectFromList text choices) = wanted.Choice choices
wanted_by (request.SendCommand number) = wanted.Code
wanted_by (request.SendCommandTrans number transaction) = wanted.Code
wanted_by request.SaveValues = wanted.Code
