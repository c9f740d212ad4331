-- The tables of requests and of the functions that methods may call.
use Rattle.std.specs.Prelude.{ℕ, Bool, true, false, not, List, [], ◌∷◌, length, filter, Option, codes}
use Rattle.edd_syntax.specs.declared.operators.Builtin.{Builtin}
use Rattle.edd_syntax.specs.declared.operators.Builtin.TheVariants as builtin
use Rattle.edd_syntax.specs.declared.operators.Parameter.{Parameter}
use Rattle.edd_syntax.specs.declared.operators.Parameter.TheVariants.{Text, Number, DeviceVariable, Method}
use Rattle.edd_syntax.specs.declared.operators.RequestKind.{RequestKind}
use Rattle.edd_syntax.specs.declared.operators.RequestKind.TheVariants as request
use Rattle.edd_syntax.specs.declared.operators.TheConstants.{REQUESTS}
use Rattle.edd_syntax.specs.Numbers.{numbered}
use Rattle.edd_syntax.specs.Text.{Name}

-- ---- requests

-- the number of a request
abbrev pub request_number : RequestKind → ℕ
request_number request.PutMessage = 1
request_number request.Acknowledge = 2
request_number request.Delay = 3
request_number request.GetDevVarValue = 4
request_number request.SelectFromList = 5
request_number request.SendCommand = 6
request_number request.SendCommandTrans = 7
request_number request.SaveValues = 8

-- the request of a number
abbrev pub request_from_number : ℕ → Option RequestKind
request_from_number n = numbered REQUESTS n

-- the name of the function that makes a request
abbrev pub request_name : RequestKind → Name
request_name request.PutMessage = codes "PUT_MESSAGE"
request_name request.Acknowledge = codes "ACKNOWLEDGE"
request_name request.Delay = codes "DELAY"
request_name request.GetDevVarValue = codes "GET_DEV_VAR_VALUE"
request_name request.SelectFromList = codes "SELECT_FROM_LIST"
request_name request.SendCommand = codes "send_command"
request_name request.SendCommandTrans = codes "send_command_trans"
request_name request.SaveValues = codes "save_values"

-- what it takes, place by place
abbrev pub request_parameters : RequestKind → List Parameter
request_parameters request.PutMessage = Text ∷ []
request_parameters request.Acknowledge = Text ∷ []
request_parameters request.Delay = Number ∷ Text ∷ []
request_parameters request.GetDevVarValue = Text ∷ DeviceVariable ∷ []
request_parameters request.SelectFromList = Text ∷ Text ∷ []
request_parameters request.SendCommand = Number ∷ []
request_parameters request.SendCommandTrans = Number ∷ Number ∷ []
request_parameters request.SaveValues = []

-- a number, which the machine finds among its operands
abbrev pub is_number : Parameter → Bool
is_number Number = true
is_number _ = false

-- how many numbers it takes
abbrev pub numbers_taken : RequestKind → ℕ
numbers_taken kind = length (filter is_number (request_parameters kind))

-- how many texts and variables it takes, which its instruction names
abbrev pub names_taken : RequestKind → ℕ
names_taken kind = length (filter (λ p. not (is_number p)) (request_parameters kind))

-- ---- functions

-- the name of a function that a method may call
abbrev pub builtin_name : Builtin → Name
builtin_name (builtin.Ask kind) = request_name kind
builtin_name builtin.IvarValue = codes "ivar_value"
builtin_name builtin.LvarValue = codes "lvar_value"
builtin_name builtin.Iassign = codes "iassign"
builtin_name builtin.Lassign = codes "lassign"
builtin_name builtin.Abort = codes "abort"
builtin_name builtin.ProcessAbort = codes "process_abort"
builtin_name builtin.AddAbortMethod = codes "add_abort_method"

-- what a function takes, place by place
abbrev pub parameters : Builtin → List Parameter
parameters (builtin.Ask kind) = request_parameters kind
parameters builtin.IvarValue = DeviceVariable ∷ []
parameters builtin.LvarValue = DeviceVariable ∷ []
parameters builtin.Iassign = DeviceVariable ∷ Number ∷ []
parameters builtin.Lassign = DeviceVariable ∷ Number ∷ []
parameters builtin.Abort = []
parameters builtin.ProcessAbort = []
parameters builtin.AddAbortMethod = Method ∷ []
