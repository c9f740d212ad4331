-- What an instruction names, and whether it exists.
use Rattle.std.specs.Prelude.{ℕ, List, [], ◌∷◌, Bool, true, ◌&&◌, nat_lt}
use Rattle.edd_syntax.specs.Builtins.{request_parameters}
use Rattle.edd_syntax.specs.declared.operators.Parameter.{Parameter}
use Rattle.edd_syntax.specs.declared.operators.Parameter.TheVariants as parameter
use Rattle.edd_instructions.specs.declared.instruction.Ask.{Ask}
use Rattle.edd_instructions.specs.declared.instruction.Instruction.{Instruction}
use Rattle.edd_instructions.specs.declared.instruction.Instruction.TheVariants as instruction
use Rattle.edd_image.specs.declared.parts.Counts.{Counts}
use Rattle.edd_image.specs.Existing.{string_exists, optional_string_exists, variable_exists, array_exists, method_exists, item_exists}
use Rattle.edd_instructions.specs.declared.unit.Context.{Context}
use Rattle.edd_instructions.specs.Decoding.{string, variable}

-- what the operands s and t name, one after the other, exists
abbrev pub named_exist : Counts → List Parameter → (s t : ℕ) → Bool
named_exist counts [] s t = true
named_exist counts (parameter.Text ∷ more) s t = string_exists counts (string s)
    && named_exist counts more t 0
named_exist counts (parameter.DeviceVariable ∷ more) s t = variable_exists counts (variable s)
    && named_exist counts more t 0
named_exist counts (_ ∷ more) s t = named_exist counts more s t

-- the strings and the variable that a request names exist
abbrev pub request_exists : Counts → Ask → Bool
request_exists counts a = named_exist counts (request_parameters a.kind) a.first a.second

-- the strings, variables, arrays and items that it names, and the slot
abbrev pub names_exist : Context → Instruction → Bool
names_exist context (instruction.Variable v) = variable_exists context.counts v
names_exist context (instruction.Store v) = variable_exists context.counts v
names_exist context (instruction.GetLocal slot) = nat_lt slot context.slots
names_exist context (instruction.SetLocal slot) = nat_lt slot context.slots
names_exist context (instruction.ReadElement a) = array_exists context.counts a
names_exist context (instruction.Text s) = string_exists context.counts s
names_exist context (instruction.Item item quals) = item_exists context.counts item
names_exist context (instruction.DataVar v mask quals) = variable_exists context.counts v
names_exist context (instruction.Enumerator n text help) = string_exists context.counts text
    && optional_string_exists context.counts help
names_exist context (instruction.Response n class text) = string_exists context.counts text
names_exist context (instruction.Member name item label help) = string_exists context.counts name
    && (item_exists context.counts item
    && (optional_string_exists context.counts label && optional_string_exists context.counts help))
names_exist context (instruction.Element n v label help) = variable_exists context.counts v
    && (optional_string_exists context.counts label && optional_string_exists context.counts help)
names_exist context (instruction.Ask request) = request_exists context.counts request
names_exist context (instruction.AddAbortMethod m) = method_exists context.counts m
names_exist context _ = true
