-- What the program says of a source that is refused.
use Rattle.std.specs.Prelude.{ℕ, Bool, true, false, List, Option, Some, None, IfSome, string_bytes}
use Rattle.edd_compiler.specs.declared.fault.Fault.{Fault}
use Rattle.edd_compiler.specs.Faults.{Explains}
use Rattle.edd_compiler.specs.Words.{IsRefusalOf}
use Rattle.edd_files.specs.Names.{input_name}
use Rattle.edd_files.specs.Saves.{Account, Gave}
use Rattle.edd_program.specs.declared.stop.Stop.{Stop}
use Rattle.edd_program.specs.declared.stop.Stop.TheVariants.{File, Memory, NotCompiled, Output}

-- the words of a source's refusal
abbrev pub refusal_in : Stop → Option (List ℕ)
refusal_in (NotCompiled words) = Some (string_bytes words)
refusal_in _ = None

-- the text of a source stops the program by its refusal, or for lack of memory
abbrev pub is_of_text : Stop → Bool
is_of_text (NotCompiled words) = true
is_of_text Memory = true
is_of_text _ = false

-- the file that could not be read or written
abbrev pub file_in : Stop → Option (List ℕ)
file_in (File name) = Some name.now
file_in _ = None

-- a file or the output fails
abbrev pub is_failure : Stop → Bool
is_failure (File name) = true
is_failure Output = true
is_failure _ = false

-- where the source is refused, it is told so by the refusal of a fault that it has
abbrev pub TellsRefusal : (text : List ℕ) → Stop → Type 0
TellsRefusal text stop = IfSome (refusal_in stop)
    (λ words. (fault : Fault) × Explains text fault × IsRefusalOf text fault words)

-- the same of what the file of a source gave
abbrev pub TellsRefusalOf : Option Account → (source : List ℕ) → Stop → Type 0
TellsRefusalOf account source stop = IfSome (refusal_in stop) (λ words. (text : List ℕ)
    × Gave account (input_name source) text
    × (fault : Fault) × Explains text fault × IsRefusalOf text fault words)
