-- What the names of a command line stand for.
use Rattle.std.specs.Prelude.{ℕ, List, Option, Some, None, codes, ◌++◌, if◌then◌else◌}
use Rattle.std.specs.Str.{bytes_eq}
use Rattle.edd_files.specs.declared.named.NamedFault.{NamedFault}
use Rattle.edd_files.specs.declared.named.NamedFault.TheVariants as named_fault

-- the file that a name is read from: `-` is the standard input
abbrev pub input_name : List ℕ → List ℕ
input_name name = if bytes_eq name (codes "-") then codes "/dev/stdin" else name

-- the file that a name is written to: `-` is the standard output
abbrev pub output_name : List ℕ → List ℕ
output_name name = if bytes_eq name (codes "-") then codes "/dev/stdout" else name

-- the option that has files of tests written anew
abbrev pub update_word : List ℕ
update_word = codes "--update"

-- the option for a record
abbrev pub record_word : List ℕ
record_word = codes "--record"

-- the option for a record and its file in one word
abbrev pub record_word_of : (name : List ℕ) → List ℕ
record_word_of name = codes "--record=" ++ name

-- the name of the file that failed; out of memory is no file's fault
abbrev pub file_named : NamedFault → Option (List ℕ)
file_named (named_fault.File name fault) = Some name.now
file_named named_fault.Memory = None
