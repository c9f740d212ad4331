-- What is printed of tokens that spell no unit.
use Rattle.std.specs.Prelude.{ℕ, List, ◌++◌, codes, string_bytes}
use Rattle.edd_token_reader.specs.declared.fault.ParseFault.{ParseFault}
use Rattle.edd_token_reader.specs.declared.fault.ParseFault.TheVariants as fault

-- the words of a fault: its number, its kind and a word, without a line
abbrev pub words_of : ParseFault → List ℕ
words_of (fault.Syntax at) = codes "10 SYNTAX"
words_of (fault.TooDeep at) = codes "11 TOO_DEEP"
words_of (fault.Unsupported at word) = codes "12 UNSUPPORTED " ++ string_bytes word
words_of fault.Memory = codes "no memory"
