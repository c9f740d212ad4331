-- What lowering a method's body results in.
use Rattle.std.specs.Prelude.{◌≡◌, ℕ, List, ◌++◌, Option, Some, None}
use Rattle.std.specs.List.{Contains}
use Rattle.edd_syntax.specs.declared.numbers.MethNo.{MethNo}
use Rattle.edd_syntax.specs.declared.reference.Target.{Target}
use Rattle.edd_syntax.specs.Execution.{body_in, body_of}
use Rattle.edd_syntax.specs.Item.{Attribute, Description}
use Rattle.edd_syntax.specs.Statement.{Body, Nil}
use Rattle.edd_syntax.specs.Strings.{strings_of_texts}
use Rattle.edd_syntax.specs.Words.{Words}
use Rattle.edd_instructions.specs.declared.instruction.Instruction.TheVariants.{End}
use Rattle.edd_instructions.specs.Spelling.{spelling}
use Rattle.edd_code.specs.Tables.{AreDifferent, GrowsBy, number_in}
use Rattle.edd_methods.specs.MethodCode.{method_code}
use Rattle.edd_methods.specs.Statements.{bytes_at}
use Rattle.edd_methods.specs.Writing.{body_texts}

-- the body of a method with these attributes, if there is one
abbrev pub found_body : Option (List (Attribute Target)) → Body Target
found_body None = Nil
found_body (Some attributes) = body_in attributes

-- the strings of a method's body
abbrev pub strings_of_method : Description Target → MethNo → List Words
strings_of_method unit m = strings_of_texts (body_texts (body_of unit m))

-- The table grew by the body's strings alone and holds them, and the code is the body's with an end
-- after it, whose statements jump to no place outside; strings have their numbers in the new table
-- and in any that begins with it.
pub record LowersBody (old : List Words) (body : Body Target) (new : List Words)
    (code : List ℕ) : Type 0 where
  pub table : GrowsBy old (strings_of_texts (body_texts body)) new
  pub holds : (w : Words) → Contains (strings_of_texts (body_texts body)) w → Contains new w
  pub written : AreDifferent old → (later : List Words)
      → code ≡ bytes_at 0 0 0 (method_code (number_in (new ++ later)) body) ++ spelling End
