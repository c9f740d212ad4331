-- The arguments of a call as its function takes them: how many there are, and of what kind.
use Rattle.std.specs.Prelude.{ℕ, List, [], ◌∷◌, ◌++◌, Option, Some, None, option_map, slice_index_or}
use Rattle.std.specs.Option.{option_to_list}
use Rattle.edd_syntax.specs.declared.numbers.ItemNo.TheVariants as item_no
use Rattle.edd_syntax.specs.declared.numbers.VarNo.{VarNo}
use Rattle.edd_syntax.specs.declared.numbers.MethNo.{MethNo}
use Rattle.edd_syntax.specs.declared.numbers.StrNo.{StrNo}
use Rattle.edd_syntax.specs.declared.operators.Parameter.{Parameter}
use Rattle.edd_syntax.specs.declared.operators.Parameter.TheVariants as parameter
use Rattle.edd_syntax.specs.declared.operators.RequestKind.{RequestKind}
use Rattle.edd_syntax.specs.declared.reference.Target.{Target}
use Rattle.edd_syntax.specs.declared.reference.Target.TheVariants.{Item}
use Rattle.edd_syntax.specs.Expression.{Expr, Reference, Argument, Text, Value, Arguments, Nil, Cons}
use Rattle.edd_syntax.specs.Words.{Words, words_of}
use Rattle.edd_instructions.specs.declared.instruction.Ask.{Ask}
use Rattle.edd_instructions.specs.declared.instruction.Instruction.{Instruction}
use Rattle.edd_code.specs.Blocks.{Block, Straight}
use Rattle.edd_code.specs.Expressions.{no_value}

-- ---- kinds of one argument

-- an expression
abbrev pub as_value : Argument Target → Option (Expr Target)
as_value (Text text) = None
as_value (Value e) = Some e

-- a plain reference
abbrev pub as_target : Argument Target → Option Target
as_target (Value (Reference to)) = Some to
as_target _ = None

-- a plain reference to a variable
abbrev pub as_variable : Argument Target → Option VarNo
as_variable (Value (Reference (Item (item_no.Variable v)))) = Some v
as_variable _ = None

-- a plain reference to a METHOD
abbrev pub as_method : Argument Target → Option MethNo
as_method (Value (Reference (Item (item_no.Method m)))) = Some m
as_method _ = None

-- ---- one argument and two

-- what the argument is, where it is the only one and of the kind
abbrev pub only : {A : Type 0} → (Argument Target → Option A) → Arguments Target → Option A
only kind Nil = None
only kind (Cons first Nil) = kind first
only kind (Cons first (Cons second rest)) = None

-- both, where both are there
abbrev pub pair : {A B : Type 0} → Option A → Option B → Option (A × B)
pair None b = None
pair (Some a) None = None
pair (Some a) (Some b) = Some (a, b)

-- what both arguments are, where there are two and each is of its kind
abbrev pub both : {A B : Type 0} → (Argument Target → Option A) → (Argument Target → Option B)
    → Arguments Target → Option (A × B)
both kind other Nil = None
both kind other (Cons first Nil) = None
both kind other (Cons first (Cons second Nil)) = pair (kind first) (other second)
both kind other (Cons first (Cons second (Cons third rest))) = None

-- an instruction, where there is no argument
abbrev pub alone_block : Instruction → Arguments Target → Block
alone_block i Nil = Straight i
alone_block i (Cons first rest) = no_value

-- ---- what the instruction of a request names

-- the number of a text or of a variable; a number is among the operands
abbrev pub named_one : (Words → StrNo) → Argument Target → Parameter → List ℕ
named_one number (Text text) p = (number (words_of text)).0 ∷ []
named_one number (Value e) parameter.Number = []
named_one number (Value e) _ = option_to_list (option_map (λ v. v.0) (as_variable (Value e)))

-- all that it names, in written order
abbrev pub names_of : (Words → StrNo) → List Parameter → Arguments Target → List ℕ
names_of number [] arguments = []
names_of number (p ∷ parameters) Nil = []
names_of number (p ∷ parameters) (Cons x rest) = named_one number x p
    ++ names_of number parameters rest

-- the instruction with these names, of which it has two; 0 stands where there are fewer
abbrev pub asking : RequestKind → List ℕ → Ask
asking kind names = record {
  kind = kind;
  first = slice_index_or names 0 0;
  second = slice_index_or names 1 0;
}

-- the same with one more in front of the others, if there is one
abbrev pub named_before : Option ℕ → Ask → Ask
named_before None a = a
named_before (Some name) a = record { kind = a.kind; first = name; second = a.first }
