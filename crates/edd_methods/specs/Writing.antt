-- What writing the code of statements results in.
use Rattle.std.specs.Prelude.{◌≡◌, ℕ, ◌+◌, ℤ, List, [], ◌∷◌, ◌++◌, Option, Some, None, Result, Ok, Err}
use Rattle.std.specs.List.{Contains, flat_map}
use Rattle.edd_syntax.specs.declared.numbers.StrNo.{StrNo}
use Rattle.edd_syntax.specs.declared.reference.Target.{Target}
use Rattle.edd_syntax.specs.Statement.{Declarator, Stmt, Body}
use Rattle.edd_syntax.specs.Expression.{Expr}
use Rattle.edd_syntax.specs.Strings.{expr_texts, strings_of_texts}
use Rattle.edd_syntax.specs.SubsetRules as rules
use Rattle.edd_syntax.specs.SubsetRules.{body_expressions, stmt_expressions, optional_part}
use Rattle.edd_syntax.specs.Text as source
use Rattle.edd_syntax.specs.Words.{Words}
use Rattle.edd_instructions.specs.declared.instruction.Instruction.{Instruction}
use Rattle.edd_instructions.specs.declared.instruction.Instruction.TheVariants as instruction
use Rattle.edd_instructions.specs.Spelling.{spelling}
use Rattle.edd_code.specs.declared.fault.LowerFault.{LowerFault}
use Rattle.edd_code.specs.declared.fault.LowerFault.TheVariants.{TooMany, Memory}
use Rattle.edd_code.specs.Blocks.{target, bytes_of}
use Rattle.edd_code.specs.Tables.{Grows, GrowsBy, Overflows, number_in}
use Rattle.edd_methods.specs.Statements.{Part, part_emitted, arms_emitted, size, Arms, Nil, Statement, Case, Default}

-- ---- texts

-- those in expressions
abbrev pub placed_texts : List (rules.Placed Target) → List source.Text
placed_texts all = flat_map (λ p. expr_texts p.expression) all

-- those in a statement
abbrev pub statement_texts : Stmt Target → List source.Text
statement_texts x = placed_texts (stmt_expressions x)

-- those in a body
abbrev pub body_texts : Body Target → List source.Text
body_texts body = placed_texts (body_expressions body)

-- those in an expression that may be missing
abbrev pub optional_texts : Option (Expr Target) → List source.Text
optional_texts None = []
optional_texts (Some e) = expr_texts e

-- those in the values of a declaration
abbrev pub declared_texts : List (Declarator Target) → List source.Text
declared_texts ds = placed_texts (flat_map (λ d. optional_part d.value) ds)

-- ---- what a part of the code results in

-- The table grew by the strings of these texts alone and holds them, and `is` says what the code
-- is, by the numbers of strings in the new table and in any that begins with it.
pub record Numbered (old : List Words) (texts : List source.Text) (is : (Words → StrNo) → Type 0)
    (new : List Words) : Type 0 where
  pub table : GrowsBy old (strings_of_texts texts) new
  pub holds : (w : Words) → Contains (strings_of_texts texts) w → Contains new w
  pub written : (later : List Words) → is (number_in (new ++ later))

-- it is written; or the table grew, and there are too many strings where the fault says so
abbrev pub Lowers : {A : Type 0} → Result A LowerFault → (old : List Words)
    → (texts : List source.Text) → (is : (Words → StrNo) → Type 0) → (new : List Words) → Type 0
Lowers (Ok x) old texts is new = Numbered old texts is new
Lowers (Err why) old texts is new = Grows old new
    × (why ≡ TooMany → Overflows old (strings_of_texts texts))

-- an instruction is written, or memory was refused
abbrev pub EndsBy : {A : Type 0} → Result A LowerFault → (before : List ℕ) → Instruction
    → (after : List ℕ) → Type 0
EndsBy (Ok x) before i after = after ≡ before ++ spelling i
EndsBy (Err why) before i after = why ≡ Memory

-- so is a jump to a place
abbrev pub JumpsTo : {A : Type 0} → Result A LowerFault → (before : List ℕ) → (to : ℕ)
    → (after : List ℕ) → Type 0
JumpsTo r before to after = EndsBy r before (instruction.Jump (target to)) after

-- the bytes of a part of a loop at a place
abbrev pub part_bytes : (place out : ℕ) → Part → List ℕ
part_bytes p out part = bytes_of (part_emitted p out part)

-- those of the statements of a switch
abbrev pub arms_bytes : (place out back : ℕ) → Arms → List ℕ
arms_bytes p out back arms = bytes_of (arms_emitted p out back arms)

-- ---- the labels of a switch, with the places that they lead to

-- those of cases, in their order
abbrev pub cases_at : (place : ℕ) → Arms → List (ℤ × ℕ)
cases_at p Nil = []
cases_at p (Statement first rest) = cases_at (p + size first) rest
cases_at p (Case label rest) = (label, target p) ∷ cases_at p rest
cases_at p (Default rest) = cases_at p rest

-- that of the first default
abbrev pub default_at : (place : ℕ) → Arms → Option ℕ
default_at p Nil = None
default_at p (Statement first rest) = default_at (p + size first) rest
default_at p (Case label rest) = default_at p rest
default_at p (Default rest) = Some (target p)

-- where there is no default, `out`
abbrev pub default_or : (out : ℕ) → Option ℕ → ℕ
default_or out None = out
default_or out (Some place) = place

-- the test of a case
abbrev pub test_of : ℤ × ℕ → List ℕ
test_of case = spelling (instruction.Case case.0 case.1)

-- those of all
abbrev pub tests_of : List (ℤ × ℕ) → List ℕ
tests_of cases = flat_map test_of cases
