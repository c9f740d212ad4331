-- The labels of a switch as they are noted, part by part.
use Rattle.std.specs.Prelude.{◌≡◌, ℕ, ℤ, List, [], ◌∷◌, ◌++◌, length, Option, Some, None}
use Rattle.edd_syntax.specs.declared.reference.Target.{Target}
use Rattle.edd_syntax.specs.Statement.{Part, Declare, Statement, CaseLabel, DefaultLabel}
use Rattle.edd_syntax.specs.TwosComplement.{wrap}
use Rattle.edd_methods.specs.declared.labels.Labels.{Labels}
use Rattle.edd_methods.specs.Statements.{Arms}
use Rattle.edd_methods.specs.Writing.{arms_bytes, cases_at, default_at}

-- a case that leads to a place
abbrev pub case_noted : (place : ℕ) → Part Target → List (ℤ × ℕ)
case_noted place (Declare declarators) = []
case_noted place (Statement s) = []
case_noted place (CaseLabel label) = (wrap 32 label, place) ∷ []
case_noted place DefaultLabel = []

-- a default that does
abbrev pub default_noted : (place : ℕ) → Part Target → Option ℕ
default_noted place (Declare declarators) = None
default_noted place (Statement s) = None
default_noted place (CaseLabel label) = None
default_noted place DefaultLabel = Some place

-- the first of two that is there
abbrev pub or_else : Option ℕ → Option ℕ → Option ℕ
or_else (Some place) other = Some place
or_else None other = other

-- the statements of a switch are written after the code, and its labels are noted after the
-- others
pub record NotesArms (before : List ℕ) (old : Labels) (out back : ℕ) (arms : Arms) (after : List ℕ)
    (new : Labels) : Type 0 where
  pub code : after ≡ before ++ arms_bytes (length before) out back arms
  pub cases : new.cases.items ≡ old.cases.items ++ cases_at (length before) arms
  pub default : new.default ≡ or_else old.default (default_at (length before) arms)
