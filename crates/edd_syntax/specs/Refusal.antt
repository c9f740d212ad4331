-- Why a unit is refused, and what comes first in a list.
use Rattle.std.specs.Prelude.{Bool, true, false, if◌then◌else◌, List, [], ◌∷◌, Option, Some, None}
use Rattle.std.specs.Str.{bytes_eq}
use Rattle.std.specs.List.{list_any}
use Rattle.edd_syntax.specs.declared.limits.Limit.{Limit}
use Rattle.edd_syntax.specs.Text.{Name}

-- a rule that is broken, with the name or the word at fault
pub data Refusal : Type 0 where
  TooMany : Limit → Refusal
  DuplicateName : (name : Name) → Refusal
  DuplicateAttribute : (word : Name) → Refusal
  MissingAttribute : (item word : Name) → Refusal
  UnknownName : (name : Name) → Refusal
  WrongKind : (name : Name) → Refusal
  FloatVariable : (variable : Name) → Refusal
  OtherType : (variable word : Name) → Refusal
  BadSize : (variable : Name) → Refusal
  Mismatch : Refusal
  FloatValue : Refusal
  BreakOutside : Refusal
  ConstRange : Refusal
  DuplicateCase : Refusal
  DuplicateElement : Refusal

-- the first of a list
abbrev pub first_of : {A : Type 0} → List A → Option A
first_of [] = None
first_of (x ∷ rest) = Some x

-- the name is one of these
abbrev pub is_name_in : List Name → Name → Bool
is_name_in names name = list_any (λ n. bytes_eq n name) names

-- why, where it holds
abbrev pub refused_if : Bool → Refusal → List Refusal
refused_if true why = why ∷ []
refused_if false why = []

-- the names that equal one in `before` or an earlier one of the list
abbrev pub repeated : (before : List Name) → List Name → List Name
repeated before [] = []
repeated before (n ∷ rest) = if is_name_in before n then n ∷ repeated (n ∷ before) rest else
    repeated (n ∷ before) rest
