-- What is told of conditionals and of the values under them.
use Rattle.std.specs.Prelude.{Bool, true, false, List, [], ◌∷◌, ◌++◌, map}
use Rattle.edd_breaches.specs.Told.{Told, told_at, told_if}
use Rattle.edd_syntax.specs.declared.numbers.TokenNo.{TokenNo}
use Rattle.edd_syntax.specs.declared.reference.Target.{Target}
use Rattle.edd_syntax.specs.declared.cond.Cond.{Cond, Row_of-Cond, end_of-Cond, more_of-Cond, Row_of-Arm, end_of-Arm, more_of-Arm}
use Rattle.edd_syntax.specs.declared.cond.Cond.TheVariants.{Value, If', Select'}
use Rattle.edd_syntax.specs.declared.cond.Arm.{Arm}
use Rattle.edd_syntax.specs.declared.cond.Arm.TheVariants.{Case', Default'}
use Rattle.edd_syntax.specs.declared.item.Enumerator.{Enumerator}
use Rattle.edd_syntax.specs.declared.item.DataItem.{DataItem}
use Rattle.edd_syntax.specs.declared.item.DataItem.TheVariants as data_item
use Rattle.edd_syntax.specs.ItemView.{numbered_data_item}
use Rattle.edd_syntax.specs.Refusal.{Mismatch, DuplicateCase}
use Rattle.edd_syntax.specs.SubsetRules.{data_breaches}
use Rattle.edd_types.specs.declared.sought.Sought.{Sought}
use Rattle.edd_types.specs.declared.sought.Sought.TheVariants as sought
use Rattle.edd_types.specs.Expressions.{condition_told}

-- ---- values

-- of a value that can have no breach
abbrev pub nothing_told : {V : Type 0} → Sought → V → List Told
nothing_told s v = []

-- of an enumerator, which is itself the breach where enumerators are looked for
abbrev pub enumerator_told : Sought → Enumerator → List Told
enumerator_told sought.Enumerator e = told_at Mismatch e.at ∷ []
enumerator_told _ e = []

-- where a data item is
abbrev pub place_of : DataItem Target → TokenNo
place_of (data_item.Constant at value) = at
place_of (data_item.Variable at variable mask qualifiers) = at

-- of a data item, where constants and masks are looked for
abbrev pub data_told : Sought → DataItem Target → List Told
data_told sought.Constant d =
    map (λ why. told_at why (place_of d)) (data_breaches (numbered_data_item d))
data_told _ d = []

-- ---- conditionals

-- of a DEFAULT, where its SELECT had one already or not
abbrev pub default_told : Sought → (had : Bool) → (at : TokenNo) → List Told
default_told sought.Default had at = told_if had DuplicateCase at
default_told _ had at = []

-- whether the SELECT has its DEFAULT after this arm
abbrev pub has_default : {V : Type 0} → (had : Bool) → Arm Target V → Bool
has_default had (Case' label shape body) = had
has_default had (Default' at shape body) = true

-- of a conditional, `of` being what is told of one value
unfoldable mutual
  pub cond_told : {V : Type 0} → Sought → (of : V → List Told) → Cond Target V → List Told
  cond_told s of (Value v) = of v
  cond_told s of (If' test shape first shape' otherwise) = condition_told s test
      ++ (conds_told_in s of first ++ conds_told_in s of otherwise)
  cond_told s of (Select' on shape arms) = condition_told s on ++ arms_told_in s of false arms

  -- of the conditionals that a vector holds
  pub conds_told_in : {V : Type 0} {n : _} → Sought → (of : V → List Told) → Row_of-Cond Target V n
      → List Told
  conds_told_in s of end_of-Cond = []
  conds_told_in s of (more_of-Cond first rest) = cond_told s of first ++ conds_told_in s of rest

  -- of the arms that a vector holds, where there was a DEFAULT before them or not
  pub arms_told_in : {V : Type 0} {n : _} → Sought → (of : V → List Told) → (had : Bool)
      → Row_of-Arm Target V n → List Told
  arms_told_in s of had end_of-Arm = []
  arms_told_in s of had (more_of-Arm first rest) = arm_told s of had first
      ++ arms_told_in s of (has_default had first) rest

  -- of an arm
  pub arm_told : {V : Type 0} → Sought → (of : V → List Told) → (had : Bool) → Arm Target V
      → List Told
  arm_told s of had (Case' label shape body) = conds_told_in s of body
  arm_told s of had (Default' at shape body) = default_told s had at ++ conds_told_in s of body
