-- Numbers that the type of a variable holds, and values of a device of which one is set to such a
-- number.
use Rattle.std.proofs.Common.{◌≡◌, ℕ, zero, suc, ◌<◌, ℤ, Bool, true, false, List, [], ◌∷◌, length, Option, Some, None, refl, sym, ◌∙◌, arith}
use Rattle.std.specs.Prelude.{if◌then◌else◌, pos, slice_get, slice_set, slice_index_or}
use Rattle.std.proofs.lemmas.Slice.Zip.{AllZip-long}
use Rattle.edd_syntax.specs.DeviceValues.{VariableType, AreDeviceValues}
use Rattle.edd_panel.specs.declared.fault.EditFault.{EditFault}
use Rattle.edd_panel.specs.declared.fault.EditFault.TheVariants as fault
use Rattle.edd_panel.specs.Edits.{Rules, holds, or_else, type_fault, value_fault, edit_fault, handling_fault}

-- ---- an edit that has no fault sets a number that the type holds

none_first : (a b : Option EditFault) → or_else a b ≡ None → a ≡ None
none_first None b e = refl
none_first (Some f) b e = absurd cc

none_second : (a b : Option EditFault) → or_else a b ≡ None → b ≡ None
none_second None b e = e
none_second (Some f) b e = absurd cc

held_where : (b : Bool) (f : EditFault) → (if b then None else Some f) ≡ None → b ≡ true
held_where true f e = refl
held_where false f e = absurd cc

pub value_held : (rules : Rules) (old new : ℤ) → value_fault rules old new ≡ None
    → holds rules.type new ≡ true
value_held rules old new e =
    held_where (holds rules.type new) fault.OutOfType (none_first (type_fault rules.type new) _ e)

pub edit_held : (rules : Rules) (read_only : Bool) (old new : ℤ)
    → edit_fault rules read_only old new ≡ None → holds rules.type new ≡ true
edit_held rules true old new e = absurd cc
edit_held rules false old new e =
    value_held rules old new (none_second (handling_fault rules.handling) _ e)

-- ---- values

-- a value that is not there counts as 0
pub missing : (values : List ℤ) (v : ℕ) → slice_get values v ≡ None
    → pos 0 ≡ slice_index_or values v (pos 0)
missing [] v e = refl
missing (x ∷ xs) zero e = absurd cc
missing (x ∷ xs) (suc v) e = missing xs v e

-- all values of a device are as many
pub as_many : (types : List VariableType) (one other : List ℤ) → AreDeviceValues types one
    → AreDeviceValues types other → length one ≡ length other
as_many types one other p q = AllZip-long _ types one p ∙ sym (AllZip-long _ types other q)

pub held_inside : (types : List VariableType) (v : ℕ) (n : ℤ) → holds (slice_get types v) n ≡ true
    → v < length types
held_inside [] v n held = absurd cc
held_inside (t ∷ ts) zero n held = omega arith
held_inside (t ∷ ts) (suc v) n held = omega (arith, held_inside ts v n held)

pub inside_values : (types : List VariableType) (values : List ℤ) (v : ℕ) (n : ℤ)
    → AreDeviceValues types values → holds (slice_get types v) n ≡ true → v < length values
inside_values types values v n all held =
    omega (arith, held_inside types v n held, AllZip-long _ types values all)

pub values_kept : (types : List VariableType) (values : List ℤ) (v : ℕ) (n : ℤ)
    → AreDeviceValues types values → holds (slice_get types v) n ≡ true
    → AreDeviceValues types (slice_set values v n)
values_kept [] [] v n all held = absurd cc
values_kept [] (x ∷ xs) v n all held = absurd all
values_kept (t ∷ ts) [] v n all held = absurd all
values_kept (t ∷ ts) (x ∷ xs) zero n all held = (held, all.1)
values_kept (t ∷ ts) (x ∷ xs) (suc v) n all held = (all.0, values_kept ts xs v n all.1 held)
