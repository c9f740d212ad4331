-- What an edit that may be made does to the values.
use Rattle.std.proofs.Common.{◌≡◌, ℕ, ◌<◌, ℤ, Bool, true, false, List, length, None, Some, refl, sym, ap, ◌∙◌}
use Rattle.std.specs.Prelude.{slice_get, slice_set, Option, if◌then◌else◌}
use Rattle.std.specs.List.{list_any}
use Rattle.edd_syntax.specs.declared.numbers.VarNo.{VarNo}
use Rattle.edd_syntax.specs.declared.types.VarType.{VarType}
use Rattle.edd_syntax.specs.declared.types.VarType.TheVariants as var_type
use Rattle.edd_syntax.specs.DeviceValues.{VariableType, AreDeviceValues, value_at}
use Rattle.edd_instructions.specs.declared.records.Record.{Record}
use Rattle.edd_machine.specs.Types.{types_in}
use Rattle.edd_panel.specs.declared.fault.EditFault.{EditFault}
use Rattle.edd_panel.specs.declared.fault.EditFault.TheVariants as fault
use Rattle.edd_panel.specs.Edits.{Decides, MayEdit, holds, is_enumerator, named_fault}
use Rattle.edd_panel.proofs.Held.{edit_held, inside_values, values_kept}

-- the type of the variable holds the number
editable_held : (b : List ℕ) (values : List ℤ) (v : VarNo) (read_only : Bool) (n : ℤ)
    → MayEdit b values v read_only n → holds (slice_get (types_in b) v.0) n ≡ true
editable_held b values v read_only n may =
    ap (λ (o : Option VariableType). holds o n) may.1.type
    ∙ edit_held may.0 read_only (value_at values v) n may.2

decided : (b : List ℕ) (values : List ℤ) (v : VarNo) (read_only : Bool) (n : ℤ)
    (why : Option EditFault) → Decides b values v read_only n why → why ≡ None
    → MayEdit b values v read_only n
decided b values v read_only n why d none = (d.0, d.1, d.2 ∙ none)

-- there is such a variable
pub editable_inside : (b : List ℕ) (values : List ℤ) (v : VarNo) (read_only : Bool) (n : ℤ)
    (why : Option EditFault) → Decides b values v read_only n why → why ≡ None
    → AreDeviceValues (types_in b) values → v.0 < length values
editable_inside b values v read_only n why d none all = inside_values (types_in b) values v.0 n all
    (editable_held b values v read_only n (decided b values v read_only n why d none))

-- the values after the edit are those of a device
pub editable_kept : (b : List ℕ) (values : List ℤ) (v : VarNo) (read_only : Bool) (n : ℤ)
    (why : Option EditFault) → Decides b values v read_only n why → why ≡ None
    → AreDeviceValues (types_in b) values → AreDeviceValues (types_in b) (slice_set values v.0 n)
editable_kept b values v read_only n why d none all = values_kept (types_in b) values v.0 n all
    (editable_held b values v read_only n (decided b values v read_only n why d none))

-- ---- the enumerators of an ENUMERATED

where_true : (c : Bool) (x y : Option EditFault) → c ≡ true → x ≡ (if c then x else y)
where_true true x y e = refl
where_true false x y e = absurd cc

where_false : (c : Bool) (x y : Option EditFault) → c ≡ false → y ≡ (if c then x else y)
where_false true x y e = absurd cc
where_false false x y e = refl

pub enumerated : (t : VarType) (rs : List Record) (old new : ℤ) (found : Bool)
    → t ≡ var_type.Enumerated → found ≡ list_any (is_enumerator new) rs → found ≡ true
    → None ≡ named_fault t rs old new
enumerated var_type.Enumerated rs old new found is e there =
    where_true (list_any (is_enumerator new) rs) None (Some fault.NoEnumerator) (sym e ∙ there)
enumerated _ rs old new found is e there = absurd cc

pub not_enumerated : (t : VarType) (rs : List Record) (old new : ℤ) (found : Bool)
    → t ≡ var_type.Enumerated → found ≡ list_any (is_enumerator new) rs → found ≡ false
    → Some fault.NoEnumerator ≡ named_fault t rs old new
not_enumerated var_type.Enumerated rs old new found is e absent =
    where_false (list_any (is_enumerator new) rs) None (Some fault.NoEnumerator) (sym e ∙ absent)
not_enumerated _ rs old new found is e absent = absurd cc
