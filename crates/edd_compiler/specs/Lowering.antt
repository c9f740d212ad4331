-- What the units of the first rows of a description are, and the table of their strings.
use Rattle.std.specs.Prelude.{◌≡◌, ◌↔◌, ◌⊎◌, ◌≤◌, ◌<◌, true, false, List, [], ◌∷◌, ◌++◌, length, map}
use Rattle.std.specs.List.{All, Contains}
use Rattle.edd_syntax.specs.declared.numbers.Attr.TheVariants as attr
use Rattle.edd_syntax.specs.declared.numbers.AttrRef.{AttrRef}
use Rattle.edd_syntax.specs.declared.numbers.ItemNo.TheVariants as items
use Rattle.edd_syntax.specs.declared.numbers.MethNo.{MethNo}
use Rattle.edd_syntax.specs.declared.reference.Target.{Target}
use Rattle.edd_syntax.specs.Numbers.{same_attr}
use Rattle.edd_syntax.specs.Words.{Words}
use Rattle.edd_syntax.specs.Item.{Description}
use Rattle.edd_syntax.specs.Strings.{different}
use Rattle.edd_instructions.specs.Agreement.{IsAttributeCode}
use Rattle.edd_instructions.specs.MethodAgreement.{IsMethodCode}
use Rattle.edd_assembly.specs.Assembly.{Lowered}
use Rattle.edd_assembly.specs.LoweredUnits.{plain_row}
use Rattle.edd_assembly.specs.RowContents.{limit_of_row, strings_of_row}
use Rattle.edd_code.specs.Tables.{Grows}

-- a row of a body is a method's, at 0
abbrev pub IsPlain : AttrRef → Type 0
IsPlain row = same_attr row.attr attr.Definition ≡ true
    → (m : MethNo) × (row ≡ record { item = items.Method m; attr = attr.Definition; sub = 0 })

-- the code of an attribute, or that of a method, whose row has its slots in place of a position
abbrev pub IsRowCode : Description Target → (strings : List Words) → Lowered → Type 0
IsRowCode d strings l = elim (same_attr l.row.attr attr.Definition) [
  | true ↦ (m : MethNo) × (l.row.item ≡ items.Method m) × IsMethodCode d strings m l.row.sub l.code
  | false ↦ IsAttributeCode d strings l.row l.code
]

-- the code of a row, with strings in this table and in each that begins with it, and within the
-- row's limit
pub record IsCodeOf (d : Description Target) (table : List Words) (l : Lowered) : Type 0 where
  pub means : (more : List Words) → length (table ++ more) ≤ 65535 → IsRowCode d (table ++ more) l
  pub short : length l.code ≤ limit_of_row d l.row

-- a string of a row of the description
abbrev pub IsOfRow : Description Target → Words → Type 0
IsOfRow d w = (row : AttrRef) × Contains (strings_of_row d row) w

-- these are the units of these rows, and the table has their strings and no others than strings of
-- rows
pub record HasLowered (d : Description Target) (rows : List AttrRef) (table : List Words)
    (units : List Lowered) : Type 0 where
  pub in_order : map plain_row units ≡ rows
  pub each : All (IsCodeOf d table) units
  pub holds : (row : AttrRef) → Contains rows row → (w : Words) → Contains (strings_of_row d row) w
      → Contains table w
  pub only : (w : Words) → Contains table w → IsOfRow d w

-- one row more: its unit comes after the others, and the table grew by its strings alone
pub record AddsRow (d : Description Target) (row : AttrRef) (old : List Words)
    (before : List Lowered) (new : List Words) (after : List Lowered) : Type 0 where
  pub unit : Lowered
  pub of_row : plain_row unit ≡ row
  pub pushed : after ≡ before ++ unit ∷ []
  pub grown : Grows old new
  pub code : IsCodeOf d new unit
  pub strings : (w : Words) → Contains new w ↔ (Contains old w ⊎ Contains (strings_of_row d row) w)

-- there are more than 65,535 different strings in rows
abbrev pub HasTooMany : Description Target → Type 0
HasTooMany d = (held : List Words) × (65535 < length (different held))
    × ((w : Words) → Contains held w → IsOfRow d w)
