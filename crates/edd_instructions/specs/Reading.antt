-- Reading an attribute of an item from the bytes of an image, under device values.
use Rattle.std.specs.Prelude.{◌≡◌, ℕ, zero, suc, ◌==◌, ℤ, pos, Bool, true, false, not, ◌&&◌, ◌||◌, List, [], ◌∷◌, find, Option, Some, None, is_none, option_map, Result, Ok, Err, if◌then◌else◌}
use Rattle.std.specs.List.{filter_map}
use Rattle.edd_syntax.specs.declared.answer.Trap.{Trap}
use Rattle.edd_syntax.specs.declared.numbers.MethNo.{MethNo}
use Rattle.edd_syntax.specs.declared.numbers.ItemNo.{ItemNo}
use Rattle.edd_syntax.specs.declared.numbers.ItemNo.TheVariants as items
use Rattle.edd_syntax.specs.declared.numbers.Attr.{Attr}
use Rattle.edd_syntax.specs.declared.numbers.Attr.TheVariants as attr
use Rattle.edd_syntax.specs.declared.numbers.AttrRef.{AttrRef}
use Rattle.edd_syntax.specs.Numbers.{kind_number, kind_of, index_of, attr_number, same_attr, has_attr}
use Rattle.edd_syntax.specs.Attributes.{is_of_transaction}
use Rattle.edd_syntax.specs.DeviceValues.{VariableType}
use Rattle.edd_instructions.specs.declared.records.Record.{Record}
use Rattle.edd_instructions.specs.declared.records.Record.TheVariants as records
use Rattle.edd_instructions.specs.declared.records.Status.{Status}
use Rattle.edd_instructions.specs.declared.records.Status.TheVariants.{Running, Asking, Ended, Aborted, Trapped}
use Rattle.edd_instructions.specs.declared.records.Emitted.{Emitted}
use Rattle.edd_instructions.specs.declared.records.Emitted.TheVariants as emitted
use Rattle.edd_image.specs.Existing.{item_exists}
use Rattle.edd_image.specs.Contents.{part, VariableFields, AttributeFields, Contents, contents_in, type_of}
use Rattle.edd_instructions.specs.Validity.{sort_of, slots_of}
use Rattle.edd_instructions.specs.Steps.{Effect, State, Environment, opening, step}

-- ---- the rows of an image

-- the type and the size that a row gives a variable, where the type is known
abbrev pub variable_type_of : VariableFields → Option VariableType
variable_type_of r = option_map (λ t. record { type = t; size = r.size }) (type_of r.type_number)

-- the types of the variables, by number, and the elements of the arrays
abbrev pub environment_of : Contents → Environment
environment_of c = record {
  types = filter_map variable_type_of c.variables;
  elements = c.elements;
}

-- the row is of this attribute of this item, at any position
abbrev pub is_row_of : ItemNo → Attr → AttributeFields → Bool
is_row_of item a r = r.kind == kind_number (kind_of item)
    && (r.attribute == attr_number a && r.item == index_of item)

-- the row of an attribute
abbrev pub row_of : Contents → AttrRef → Option AttributeFields
row_of c ref = find (λ r. is_row_of ref.item ref.attr r && r.sub == ref.sub) c.attributes

-- the row of a method's body
abbrev pub body_of : Contents → MethNo → Option AttributeFields
body_of c m = find (is_row_of (items.Method m) attr.Definition) c.attributes

-- the state at the start of a row's unit
abbrev pub opening_of : Contents → AttributeFields → List ℤ → State
opening_of c r values = opening (record { sort = sort_of r; code = part r.span c.code })
    (slots_of r) values

-- ---- what a unit gives

-- at the end of a unit nothing more comes, or the trap
abbrev pub at_end : Status → Option (Result (List Record) Trap)
at_end Running = None
at_end (Asking r) = None
at_end Ended = Some (Ok [])
at_end Aborted = None
at_end (Trapped why) = Some (Err why)

-- what the rest of a unit gives, after the record that a step emits; a trap is passed on
abbrev pub with_record : Emitted → Result (List Record) Trap → Result (List Record) Trap
with_record emitted.Nothing given = given
with_record (emitted.Record r) (Ok rest) = Ok (r ∷ rest)
with_record (emitted.Record r) (Err why) = Err why
with_record (emitted.Request r) given = given

-- what comes of a step and of what is after it; a state without a step is at the end
abbrev pub given_by : Option Effect → Status → (Effect → Option (Result (List Record) Trap))
    → Option (Result (List Record) Trap)
given_by None status behind = at_end status
given_by (Some e) status behind = option_map (with_record e.emitted) (behind e)

-- what at most n steps emit up to the end of the unit, or the trap that ends it; nothing where they
-- don't reach the end
unfoldable pub given_within : (n : ℕ) → Environment → State → Option (Result (List Record) Trap)
given_within zero env s = at_end s.status
given_within (suc n) env s = given_by (step env s) s.status (λ e. given_within n env e.state)

-- ---- what is read of an attribute

-- what is read of an attribute: no such item, its records, or a trap
pub data Reading : Type 0 where
  -- there is no such item, or none that has this attribute
  NoItem : Reading
  Records : List Record → Reading
  Fault : Trap → Reading

-- HANDLING is READ and WRITE, VALIDITY is TRUE, and everything else is empty
abbrev pub default_records : Attr → List Record
default_records attr.Handling = records.Number (pos 3) ∷ []
default_records attr.Validity = records.Number (pos 1) ∷ []
default_records _ = []

-- an attribute whose unit gives no record is as if not written
abbrev pub reading_of : Attr → Result (List Record) Trap → Reading
reading_of a (Ok []) = Records (default_records a)
reading_of a (Ok (r ∷ rest)) = Records (r ∷ rest)
reading_of a (Err why) = Fault why

-- The item does not exist, or its kind has not the attribute; the body of a method is no attribute
-- that is read; a transaction exists where it has a row, and another attribute has the position 0.
abbrev pub is_no_item : Contents → AttrRef → Bool
is_no_item c ref =
    not (item_exists c.counts ref.item)
    || (not (has_attr (kind_of ref.item) ref.attr)
    || (same_attr ref.attr attr.Definition
    || (if is_of_transaction ref.attr then is_none (row_of c ref) else not (ref.sub == 0))))

-- what is read within n steps
abbrev pub reading_within : (n : ℕ) → Contents → AttrRef → List ℤ → Option Reading
reading_within n c ref values = elim (is_no_item c ref) [
  | true ↦ Some NoItem
  | false ↦ elim (row_of c ref) [
    | None ↦ Some (Records (default_records ref.attr))
    | Some r ↦ option_map (reading_of ref.attr)
        (given_within n (environment_of c) (opening_of c r values))
  ]
]

-- This is read of the attribute: its unit is followed from its first byte to its end.
abbrev pub IsReading : List ℕ → AttrRef → List ℤ → Reading → Type 0
IsReading b ref values r = (n : ℕ) × (reading_within n (contents_in b) ref values ≡ Some r)
