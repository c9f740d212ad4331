-- What is read of an image that agrees with a unit is what the unit's attribute means.
use Rattle.std.proofs.Common.{◌≡◌, refl, sym, ap, subst, ◌∙◌, ℕ, Bool, true, false, ℤ, List, [], ◌∷◌, Option, Some, None, Result, Ok, Err}
use Rattle.std.specs.Prelude.{option_map}
use Rattle.edd_syntax.specs.declared.answer.Trap.{Trap}
use Rattle.edd_syntax.specs.declared.answer.Trap.TheVariants as trap
use Rattle.edd_syntax.specs.declared.numbers.AttrRef.{AttrRef}
use Rattle.edd_syntax.specs.declared.reference.Target.{Target}
use Rattle.edd_syntax.specs.Words.{Words, Variants, Key, text_for}
use Rattle.edd_syntax.specs.Item.{Description}
use Rattle.edd_syntax.specs.DeviceValues.{VariableType, AreDeviceValues}
use Rattle.edd_syntax.specs.Device.{environment}
use Rattle.edd_syntax.specs.Attributes as source
use Rattle.edd_syntax.specs.Attributes.{read_attribute}
use Rattle.edd_instructions.specs.declared.records.Record.{Record}
use Rattle.edd_image.specs.Contents.{AttributeFields, Contents, contents_in}
use Rattle.edd_instructions.specs.Reading as image
use Rattle.edd_instructions.specs.Reading.{IsReading, default_records, environment_of, given_within, is_no_item, opening_of, reading_of, reading_within, row_of}
use Rattle.edd_instructions.specs.Agreement.{AgreesOnData, SameRecords, SameReading, string_numbered}
use Rattle.edd_instructions.proofs.UniqueReadings.{unique}
use Rattle.edd_loader.specs.Texts.{given}
use Rattle.edd_machine.specs.declared.fault.ReadFault.{ReadFault}
use Rattle.edd_machine.specs.declared.fault.ReadFault.TheVariants as read_fault
use Rattle.edd_machine.specs.Faults.{IsReadFault}
use Rattle.edd_machine.specs.Types.{types_in}
use Rattle.edd_promise.specs.Reads.{IsRefusedRead, is_key}

-- ---- readings of an image alone

no_item_given : (a : _) (r : Result (List Record) Trap) → reading_of a r ≡ image.NoItem → ⊥
no_item_given a (Ok []) e = cc
no_item_given a (Ok (r ∷ rest)) e = cc
no_item_given a (Err why) e = cc

none_given : (a : _) (o : Option (Result (List Record) Trap))
    → option_map (reading_of a) o ≡ Some image.NoItem → ⊥
none_given a None e = cc
none_given a (Some r) e = let same : reading_of a r ≡ image.NoItem = cc in no_item_given a r same

-- what is read within n steps where this is the row of the attribute, if it has one
abbrev by_row : (n : ℕ) → Contents → AttrRef → Option AttributeFields → List ℤ
    → Option image.Reading
by_row n c ref o d = elim o as (λ x. Option image.Reading) [
  | None ↦ Some (image.Records (default_records ref.attr))
  | Some row ↦ option_map (reading_of ref.attr)
      (given_within n (environment_of c) (opening_of c row d))
]

row_given : (n : ℕ) (c : Contents) (ref : AttrRef) (o : Option AttributeFields) (d : List ℤ)
    → by_row n c ref o d ≡ Some image.NoItem → ⊥
row_given n c ref None d e = cc
row_given n c ref (Some row) d e = none_given ref.attr _ e

-- that there is no such item doesn't hang on the values
no_item_always : (n : ℕ) (c : Contents) (ref : AttrRef) (values others : List ℤ)
    → reading_within n c ref values ≡ Some image.NoItem
    → reading_within n c ref others ≡ Some image.NoItem
no_item_always n c ref values others = by_item (is_no_item c ref)
  where
    by_item : (t : Bool)
        → elim t as (λ x. Option image.Reading) [
          | true ↦ Some image.NoItem
          | false ↦ by_row n c ref (row_of c ref) values
        ] ≡ Some image.NoItem
        → elim t as (λ x. Option image.Reading) [
          | true ↦ Some image.NoItem
          | false ↦ by_row n c ref (row_of c ref) others
        ] ≡ Some image.NoItem
    by_item true e = refl
    by_item false e = absurd (row_given n c ref (row_of c ref) values e)

module _ (unit : Description Target) (b : List ℕ) (agrees : AgreesOnData unit (contents_in b)) where
  abbrev c : Contents
  c = contents_in b

  -- values of a device of the image are those of a device of the unit
  pub device_of_unit : (values : List ℤ) → AreDeviceValues (types_in b) values
      → AreDeviceValues (environment unit).variables values
  device_of_unit values are = subst (λ (ts : List VariableType). AreDeviceValues ts values)
      agrees.types are

  pub device_of_image : (values : List ℤ) → AreDeviceValues (environment unit).variables values
      → AreDeviceValues (types_in b) values
  device_of_image values are = subst (λ (ts : List VariableType). AreDeviceValues ts values)
      (sym agrees.types) are

  -- there is a reading, and it says what the attribute means
  pub reads : (ref : AttrRef) (values : List ℤ) → AreDeviceValues (types_in b) values
      → (r : image.Reading) × IsReading b ref values r
      × SameReading (string_numbered c) (read_attribute unit ref values) r
  reads ref values are =
      let there = agrees.attributes ref values (device_of_unit values are) in
      (there.1, (there.0, there.2), there.3)

  -- each reading does
  pub each_reads : (ref : AttrRef) (values : List ℤ) → AreDeviceValues (types_in b) values
      → (r : image.Reading) → IsReading b ref values r
      → SameReading (string_numbered c) (read_attribute unit ref values) r
  each_reads ref values are r is =
      let there = reads ref values are in
      subst (λ (q : image.Reading). SameReading (string_numbered c)
      (read_attribute unit ref values) q) (unique b ref values there.0 r there.1 is) there.2

  -- ---- records

  records_by : (x : source.Reading) (rs : List Record)
      → SameReading (string_numbered c) x (image.Records rs)
      → (xs : List source.Record) × (x ≡ source.Gives (Ok xs))
      × SameRecords (string_numbered c) xs rs
  records_by source.NoItem rs same = absurd cc
  records_by (source.Gives (Ok xs)) rs same =
      let list : same.0 ≡ rs = cc in (
        xs,
        refl,
        subst (λ (ys : List Record). SameRecords (string_numbered c) xs ys) list same.2,
      )
  records_by (source.Gives (Err why)) rs same = absurd cc

  pub records_read : (ref : AttrRef) (values : List ℤ) → AreDeviceValues (types_in b) values
      → (rs : List Record) → IsReading b ref values (image.Records rs)
      → (xs : List source.Record) × (read_attribute unit ref values ≡ source.Gives (Ok xs))
      × SameRecords (string_numbered c) xs rs
  records_read ref values are rs is = records_by (read_attribute unit ref values) rs
      (each_reads ref values are (image.Records rs) is)

  -- ---- refusals

  trap_by : (x : source.Reading) (why : Trap)
      → SameReading (string_numbered c) x (image.Fault why) → x ≡ source.Gives (Err why)
  trap_by source.NoItem why same = absurd cc
  trap_by (source.Gives (Ok xs)) why same = let other = same.1 in absurd cc
  trap_by (source.Gives (Err other)) why same =
      let one : other ≡ why = cc in ap (λ (w : Trap). source.Gives (Err w)) one

  no_item_by : (x : source.Reading) → SameReading (string_numbered c) x image.NoItem
      → x ≡ source.NoItem
  no_item_by source.NoItem same = refl
  no_item_by (source.Gives (Ok xs)) same = let other = same.1 in absurd cc
  no_item_by (source.Gives (Err other)) same = absurd cc

  trapped : (ref : AttrRef) (values : List ℤ) (why : Trap) → AreDeviceValues (types_in b) values
      → IsReading b ref values (image.Fault why)
      → read_attribute unit ref values ≡ source.Gives (Err why)
  trapped ref values why are is = trap_by (read_attribute unit ref values) why
      (each_reads ref values are (image.Fault why) is)

  pub read_refused : (ref : AttrRef) (values : List ℤ) (fault : ReadFault)
      → IsReadFault b ref values fault → IsRefusedRead unit ref values fault
  read_refused ref values read_fault.NoItem is = λ others are.
      no_item_by (read_attribute unit ref others)
      (each_reads ref others (device_of_image others are) image.NoItem
      (is.0, no_item_always is.0 c ref values others is.1))
  read_refused ref values read_fault.WrongValues is = λ are. is.1 (device_of_image values are)
  read_refused ref values read_fault.DivZero is = trapped ref values trap.DivZero is.0 is.1
  read_refused ref values read_fault.DivOverflow is = trapped ref values trap.DivOverflow is.0 is.1
  read_refused ref values read_fault.BadShift is = trapped ref values trap.BadShift is.0 is.1
  read_refused ref values read_fault.NoElement is = trapped ref values trap.NoElement is.0 is.1
  read_refused ref values read_fault.Memory is = tt

-- ---- texts

text_given : (w : Words) (code : List ℕ) → given w code ≡ (is_key w, text_for w code)
text_given (Variants first rest) code = refl
text_given (Key name) code = refl

pub text_read : (o : Option Words) (w : Words) (code : List ℕ) → o ≡ Some w
    → option_map (λ words. given words code) o ≡ Some (is_key w, text_for w code)
text_read o w code is =
    ap (λ (x : Option Words). option_map (λ words. given words code) x) is
    ∙ ap (λ (t : Bool × List ℕ). Some t) (text_given w code)
