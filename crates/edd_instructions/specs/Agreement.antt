-- When the code of an attribute, and a whole image, say what the tree of a description means,
-- methods aside.
use Rattle.std.specs.Prelude.{◌≡◌, ℕ, ◌+◌, ℤ, List, [], ◌∷◌, length, slice_get, Option, Some, None, option_map, Result, Ok, Err, if◌then◌else◌, ⊤}
use Rattle.edd_syntax.specs.declared.answer.Trap.{Trap}
use Rattle.edd_syntax.specs.declared.numbers.Kind.{Kind}
use Rattle.edd_syntax.specs.declared.numbers.Kind.TheVariants as kind
use Rattle.edd_syntax.specs.declared.numbers.StrNo.{StrNo}
use Rattle.edd_syntax.specs.declared.numbers.ItemNo.{ItemNo}
use Rattle.edd_syntax.specs.declared.numbers.ItemNo.TheVariants as items
use Rattle.edd_syntax.specs.declared.numbers.Attr.{Attr}
use Rattle.edd_syntax.specs.declared.numbers.AttrRef.{AttrRef}
use Rattle.edd_syntax.specs.declared.types.ResponseClass.{ResponseClass}
use Rattle.edd_syntax.specs.declared.types.ResponseClass.TheVariants as class
use Rattle.edd_syntax.specs.Text.{Name}
use Rattle.edd_syntax.specs.declared.reference.Target.{Target}
use Rattle.edd_syntax.specs.Words.{Words}
use Rattle.edd_syntax.specs.Item.{Item, Identification, Description}
use Rattle.edd_syntax.specs.Resolution.{count_of}
use Rattle.edd_syntax.specs.LayoutVersion.{needs_second_version}
use Rattle.edd_syntax.specs.AttributeValue.{Trapping}
use Rattle.edd_syntax.specs.Device as device
use Rattle.edd_syntax.specs.Device.{item_at, environment}
use Rattle.edd_syntax.specs.DeviceValues.{AreDeviceValues}
use Rattle.edd_syntax.specs.Attributes as source
use Rattle.edd_syntax.specs.Attributes.{menu_bits, data_bits, meaning_of, read_attribute}
use Rattle.edd_image.specs.declared.parts.Counts.{Counts}
use Rattle.edd_instructions.specs.declared.records.Record.{Record}
use Rattle.edd_instructions.specs.declared.records.Record.TheVariants as records
use Rattle.edd_image.specs.declared.versions.Version.{Version}
use Rattle.edd_image.specs.declared.versions.Version.TheVariants.{One, Two}
use Rattle.edd_instructions.specs.declared.unit.Sort.{Sort}
use Rattle.edd_instructions.specs.declared.unit.Sort.TheVariants.{Attribute}
use Rattle.edd_instructions.specs.declared.unit.Context.{Context}
use Rattle.edd_image.specs.Front.{◌>>=◌}
use Rattle.edd_image.specs.Existing.{item_exists}
use Rattle.edd_instructions.specs.Units.{IsValidUnit}
use Rattle.edd_instructions.specs.Steps.{Environment, opening}
use Rattle.edd_image.specs.Contents.{part, Contents}
use Rattle.edd_image.specs.Strings.{string_in}
use Rattle.edd_instructions.specs.Reading as image
use Rattle.edd_instructions.specs.Reading.{environment_of, given_within, reading_within}

-- ---- records, whose strings the image holds by number

-- the number of a response class
abbrev pub class_number : ResponseClass → ℕ
class_number class.Success = 0
class_number class.MiscWarning = 1
class_number class.DataEntryWarning = 2
class_number class.DataEntryError = 3
class_number class.ModeError = 4
class_number class.ProcessError = 5
class_number class.MiscError = 6

-- a mask of 0 is none
abbrev pub mask_number : Option ℕ → ℕ
mask_number None = 0
mask_number (Some mask) = mask

module _ (string_numbered : StrNo → Option Words) where
  -- The number is that of this string.
  abbrev pub IsString : Words → StrNo → Type 0
  IsString w n = string_numbered n ≡ Some w

  -- Both are missing, or the number is that of the string.
  abbrev pub IsOptionalString : Option Words → Option StrNo → Type 0
  IsOptionalString None None = ⊤
  IsOptionalString None (Some n) = ⊥
  IsOptionalString (Some w) None = ⊥
  IsOptionalString (Some w) (Some n) = IsString w n

  -- the image's record says the same as the tree's
  abbrev pub SameRecord : source.Record → Record → Type 0
  SameRecord (source.Words w) r = (n : StrNo) × (r ≡ records.Words n) × IsString w n
  SameRecord (source.Number z) r = r ≡ records.Number z
  SameRecord (source.Entry item quals) r = r ≡ records.Entry item (menu_bits quals)
  SameRecord (source.DataConst n) r = r ≡ records.DataConst n
  SameRecord (source.DataVar var mask quals) r = r ≡ records.DataVar var (mask_number mask)
      (data_bits quals)
  SameRecord (source.Enumerator value text help) r =
      (t : StrNo) × (h : Option StrNo) × (r ≡ records.Enumerator value t h) × IsString text t
      × IsOptionalString help h
  SameRecord (source.Response number class text) r =
      (t : StrNo) × (r ≡ records.Response number (class_number class) t) × IsString text t
  SameRecord (source.Member name item label help) r =
      (n : StrNo) × (l h : Option StrNo) × (r ≡ records.Member n item l h) × IsString name n
      × IsOptionalString label l × IsOptionalString help h
  SameRecord (source.Element number var label help) r =
      (l h : Option StrNo) × (r ≡ records.Element number var l h) × IsOptionalString label l
      × IsOptionalString help h

  -- There are as many records on both sides, and each says the same as its counterpart.
  abbrev pub SameRecords : List source.Record → List Record → Type 0
  SameRecords [] [] = ⊤
  SameRecords [] (r ∷ rs) = ⊥
  SameRecords (x ∷ xs) [] = ⊥
  SameRecords (x ∷ xs) (r ∷ rs) = SameRecord x r × SameRecords xs rs

  -- what a unit gives is what the tree chooses, or its trap
  abbrev pub SameRun : Trapping (List source.Record) → Result (List Record) Trap → Type 0
  SameRun (Ok xs) given = (rs : List Record) × (given ≡ Ok rs) × SameRecords xs rs
  SameRun (Err why) given = given ≡ Err why

  -- what is read of the image is what the tree gives, refusals and traps included
  abbrev pub SameReading : source.Reading → image.Reading → Type 0
  SameReading source.NoItem r = r ≡ image.NoItem
  SameReading (source.Gives (Ok xs)) r = (rs : List Record) × (r ≡ image.Records rs)
      × SameRecords xs rs
  SameReading (source.Gives (Err why)) r = r ≡ image.Fault why

-- ---- the code of one attribute

-- what is round the runs of a description's image
abbrev pub machine_of : device.Environment → Environment
machine_of env = record { types = env.variables; elements = env.elements }

-- what the tree of an item gives of an attribute before defaults; a transaction that isn't there
-- gives nothing
abbrev pub item_meaning : device.Environment → Item Target → Attr → (sub : ℕ) → source.Meaning
item_meaning env i a sub =
    if source.is_of_transaction a
    then elim (slice_get (source.transactions env i.attributes) sub)
    [ Some transaction ↦ meaning_of a transaction | None ↦ source.constant [] ]
    else meaning_of a (source.of_attributes env i.attributes)

-- what the tree of a description gives of an attribute before defaults
unfoldable pub tree_meaning : Description Target → AttrRef → source.Meaning
tree_meaning unit ref = elim (item_at unit ref.item)
    [ Some i ↦ item_meaning (environment unit) i ref.attr ref.sub | None ↦ source.constant [] ]

-- The unit, followed from its first byte to its end under any values of the device, gives what the
-- tree means.
abbrev pub UnitMeans : device.Environment → (StrNo → Option Words) → source.Meaning
    → (code : List ℕ) → Type 0
UnitMeans env string_numbered meaning code = (values : List ℤ)
    → AreDeviceValues env.variables values
    → (n : ℕ) × (given : Result (List Record) Trap)
    × (given_within n (machine_of env) (opening (record { sort = Attribute; code = code })
    0 values) ≡ Some given)
    × SameRun string_numbered (meaning values) given

-- the string of a number in a table
abbrev pub string_of_table : List Words → StrNo → Option Words
string_of_table strings n = slice_get strings n.0

-- how much there is of everything, with so many strings
abbrev pub counts_of : Identification → List (Item Target) → (strings : ℕ) → Counts
counts_of i items strings = record {
  variables = count_of kind.Variable items;
  commands = count_of kind.Command items;
  menus = count_of kind.Menu items;
  collections = count_of kind.Collection items;
  methods = count_of kind.Method items;
  arrays = count_of kind.Array items;
  strings = strings;
  manufacturer = i.manufacturer;
  device_type = i.device_type;
  device_revision = i.device_revision;
  dd_revision = i.dd_revision;
}

-- the version of a description's image
abbrev pub version_for : Description Target → Version
version_for unit = if needs_second_version unit then Two else One

-- the context of a unit of the image
abbrev pub unit_context : Description Target → (strings : List Words) → Sort → (slots : ℕ) → Context
unit_context unit strings sort slots = record {
  version = version_for unit;
  counts = counts_of unit.identification unit.items (length strings);
  sort = sort;
  slots = slots;
}

-- the context of the unit of an attribute
abbrev pub attribute_context : Description Target → (strings : List Words) → Context
attribute_context unit strings = unit_context unit strings Attribute 0

-- The code is a valid unit, and means what the tree of the attribute means, with strings by their
-- numbers in this table.
pub record IsAttributeCode (unit : Description Target) (strings : List Words) (ref : AttrRef)
    (code : List ℕ) : Type 0 where
  pub valid : IsValidUnit (attribute_context unit strings) code
  pub means : UnitMeans (environment unit) (string_of_table strings)
      (tree_meaning unit ref) code

-- ---- names and strings of an image

-- the place of an item among all items, which are in the order of kind and number
abbrev pub place_of_item : Counts → ItemNo → ℕ
place_of_item c (items.Variable n) = n.0
place_of_item c (items.Command n) = c.variables + n.0
place_of_item c (items.Menu n) = c.variables + c.commands + n.0
place_of_item c (items.Collection n) = c.variables + c.commands + c.menus + n.0
place_of_item c (items.Method n) = c.variables + c.commands + c.menus + c.collections + n.0
place_of_item c (items.Array n) = c.variables + c.commands + c.menus + c.collections + c.methods
    + n.0

-- the name that an image has for an item, where the item exists
abbrev pub name_numbered : Contents → ItemNo → Option Name
name_numbered c i =
    if item_exists c.counts i then option_map (λ r. part r.span c.name_bytes)
    (slice_get c.names (place_of_item c.counts i)) else None

-- the string of a number in an image; None where there is none or its bytes are no string
abbrev pub string_numbered : Contents → StrNo → Option Words
string_numbered c n = slice_get c.strings n.0 >>= λ span. string_in (part span c.string_bytes)

-- ---- the whole image

-- the identification in the header of an image
abbrev pub identification_in : Contents → Identification
identification_in c = record {
  manufacturer = c.counts.manufacturer;
  device_type = c.counts.device_type;
  device_revision = c.counts.device_revision;
  dd_revision = c.counts.dd_revision;
}

-- how many items of a kind an image has
abbrev pub count_in : Counts → Kind → ℕ
count_in c kind.Variable = c.variables
count_in c kind.Command = c.commands
count_in c kind.Menu = c.menus
count_in c kind.Collection = c.collections
count_in c kind.Method = c.methods
count_in c kind.Array = c.arrays

-- The version is the one that the description needs; identification, counts, names, types, and every
-- attribute for all values of a device are those of the description, and the numbers of strings stand
-- for its strings.
pub record AgreesOnData (unit : Description Target) (c : Contents) : Type 0 where
  pub version : c.version ≡ version_for unit
  pub identification : identification_in c ≡ unit.identification
  pub counts : (k : Kind) → count_in c.counts k ≡ count_of k unit.items
  pub names : (i : ItemNo) → name_numbered c i ≡ option_map (λ x. x.name) (item_at unit i)
  pub types : (environment_of c).types ≡ (environment unit).variables
  pub elements : c.elements ≡ (environment unit).elements
  pub attributes : (ref : AttrRef) (values : List ℤ)
      → AreDeviceValues (environment unit).variables values
      → (n : ℕ) × (r : image.Reading) × (reading_within n c ref values ≡ Some r)
      × SameReading (string_numbered c) (read_attribute unit ref values) r
