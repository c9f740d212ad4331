-- What an image shows under values of a device: its entries, and the line of each.
use Rattle.std.specs.Prelude.{◌≡◌, ◌≢◌, ⊤, ℕ, ℤ, Bool, true, false, not, ◌&&◌, ◌||◌, if◌then◌else◌, List, [], ◌∷◌, ◌++◌, map, Option, Some, None, slice_get, codes}
use Rattle.std.specs.Fmt.{decimal}
use Rattle.std.specs.Io.KnownBytes.{Appends}
use Rattle.std.specs.List.{AllByRecursion, flat_map, range_with_len, take_while}
use Rattle.edd_syntax.specs.declared.numbers.TheConstants.{ATTRIBUTES}
use Rattle.edd_syntax.specs.declared.numbers.Kind.{Kind}
use Rattle.edd_syntax.specs.declared.numbers.Kind.TheVariants.{Variable, Command, Menu, Collection, Method, Array}
use Rattle.edd_syntax.specs.declared.numbers.ItemNo.{ItemNo}
use Rattle.edd_syntax.specs.declared.numbers.ItemNo.TheVariants as items
use Rattle.edd_syntax.specs.declared.numbers.Attr.{Attr}
use Rattle.edd_syntax.specs.declared.numbers.Attr.TheVariants as attr
use Rattle.edd_syntax.specs.declared.numbers.AttrRef.{AttrRef}
use Rattle.edd_syntax.specs.Numbers.{kind_name, kind_of, item_number, attr_word, same_attr, has_attr}
use Rattle.edd_syntax.specs.Attributes.{is_of_transaction}
use Rattle.edd_syntax.specs.DeviceValues.{VariableType}
use Rattle.edd_image.specs.declared.parts.Counts.{Counts}
use Rattle.edd_image.specs.Contents.{Contents, contents_in}
use Rattle.edd_instructions.specs.Agreement.{count_in}
use Rattle.edd_instructions.specs.Reading.{Reading, NoItem, Records, Fault, IsReading, environment_of, is_no_item}
use Rattle.edd_display.specs.declared.fault.ShowFault.{ShowFault}
use Rattle.edd_display.specs.declared.fault.ShowFault.TheVariants as show_fault
use Rattle.edd_display.specs.Words.{type_word, trap_word, name_of}
use Rattle.edd_display.specs.Records.{records_shown}

-- ---- the entries of an image

-- what has a line, or none where there is nothing to say
pub data Entry : Type 0 where
  -- who made the device, and which it is
  Identification : Entry
  -- the name of an item
  Head : ItemNo → Entry
  -- an attribute
  Row : AttrRef → Entry

-- the kinds by their numbers
abbrev pub kinds : List Kind
kinds = Variable ∷ Command ∷ Menu ∷ Collection ∷ Method ∷ Array ∷ []

-- the attributes by their numbers
abbrev pub attributes : List Attr
attributes = ATTRIBUTES

-- an attribute of an item, at a transaction's position or at 0
abbrev pub row_at : ItemNo → Attr → (sub : ℕ) → AttrRef
row_at item a sub = record { item = item; attr = a; sub = sub }

-- the attributes of a transaction, by their numbers
abbrev pub transaction_attributes : List Attr
transaction_attributes = attr.Transaction ∷ attr.Request ∷ attr.Reply ∷ []

-- TRANSACTION can be read at the position
abbrev pub has_transaction : Contents → ItemNo → (sub : ℕ) → Bool
has_transaction c item sub = not (is_no_item c (row_at item attr.Transaction sub))

-- the positions of transactions, from 0 to the first that has none
unfoldable pub positions_of : Contents → ItemNo → List ℕ
positions_of c item = take_while (has_transaction c item) (range_with_len 0 65536)

-- the attributes of the transaction at a position
abbrev pub transaction_entries : ItemNo → (sub : ℕ) → List Entry
transaction_entries item sub = map (λ a. Row (row_at item a sub)) transaction_attributes

-- All transactions are at the place of TRANSACTION. DEFINITION is no attribute that is read.
abbrev pub entries_at : Contents → ItemNo → Attr → List Entry
entries_at c item a =
    if same_attr a attr.Transaction then flat_map (transaction_entries item) (positions_of c item)
    else if is_of_transaction a || same_attr a attr.Definition then []
    else Row (row_at item a 0) ∷ []

-- the entries of an attribute, which not every item may have
unfoldable pub attribute_entries : Contents → ItemNo → Attr → List Entry
attribute_entries c item a = if has_attr (kind_of item) a then entries_at c item a else []

-- the name of an item, and its attributes
unfoldable pub item_entries : Contents → ItemNo → List Entry
item_entries c item = Head item ∷ flat_map (attribute_entries c item) attributes

-- the items of a kind by their numbers
unfoldable pub kind_entries : Contents → Kind → List Entry
kind_entries c k =
    flat_map (λ n. item_entries c (item_number k n)) (range_with_len 0 (count_in c.counts k))

-- the identification, and then the items by kind
unfoldable pub entries_of : Contents → List Entry
entries_of c = Identification ∷ flat_map (kind_entries c) kinds

-- No entry is the same as one after it.
abbrev pub AreOnce : List Entry → Type 0
AreOnce [] = ⊤
AreOnce (e ∷ rest) = AllByRecursion (λ later. e ≢ later) rest × AreOnce rest

-- ---- the line of an entry

-- the line of the identification
unfoldable pub identification_line : Counts → List ℕ
identification_line counts =
    codes "identification " ++ decimal counts.manufacturer ++ 32 ∷ decimal counts.device_type
    ++ 32 ∷ decimal counts.device_revision ++ 32 ∷ decimal counts.dd_revision ++ 10 ∷ []

-- a variable's type and size, where there is such a variable
abbrev pub type_shown : Option VariableType → List ℕ
type_shown None = []
type_shown (Some t) = 32 ∷ type_word t.type ++ 32 ∷ decimal t.size

-- what follows the name of an item: of a variable its type
abbrev pub after_name : Contents → ItemNo → List ℕ
after_name c (items.Variable n) = type_shown (slice_get (environment_of c).types n.0)
after_name c _ = []

-- the first line of an item
unfoldable pub head_line : Contents → ItemNo → List ℕ
head_line c item =
    kind_name (kind_of item) ++ 32 ∷ name_of c item ++ after_name c item ++ 10 ∷ []

-- the word of an attribute, in a transaction with the position between brackets
unfoldable pub row_word : AttrRef → List ℕ
row_word ref =
    if is_of_transaction ref.attr then attr_word ref.attr ++ 91 ∷ decimal ref.sub ++ 93 ∷ []
    else attr_word ref.attr

-- what is read: the records, or the word of the trap
unfoldable pub reading_shown : Contents → (code : List ℕ) → Reading → List ℕ
reading_shown c code NoItem = []
reading_shown c code (Records rs) = records_shown c code rs
reading_shown c code (Fault why) = codes " fault " ++ trap_word why

-- there is nothing to read
abbrev pub is_absent : Reading → Bool
is_absent NoItem = true
is_absent (Records rs) = false
is_absent (Fault why) = false

-- there is no record, and no trap
abbrev pub is_nothing : Reading → Bool
is_nothing NoItem = true
is_nothing (Records []) = true
is_nothing (Records (r ∷ rs)) = false
is_nothing (Fault why) = false

-- the line of what is read; an attribute outside of transactions with nothing to say has none
unfoldable pub reading_line : Contents → (code : List ℕ) → AttrRef → Reading → List ℕ
reading_line c code ref r =
    if is_nothing r && not (is_of_transaction ref.attr) then []
    else row_word ref ++ reading_shown c code r ++ 10 ∷ []

-- ---- what is shown

module _ (b : List ℕ) (values : List ℤ) (code : List ℕ) where
  -- This is the line of the entry, of an attribute by what is read of it.
  unfoldable pub LineOf : Entry → List ℕ → Type 0
  LineOf Identification line = line ≡ identification_line (contents_in b).counts
  LineOf (Head item) line = line ≡ head_line (contents_in b) item
  LineOf (Row ref) line = (r : Reading) × IsReading b ref values r
      × (line ≡ reading_line (contents_in b) code ref r)

  -- The text is the lines of the entries, one after the other.
  unfoldable pub Shows : List Entry → List ℕ → Type 0
  Shows [] text = text ≡ []
  Shows (e ∷ rest) text = (line others : List ℕ) × LineOf e line × Shows rest others
      × (text ≡ line ++ others)

  -- What was written has grown by the lines of the entries.
  unfoldable pub Prints : List Entry → (old new : Option (List ℕ)) → Type 0
  Prints entries old new = (text : List ℕ) × Shows entries text × Appends old new text

-- the fault says that the values are not those of a device
abbrev pub blames_values : ShowFault → Bool
blames_values show_fault.WrongValues = true
blames_values show_fault.Output = false
blames_values show_fault.Memory = false
