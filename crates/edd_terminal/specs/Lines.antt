-- The lines of a description: what is shown of it under values of its device.
use Rattle.std.specs.Prelude.{ℕ, ℤ, Bool, true, false, not, ◌&&◌, ◌||◌, if◌then◌else◌, List, [], ◌∷◌, ◌++◌, Option, Some, None, Ok, Err, is_some, slice_get, codes}
use Rattle.std.specs.Fmt.{decimal, signed_decimal}
use Rattle.std.specs.List.{flat_map, range_with_len, take_while}
use Rattle.edd_syntax.specs.declared.numbers.Attr.{Attr}
use Rattle.edd_syntax.specs.declared.numbers.Attr.TheVariants as attr
use Rattle.edd_syntax.specs.declared.numbers.AttrRef.{AttrRef}
use Rattle.edd_syntax.specs.declared.numbers.ItemNo.{ItemNo}
use Rattle.edd_syntax.specs.declared.numbers.ItemNo.TheVariants as items
use Rattle.edd_syntax.specs.declared.numbers.Kind.{Kind}
use Rattle.edd_syntax.specs.declared.reference.Target.{Target}
use Rattle.edd_syntax.specs.Words.{Words, Key, Variants, text_for}
use Rattle.edd_syntax.specs.Numbers.{has_attr, item_number, kind_name, kind_of, same_attr}
use Rattle.edd_syntax.specs.Item.{Description, Identification}
use Rattle.edd_syntax.specs.Resolution.{count_of}
use Rattle.edd_syntax.specs.Device.{environment, item_at}
use Rattle.edd_syntax.specs.Attributes as source
use Rattle.edd_syntax.specs.Attributes.{Gives, NoItem, Reading, Record, data_bits, is_of_transaction, menu_bits, read_attribute, transactions}
use Rattle.edd_instructions.specs.Agreement.{class_number, mask_number}
use Rattle.edd_display.specs.Records.{mask_shown}
use Rattle.edd_display.specs.Shown.{Entry, Head, Identification as identity, Row, attributes, kinds, row_at, row_word, transaction_entries, type_shown}
use Rattle.edd_display.specs.Words.{class_word, data_qualifiers, key_shown, menu_qualifiers, qualifiers_shown, quoted, trap_word}

-- ---- strings and names

-- a string: its text for a language between quotes, or its key between brackets
abbrev pub words_shown : (code : List ℕ) → Words → List ℕ
words_shown code (Variants first rest) = quoted (text_for (Variants first rest) code)
words_shown code (Key name) = key_shown name

-- the name of a member, without quotes
abbrev pub member_words_shown : (code : List ℕ) → Words → List ℕ
member_words_shown code (Variants first rest) = text_for (Variants first rest) code
member_words_shown code (Key name) = key_shown name

-- a blank and the string, where there is one
abbrev pub optional_words_shown : (code : List ℕ) → Option Words → List ℕ
optional_words_shown code None = []
optional_words_shown code (Some words) = 32 ∷ words_shown code words

-- ---- the identification, and what is silent

-- the line of the identification
unfoldable pub identification_shown : Identification → List ℕ
identification_shown i =
    codes "identification " ++ decimal i.manufacturer ++ 32 ∷ decimal i.device_type
    ++ 32 ∷ decimal i.device_revision ++ 32 ∷ decimal i.dd_revision ++ 10 ∷ []

-- there is no record, and no trap
abbrev pub means_nothing : Reading → Bool
means_nothing NoItem = true
means_nothing (Gives (Ok [])) = true
means_nothing (Gives (Ok (x ∷ xs))) = false
means_nothing (Gives (Err why)) = false

-- ---- the entries

module _ (unit : Description Target) where
  -- the name of an item; nothing where there is no such item
  unfoldable pub name_in : ItemNo → List ℕ
  name_in item = elim (item_at unit item) [ None ↦ [] | Some i ↦ i.name ]

  -- the item has a transaction at this position
  abbrev pub has_transaction_at : ItemNo → (sub : ℕ) → Bool
  has_transaction_at item sub = elim (item_at unit item) [
    | None ↦ false
    | Some i ↦ is_some (slice_get (transactions (environment unit) i.attributes) sub)
  ]

  -- the positions of an item's transactions, of 65,536 that there can be
  unfoldable pub positions_in : ItemNo → List ℕ
  positions_in item = take_while (has_transaction_at item) (range_with_len 0 65536)

  -- All transactions are at the place of TRANSACTION. DEFINITION is no attribute that is shown.
  abbrev pub entries_for : ItemNo → Attr → List Entry
  entries_for item a =
      if same_attr a attr.Transaction then flat_map (transaction_entries item) (positions_in item)
      else if is_of_transaction a || same_attr a attr.Definition then []
      else Row (row_at item a 0) ∷ []

  -- the entries of an attribute, which not every item may have
  unfoldable pub attribute_entries_in : ItemNo → Attr → List Entry
  attribute_entries_in item a = if has_attr (kind_of item) a then entries_for item a else []

  -- the name of an item, and its attributes
  unfoldable pub item_entries_in : ItemNo → List Entry
  item_entries_in item = Head item ∷ flat_map (attribute_entries_in item) attributes

  -- the items of a kind by their numbers
  unfoldable pub kind_entries_in : Kind → List Entry
  kind_entries_in k =
      flat_map (λ n. item_entries_in (item_number k n)) (range_with_len 0 (count_of k unit.items))

  -- the identification, and then the items by kind
  unfoldable pub entries_in : List Entry
  entries_in = identity ∷ flat_map kind_entries_in kinds

  -- ---- the lines

  -- what follows the name of an item: of a variable its type
  abbrev pub behind_name : ItemNo → List ℕ
  behind_name (items.Variable n) = type_shown (slice_get (environment unit).variables n.0)
  behind_name _ = []

  -- the first line of an item
  unfoldable pub head_shown : ItemNo → List ℕ
  head_shown item =
      kind_name (kind_of item) ++ 32 ∷ name_in item ++ behind_name item ++ 10 ∷ []

  module _ (code : List ℕ) where
    -- one record
    unfoldable pub meant_record_shown : Record → List ℕ
    meant_record_shown (source.Words text) = words_shown code text
    meant_record_shown (source.Number z) = signed_decimal z
    meant_record_shown (source.Entry item quals) =
        name_in item ++ qualifiers_shown (menu_bits quals) menu_qualifiers
    meant_record_shown (source.DataConst n) = decimal n
    meant_record_shown (source.DataVar var mask quals) =
        name_in (items.Variable var) ++ mask_shown (mask_number mask)
        ++ qualifiers_shown (data_bits quals) data_qualifiers
    meant_record_shown (source.Enumerator value text help) =
        123 ∷ signed_decimal value ++ 32 ∷ words_shown code text ++ optional_words_shown code help
        ++ 125 ∷ []
    meant_record_shown (source.Response number class text) =
        123 ∷ decimal number ++ 32 ∷ class_word (class_number class) ++ 32 ∷ words_shown code text
        ++ 125 ∷ []
    meant_record_shown (source.Member name item label help) =
        123 ∷ member_words_shown code name ++ 32 ∷ name_in item ++ optional_words_shown code label
        ++ optional_words_shown code help ++ 125 ∷ []
    meant_record_shown (source.Element number var label help) =
        123 ∷ decimal number ++ 32 ∷ name_in (items.Variable var) ++ optional_words_shown code label
        ++ optional_words_shown code help ++ 125 ∷ []

    -- the records in their order, each after a blank
    abbrev pub meant_records_shown : List Record → List ℕ
    meant_records_shown xs = flat_map (λ x. 32 ∷ meant_record_shown x) xs

    -- what an attribute means: its records, or the word of the trap
    unfoldable pub meaning_shown : Reading → List ℕ
    meaning_shown NoItem = []
    meaning_shown (Gives (Ok xs)) = meant_records_shown xs
    meaning_shown (Gives (Err why)) = codes " fault " ++ trap_word why

    -- the line of an attribute; one outside of transactions with nothing to say has none
    unfoldable pub row_shown : AttrRef → Reading → List ℕ
    row_shown ref r =
        if means_nothing r && not (is_of_transaction ref.attr) then []
        else row_word ref ++ meaning_shown r ++ 10 ∷ []

    module _ (values : List ℤ) where
      -- the line of an entry
      abbrev pub entry_shown : Entry → List ℕ
      entry_shown identity = identification_shown unit.identification
      entry_shown (Head item) = head_shown item
      entry_shown (Row ref) = row_shown ref (read_attribute unit ref values)

      -- all lines of a description
      unfoldable pub unit_shown : List ℕ
      unit_shown = flat_map entry_shown entries_in
