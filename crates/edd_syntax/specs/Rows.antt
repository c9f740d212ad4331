-- The written attributes of a description, in the order in which an image has them.
use Rattle.std.specs.Prelude.{◌≡◌, ℕ, suc, Bool, List, [], ◌∷◌, ◌++◌, map, filter, if◌then◌else◌, slice_get, Option, Some}
use Rattle.std.specs.List.{list_any, flat_map}
use Rattle.edd_syntax.specs.declared.numbers.Kind.{Kind}
use Rattle.edd_syntax.specs.declared.numbers.Attr.{Attr}
use Rattle.edd_syntax.specs.declared.numbers.Attr.TheVariants as attr
use Rattle.edd_syntax.specs.declared.numbers.ItemNo.{ItemNo}
use Rattle.edd_syntax.specs.declared.numbers.TheConstants.{ATTRIBUTES}
use Rattle.edd_syntax.specs.declared.numbers.AttrRef.{AttrRef}
use Rattle.edd_syntax.specs.declared.reference.Target.{Target}
use Rattle.edd_syntax.specs.declared.rows.Listed.{Listed}
use Rattle.edd_syntax.specs.Item as item
use Rattle.edd_syntax.specs.Item.{attr_of, kind_of_item, TypePart, Attribute, Item}
use Rattle.edd_syntax.specs.ItemView.{numbered_attribute}
use Rattle.edd_syntax.specs.Numbers.{same_kind, same_attr, item_number, kind_of, index_of, number_attr, format_attr}
use Rattle.edd_syntax.specs.Resolution.{kinds}
use Rattle.edd_syntax.specs.Attributes.{is_of_transaction}

-- ---- what is written

-- the attribute to which a part of a type's braces belongs
abbrev pub part_attr : {R : Type 0} → TypePart R → Attr
part_attr (item.OneNumber which c) = number_attr which
part_attr (item.OneFormat which c) = format_attr which
part_attr (item.Element c) = attr.Enumerators

-- whether it is this attribute
unfoldable pub part_stands_for : {R : Type 0} → Attr → TypePart R → Bool
part_stands_for a p = same_attr a (part_attr p)

-- TYPE stands for what its braces hold; transactions go by their position
abbrev pub written_attrs : {R : Type 0} → Attribute R → List Attr
written_attrs (item.TypeOf word parts) = map part_attr parts
written_attrs (item.Transaction number parts) = []
written_attrs a = attr_of a ∷ []

-- whether this attribute is among those that a written one stands for
unfoldable pub stands_for : {R : Type 0} → Attr → Attribute R → Bool
stands_for a w = list_any (same_attr a) (written_attrs w)

-- whether one of these stands for the attribute
abbrev pub is_written : {R : Type 0} → Attr → List (Attribute R) → Bool
is_written a attributes = list_any (stands_for a) attributes

-- ---- the rows of an item

-- the positions of transactions, the next being `next`
abbrev pub transaction_positions : {R : Type 0} → (next : ℕ) → List (Attribute R) → List ℕ
transaction_positions next [] = []
transaction_positions next (item.Transaction number parts ∷ rest) = next
    ∷ transaction_positions (suc next) rest
transaction_positions next (_ ∷ rest) = transaction_positions next rest

-- each transaction has its three attributes, written or not; another attribute is at 0 where it
-- is written
abbrev pub positions : {R : Type 0} → Attr → List (Attribute R) → List ℕ
positions a attributes =
    if is_of_transaction a then transaction_positions 0 attributes
    else (if is_written a attributes then 0 ∷ [] else [])

-- the rows of an attribute of an item, at these positions
unfoldable pub rows_at : ItemNo → Attr → List ℕ → List AttrRef
rows_at number a subs = map (λ sub. record { item = number; attr = a; sub = sub }) subs

-- the rows of an attribute of an item
abbrev pub item_rows : {R : Type 0} → ItemNo → Attr → List (Attribute R) → List AttrRef
item_rows number a attributes = rows_at number a (positions a attributes)

-- ---- all rows

-- of items of a kind, the first of which has the number `next`
abbrev pub rows_from : {R : Type 0} → Kind → Attr → (next : ℕ) → List (Item R) → List AttrRef
rows_from k a next [] = []
rows_from k a next (i ∷ rest) = item_rows (item_number k next) a i.attributes
    ++ rows_from k a (suc next) rest

-- the attributes by their numbers
abbrev pub attributes_in_order : List Attr
attributes_in_order = ATTRIBUTES

-- the items of a kind, in their order
abbrev pub of_kind : {R : Type 0} → Kind → List (Item R) → List (Item R)
of_kind k items = filter (λ i. same_kind (kind_of_item i.sort) k) items

-- the rows of an attribute of all items of a kind
abbrev pub rows_of_attr : {R : Type 0} → List (Item R) → Kind → Attr → List AttrRef
rows_of_attr items k a = rows_from k a 0 (of_kind k items)

-- the rows of all attributes of all items of a kind
unfoldable pub rows_of_kind : {R : Type 0} → List (Item R) → Kind → List AttrRef
rows_of_kind items k = flat_map (rows_of_attr items k) attributes_in_order

-- the rows by kind, attribute, item and position
abbrev pub rows : {R : Type 0} → List (Item R) → List AttrRef
rows items = flat_map (rows_of_kind items) kinds

-- ---- rows with the attributes of their items

-- the attributes of each item of a kind
abbrev pub attributes_of_items : {R : Type 0} → Kind → List (Item R) → List (List (Attribute R))
attributes_of_items k items = map (λ i. i.attributes) (of_kind k items)

-- the attributes of the item of a row
abbrev pub attributes_of_row : {R : Type 0} → List (Item R) → AttrRef
    → Option (List (Attribute R))
attributes_of_row items row = slice_get (attributes_of_items (kind_of row.item) items)
    (index_of row.item)

-- a listed row has the attributes of its item
abbrev pub HasItsAttributes : List (Item Target) → Listed → Type 0
HasItsAttributes items l = attributes_of_row items l.row
    ≡ Some (map numbered_attribute l.attributes.now)

-- a row and the attributes of its item, if there is such an item
abbrev pub Listing : Type 0 → Type 0
Listing R = AttrRef × Option (List (Attribute R))

-- a row with these attributes
abbrev pub with_these : {R : Type 0} → List (Attribute R) → AttrRef → Listing R
with_these attributes row = (row, Some attributes)

-- a row with those of its item
abbrev pub with_its : {R : Type 0} → List (Item R) → AttrRef → Listing R
with_its items row = (row, attributes_of_row items row)

-- a listed row
abbrev pub listed_of : Listed → Listing Target
listed_of l = with_these (map numbered_attribute l.attributes.now) l.row

-- the rows of an attribute of an item, which has this number, with its attributes
abbrev pub listed_item : {R : Type 0} → Kind → Attr → ℕ → Item R → List (Listing R)
listed_item k a number i =
    map (with_these i.attributes) (item_rows (item_number k number) a i.attributes)

-- of items of a kind, as `rows_from` has them
abbrev pub listed_from : {R : Type 0} → Kind → Attr → (next : ℕ) → List (Item R) → List (Listing R)
listed_from k a next [] = []
listed_from k a next (i ∷ rest) = listed_item k a next i ++ listed_from k a (suc next) rest
