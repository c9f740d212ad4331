-- The entries of an image are those of the unit that it agrees with.
use Rattle.std.proofs.Common.{◌≡◌, ℕ, zero, suc, ℤ, Bool, true, false, not, cond, List, [], ◌∷◌, ◌++◌, Option, Some, None, Ok, Err, refl, sym, ap, ◌∙◌}
use Rattle.std.specs.Prelude.{◌&&◌, if◌then◌else◌, is_some, slice_get}
use Rattle.std.specs.List.{filter, flat_map, range_with_len, take_while}
use Rattle.std.proofs.lemmas.List.Sums.{take_while-cons}
use Rattle.edd_syntax.specs.declared.numbers.Attr.{Attr}
use Rattle.edd_syntax.specs.declared.numbers.Attr.TheVariants as attr
use Rattle.edd_syntax.specs.declared.numbers.AttrRef.{AttrRef}
use Rattle.edd_syntax.specs.declared.numbers.ItemNo.{ItemNo}
use Rattle.edd_syntax.specs.declared.numbers.Kind.{Kind}
use Rattle.edd_syntax.specs.declared.reference.Target.{Target}
use Rattle.edd_syntax.specs.Attributes as source
use Rattle.edd_syntax.specs.Attributes.{gives_in, is_readable, read_attribute, read_item, transactions}
use Rattle.edd_syntax.specs.Device.{environment, item_at}
use Rattle.edd_syntax.specs.DeviceValues.{AreDeviceValues}
use Rattle.edd_syntax.specs.Item.{Description, Item, kind_of_item}
use Rattle.edd_syntax.specs.Numbers.{has_attr, index_of, item_number, kind_of, same_kind}
use Rattle.edd_syntax.proofs.KnownByNumber.{same_kinds}
use Rattle.edd_image.specs.Contents.{Contents, contents_in}
use Rattle.edd_instructions.specs.Agreement.{AgreesOnData, SameReading, count_in, string_numbered}
use Rattle.edd_instructions.specs.Reading as image
use Rattle.edd_instructions.specs.Reading.{is_no_item}
use Rattle.edd_machine.specs.Types.{types_in}
use Rattle.edd_display.specs.Shown.{Entry, Head, Identification as identity, attribute_entries, attributes, entries_of, has_transaction, is_absent, item_entries, kind_entries, kinds, positions_of, row_at, transaction_entries}
use Rattle.edd_display.proofs.Positions.{absent_read}
use Rattle.edd_promise.proofs.UnitReads.{reads}
use Rattle.edd_terminal.specs.Lines.{attribute_entries_in, entries_in, has_transaction_at, item_entries_in, kind_entries_in, positions_in}

-- ---- lists

flat_map_same : {A B : Type 0} (f g : A → List B) (xs : List A) → ((x : A) → f x ≡ g x)
    → flat_map f xs ≡ flat_map g xs
flat_map_same f g [] same = refl
flat_map_same {A} {B} f g (x ∷ xs) same =
    ap (λ (front : List B). front ++ flat_map f xs) (same x)
    ∙ ap (λ (more : List B). g x ++ more) (flat_map_same f g xs same)

take_while_same : {A : Type 0} (p q : A → Bool) (xs : List A) → ((x : A) → p x ≡ q x)
    → take_while p xs ≡ take_while q xs
take_while_same p q [] same = refl
take_while_same {A} p q (x ∷ xs) same =
    take_while-cons p x xs
    ∙ ap (λ (t : Bool). cond t (x ∷ take_while p xs) []) (same x)
    ∙ ap (λ (more : List A). cond (q x) (x ∷ more) []) (take_while_same p q xs same)
    ∙ sym (take_while-cons q x xs)

-- what a filter lets through passes it
passes : {A : Type 0} (p : A → Bool) (xs : List A) (n : ℕ) (x : A)
    → slice_get (filter p xs) n ≡ Some x → p x ≡ true
passes p [] n x is = absurd cc
passes {A} p (y ∷ ys) n x is = by (λ m e. passes p ys m x e) (p y) refl n is
  where
    by : ((m : ℕ) → slice_get (filter p ys) m ≡ Some x → p x ≡ true) → (t : Bool) → p y ≡ t
        → (m : ℕ) → slice_get (cond t (y ∷ filter p ys) (filter p ys)) m ≡ Some x → p x ≡ true
    by rest true passed zero e = let same : y ≡ x = cc in ap p (sym same) ∙ passed
    by rest true passed (suc m) e = rest m e
    by rest false failed m e = rest m e

-- ---- transactions

-- nothing is read
abbrev nothing_read : source.Reading → Bool
nothing_read source.NoItem = true
nothing_read (source.Gives given) = false

absent_alike : (text : _) (x : source.Reading) (r : image.Reading) → SameReading text x r
    → is_absent r ≡ nothing_read x
absent_alike text source.NoItem r same = ap is_absent same
absent_alike text (source.Gives (Ok xs)) r same = ap is_absent same.1
absent_alike text (source.Gives (Err why)) r same = ap is_absent same

module _ (unit : Description Target) where
  -- the kind of an item that is found
  kind_found : (item : ItemNo) (i : Item Target) → item_at unit item ≡ Some i
      → kind_of_item i.sort ≡ kind_of item
  kind_found item i is = same_kinds (kind_of_item i.sort) (kind_of item)
      (passes (λ j. same_kind (kind_of_item j.sort) (kind_of item)) unit.items (index_of item) i is)

  given_there : (o : Option (List source.Named)) (values : List ℤ)
      → nothing_read (gives_in attr.Transaction o values) ≡ not (is_some o)
  given_there None values = refl
  given_there (Some t) values = refl

  by_readable : (t : Bool) (o : Option (List source.Named)) (values : List ℤ) → t ≡ true
      → nothing_read (if not t then source.NoItem else gives_in attr.Transaction o values)
      ≡ not (is_some o)
  by_readable true o values is = given_there o values
  by_readable false o values is = absurd cc

  -- nothing is read of TRANSACTION exactly where there is no such transaction
  nothing_there : (item : ItemNo) (sub : ℕ) (values : List ℤ)
      → has_attr (kind_of item) attr.Transaction ≡ true
      → nothing_read (read_attribute unit (row_at item attr.Transaction sub) values)
      ≡ not (has_transaction_at unit item sub)
  unfolding read_attribute
  nothing_there item sub values has = by_item (item_at unit item) refl
    where
      by_item : (o : Option (Item Target)) → item_at unit item ≡ o
          → nothing_read (elim o as (λ _. source.Reading) [
            | Some i ↦ read_item (environment unit) i attr.Transaction sub values
            | None ↦ source.NoItem
          ])
          ≡ not (elim o as (λ _. Bool) [
            | None ↦ false
            | Some i ↦ is_some (slice_get (transactions (environment unit) i.attributes) sub)
          ])
      by_item None is = refl
      by_item (Some i) is =
          let readable : is_readable (kind_of_item i.sort) attr.Transaction ≡ true =
          ap (λ (k : Kind). is_readable k attr.Transaction) (kind_found item i is)
          ∙ ap (λ (t : Bool). t && true) has in
          by_readable (is_readable (kind_of_item i.sort) attr.Transaction)
          (slice_get (transactions (environment unit) i.attributes) sub) values readable

module _ (unit : Description Target) (b : List ℕ) (agrees : AgreesOnData unit (contents_in b))
    (values : List ℤ) (are : AreDeviceValues (types_in b) values) where
  abbrev c : Contents
  c = contents_in b

  transaction_is : (item : ItemNo) → has_attr (kind_of item) attr.Transaction ≡ true → (sub : ℕ)
      → has_transaction c item sub ≡ has_transaction_at unit item sub
  transaction_is item has sub =
      let ref : AttrRef = row_at item attr.Transaction sub in
      let there = reads unit b agrees ref values are in
      ap not (sym (absent_read b ref values there.0 there.1))
      ∙ ap not (absent_alike (string_numbered c) (read_attribute unit ref values) there.0 there.2)
      ∙ ap not (nothing_there unit item sub values has)
      ∙ twice (has_transaction_at unit item sub)
    where
      twice : (t : Bool) → not (not t) ≡ t
      twice true = refl
      twice false = refl

  positions_are : (item : ItemNo) → has_attr (kind_of item) attr.Transaction ≡ true
      → positions_of c item ≡ positions_in unit item
  unfolding positions_of positions_in
  positions_are item has = take_while_same (has_transaction c item) (has_transaction_at unit item)
      (range_with_len 0 65536) (transaction_is item has)

  attribute_is : (item : ItemNo) (a : Attr)
      → attribute_entries c item a ≡ attribute_entries_in unit item a
  unfolding attribute_entries attribute_entries_in
  attribute_is item attr.Transaction = by (has_attr (kind_of item) attr.Transaction) refl
    where
      by : (t : Bool) → has_attr (kind_of item) attr.Transaction ≡ t
          → (if t then flat_map (transaction_entries item) (positions_of c item) else [])
          ≡ (if t then flat_map (transaction_entries item) (positions_in unit item) else [])
      by true has = ap (flat_map (transaction_entries item)) (positions_are item has)
      by false has = refl
  attribute_is item _ = refl

  item_is : (item : ItemNo) → item_entries c item ≡ item_entries_in unit item
  unfolding item_entries item_entries_in
  item_is item = ap (λ (more : List Entry). Head item ∷ more)
      (flat_map_same (attribute_entries c item) (attribute_entries_in unit item) attributes
      (attribute_is item))

  kind_is : (k : Kind) → kind_entries c k ≡ kind_entries_in unit k
  unfolding kind_entries kind_entries_in
  kind_is k =
      flat_map_same (λ n. item_entries c (item_number k n))
      (λ n. item_entries_in unit (item_number k n)) (range_with_len 0 (count_in c.counts k))
      (λ n. item_is (item_number k n))
      ∙ ap (λ (count : ℕ). flat_map (λ n. item_entries_in unit (item_number k n))
      (range_with_len 0 count)) (agrees.counts k)

  pub entries_are : entries_of c ≡ entries_in unit
  unfolding entries_of entries_in
  entries_are = ap (λ (more : List Entry). identity ∷ more)
      (flat_map_same (kind_entries c) (kind_entries_in unit) kinds kind_is)
