-- What is read of the sections of an attribute is what the tree of the description gives.
use Rattle.std.proofs.Common.{◌≡◌, refl, sym, ap, ◌∙◌, subst, ℕ, zero, suc, ◌<◌, ◌≤◌, ◌^◌, Bool, true, false, not, List, [], ◌∷◌, length, Option, Some, None, nat_lt, arith}
use Rattle.std.specs.Prelude.{◌==◌, ◌||◌, ℤ, slice_get, is_some, is_none, option_map, Ok, if◌then◌else◌}
use Rattle.std.specs.List.{flat_map, list_all, list_any}
use Rattle.std.proofs.Math.Logic.{◌⊎◌, ⊎_elim}
use Rattle.std.proofs.lemmas.Bool.{false≢true, and_parts, and_cases, or_left, or_right, not_from_false, not-true, not-false, lt-ltb, le-ltb, eq-eqb, eqb-true}
use Rattle.std.proofs.lemmas.List.Elements.{recursion_from_All, filter_passes}
use Rattle.std.proofs.lemmas.Option.{none-some, slice_get_within, get_or_from_slice_get}
use Rattle.edd_syntax.specs.declared.numbers.Kind.{Kind}
use Rattle.edd_syntax.specs.declared.numbers.StrNo.{StrNo}
use Rattle.edd_syntax.specs.declared.numbers.ItemNo.{ItemNo}
use Rattle.edd_syntax.specs.declared.numbers.ItemNo.TheVariants as items_no
use Rattle.edd_syntax.specs.declared.numbers.Attr.TheVariants as attr
use Rattle.edd_syntax.specs.declared.numbers.AttrRef.{AttrRef}
use Rattle.edd_syntax.specs.declared.reference.Target.{Target}
use Rattle.edd_syntax.specs.Numbers.{kind_of, index_of, attr_number, same_attr, same_kind, has_attr}
use Rattle.edd_syntax.specs.Item.{kind_of_item, Item, Description}
use Rattle.edd_syntax.specs.Words.{Words}
use Rattle.edd_syntax.specs.Device as device
use Rattle.edd_syntax.specs.Device.{item_at, environment}
use Rattle.edd_syntax.specs.DeviceValues.{AreDeviceValues}
use Rattle.edd_syntax.specs.AttributeValue.{◌>>=◌}
use Rattle.edd_syntax.specs.Attributes as source
use Rattle.edd_syntax.specs.Attributes.{Named, Meaning, meaning_of, of_attributes, transactions, gives, gives_in, is_readable, read_item, read_attribute, or_default}
use Rattle.edd_syntax.specs.Resolution.{count_of}
use Rattle.edd_syntax.specs.Rows.{is_written, transaction_positions, positions, of_kind}
use Rattle.edd_instructions.specs.declared.unit.Sort.TheVariants.{Attribute, Method}
use Rattle.edd_image.specs.Existing.{item_exists}
use Rattle.edd_image.specs.Contents.{part, Contents, AttributeFields, contents_of}
use Rattle.edd_image.specs.Strings.{string_in, string_bytes, is_words}
use Rattle.edd_instructions.specs.Steps.{opening}
use Rattle.edd_instructions.specs.Reading as image
use Rattle.edd_instructions.specs.Reading.{environment_of, row_of, opening_of, given_within, reading_of, default_records, is_no_item, reading_within}
use Rattle.edd_instructions.specs.Agreement.{machine_of, SameReading, SameRun, IsAttributeCode, string_of_table, string_numbered, item_meaning, tree_meaning}
use Rattle.edd_assembly.specs.Assembly.{Lowered, assembled}
use Rattle.edd_assembly.specs.LoweredUnits.{IsBodyCode, IsUnitOf, AreUnitsOf}
use Rattle.edd_assembly.proofs.Cutting.{code_of, code_cut}
use Rattle.edd_syntax.proofs.KnownByNumber.{same_kinds}
use Rattle.edd_image.specs.Front as front
use Rattle.edd_assembly.proofs.RecordsAgree.{string_missing, string_read, default_same, reading_agrees}
use Rattle.edd_assembly.proofs.RowsAmong.{same_ref, among_rows}
use Rattle.edd_assembly.proofs.RowsFound.{Found, of_ref, same_refs, found_or_none, among_plain}
use Rattle.edd_assembly.proofs.TypesRead.{types_read}
use Rattle.edd_assembly.proofs.Unwritten.{unwritten, transaction_at}

pub past : {A : Type 0} (xs : List A) (n : ℕ) → slice_get xs n ≡ None → length xs ≤ n
past [] n h = omega arith
past (x ∷ xs) zero h = absurd (none-some x (sym h))
past (x ∷ xs) (suc n) h = omega (arith, past xs n h)

pub its_kind : (k : Kind) (items : List (Item Target)) (n : ℕ) (i : Item Target)
    → slice_get (of_kind k items) n ≡ Some i → kind_of_item i.sort ≡ k
its_kind k items n i h =
    same_kinds (kind_of_item i.sort) k
    (subst (λ (x : Item Target). same_kind (kind_of_item x.sort) k ≡ true)
    (get_or_from_slice_get (of_kind k items) n i i h)
    (filter_passes (λ (x : Item Target). same_kind (kind_of_item x.sort) k) items n i
    (slice_get_within (of_kind k items) n i h)))

attribute_code : (unit : Description Target) (strings : List Words) (l : Lowered)
    → IsUnitOf unit strings l → same_attr l.row.attr attr.Definition ≡ false
    → IsAttributeCode unit strings l.row l.code
attribute_code unit strings l = pick (same_attr l.row.attr attr.Definition)
  where
    pick : (b : Bool) → (elim b as (λ w. Type 0) [
      | true ↦ IsBodyCode unit strings l.row.sub l.code
      | false ↦ IsAttributeCode unit strings l.row l.code
    ]) → b ≡ false
        → IsAttributeCode unit strings l.row l.code
    pick true u is = absurd (false≢true (sym is))
    pick false u is = u

not_written : (sub : ℕ) (w : Bool) → list_any (λ s. s == sub) (if w then 0 ∷ [] else []) ≡ false
    → sub ≡ 0 → w ≡ false
not_written sub true h z =
    absurd (false≢true (sym h ∙ or_left (0 == sub) false (eq-eqb 0 sub (sym z))))
not_written sub false h z = refl

module _ (unit : Description Target) (lowered : List Lowered) (strings : List Words)
    (units : AreUnitsOf unit strings lowered)
    (valid : list_all is_words strings ≡ true) (short : length (flat_map string_bytes strings)
    < 2 ^ 32) where
  abbrev pub contents : Contents
  contents = contents_of (assembled unit lowered strings)

  pub kept : (n : StrNo) (w : Words) → string_of_table strings n ≡ Some w
      → string_numbered contents n ≡ Some w
  unfolding assembled
  kept = string_read strings valid short

  pub kept_back : (n : StrNo) (w : Words) → string_numbered contents n ≡ Some w
      → string_of_table strings n ≡ Some w
  unfolding assembled
  kept_back n w h = by_string (string_of_table strings n) refl
    where
      by_string : (o : Option Words) → string_of_table strings n ≡ o
          → string_of_table strings n ≡ Some w
      by_string (Some v) is = is ∙ sym (string_read strings valid short n v is) ∙ h
      by_string None is =
          let none : string_numbered contents n ≡ None =
          ap (λ o. front.◌>>=◌ o (λ span. string_in (part span contents.string_bytes)))
          (string_missing strings n is) in
          absurd (cc (none, h))

  pub same_types : environment_of contents ≡ machine_of (environment unit)
  unfolding assembled
  same_types = ap (λ types. record { types = types; elements = (environment unit).elements })
      (types_read unit.items)

  pub existing : (i : ItemNo) → item_exists contents.counts i
      ≡ nat_lt (index_of i) (count_of (kind_of i) unit.items)
  unfolding assembled
  existing (items_no.Variable n) = refl
  existing _ = refl

  module _ (ref : AttrRef) (values : List ℤ)
      (in_range : AreDeviceValues (environment unit).variables values) where
    abbrev env : device.Environment
    env = environment unit

    searched : (Found (of_ref ref) contents.code (IsUnitOf unit strings) (row_of contents ref)
        × (list_any (λ (l : Lowered). same_ref ref l.row) lowered ≡ true))
        ⊎ ((row_of contents ref ≡ None) × (list_any (λ (l : Lowered). same_ref ref l.row) lowered
        ≡ false))
    unfolding assembled
    searched = found_or_none (of_ref ref) (flat_map code_of lowered) (IsUnitOf unit strings) 0
        lowered (code_cut lowered) (recursion_from_All (IsUnitOf unit strings) lowered units.each)

    -- what is read agrees with this
    abbrev Agrees : source.Reading → Type 0
    Agrees x = (n : ℕ) × (r : image.Reading) × (reading_within n contents ref values ≡ Some r)
        × SameReading (string_numbered contents) x r

    -- what is read where the row is known
    abbrev read_by : (n : ℕ) → (no_item : Bool) → Option AttributeFields → Option image.Reading
    read_by n no_item found = elim no_item [
      | true ↦ Some image.NoItem
      | false ↦ elim found [
        | None ↦ Some (image.Records (default_records ref.attr))
        | Some r ↦ option_map (reading_of ref.attr)
            (given_within n (environment_of contents) (opening_of contents r values))
      ]
    ]

    nothing : is_no_item contents ref ≡ true → Agrees source.NoItem
    nothing h = (0, image.NoItem, ap (λ b. read_by 0 b (row_of contents ref)) h, refl)

    by_default : (meaning : Meaning) → is_no_item contents ref ≡ false → row_of contents ref ≡ None
        → meaning values ≡ Ok [] → Agrees (gives ref.attr meaning values)
    by_default meaning there none gives_none = (
      0,
      image.Records (default_records ref.attr),
      ap (λ b. read_by 0 b (row_of contents ref)) there ∙ ap (read_by 0 false) none,
      subst (λ m. SameReading (string_numbered contents)
          (source.Gives (m >>= λ rs. Ok (or_default ref.attr rs)))
          (image.Records (default_records ref.attr))) (sym gives_none) (
            default_records ref.attr,
            refl,
            default_same (string_of_table strings)
                (string_numbered contents) kept ref.attr,
          ),
    )

    by_unit : {meaning : Meaning} → tree_meaning unit ref ≡ meaning
        → same_attr ref.attr attr.Definition ≡ false → is_no_item contents ref ≡ false
        → Found (of_ref ref) contents.code (IsUnitOf unit strings) (row_of contents ref)
        → Agrees (gives ref.attr meaning values)
    by_unit {meaning} meant no_body there f =
        let row = same_refs f.unit.row ref f.same in
        let code = attribute_code unit strings f.unit f.kept
        (ap (λ (r : AttrRef). same_attr r.attr attr.Definition) row ∙ no_body) in
        let run = (subst (λ r. IsAttributeCode unit strings r f.unit.code) row code).means values
        in_range in (
          run.0,
          reading_of ref.attr run.1,
          ap (λ b. read_by run.0 b (row_of contents ref)) there
              ∙ ap (read_by run.0 false) f.is
              ∙ ap (option_map (reading_of ref.attr))
              (ap (λ b. given_within run.0 (environment_of contents)
              (opening (record {
                sort = if b then Method else Attribute;
                code = part f.row.span contents.code;
              }) (if b then f.row.sub else 0) values))
              (ap (λ n. n == 21) (f.attribute ∙ ap (λ (r : AttrRef). attr_number r.attr) row)
              ∙ no_body)
              ∙ ap (λ bytes. given_within run.0 (environment_of contents)
              (opening (record { sort = Attribute; code = bytes }) 0 values)) f.code
              ∙ ap (λ e. given_within run.0 e
              (opening (record { sort = Attribute; code = f.unit.code }) 0 values)) same_types
              ∙ run.2),
          reading_agrees (string_of_table strings) (string_numbered contents) kept ref.attr
              (meaning values) run.1
              (subst (λ (m : Meaning). SameRun (string_of_table strings) (m values) run.1) meant
              run.3),
        )

    -- ---- an item that there is

    module _ (i : Item Target) (there : item_at unit ref.item ≡ Some i) where
      exists : item_exists contents.counts ref.item ≡ true
      exists = existing ref.item
          ∙ lt-ltb (index_of ref.item) (count_of (kind_of ref.item) unit.items)
          (slice_get_within (of_kind (kind_of ref.item) unit.items) (index_of ref.item) i there)

      tree : tree_meaning unit ref ≡ item_meaning env i ref.attr ref.sub
      unfolding tree_meaning
      tree = ap (λ o. elim o as (λ w. Meaning) [
        | Some j ↦ item_meaning env j ref.attr ref.sub
        | None ↦ source.constant []
      ]) there

      -- an attribute that may be read
      module _ (may : has_attr (kind_of ref.item) ref.attr ≡ true)
          (no_body : same_attr ref.attr attr.Definition ≡ false) where
        no_item_is : is_no_item contents ref
            ≡ (if source.is_of_transaction ref.attr then is_none (row_of contents ref) else not
            (ref.sub == 0))
        no_item_is =
            ap (λ b. not b || (not (has_attr (kind_of ref.item) ref.attr)
            || (same_attr ref.attr attr.Definition
            || (if source.is_of_transaction ref.attr then is_none (row_of contents ref) else not
            (ref.sub == 0))))) exists
            ∙ ap (λ b. not b || (same_attr ref.attr attr.Definition
            || (if source.is_of_transaction ref.attr then is_none (row_of contents ref) else not
            (ref.sub == 0)))) may
            ∙ ap (λ b. b || (if source.is_of_transaction ref.attr then is_none (row_of contents ref)
            else not (ref.sub == 0))) no_body

        stands : list_any (λ (l : Lowered). same_ref ref l.row) lowered
            ≡ list_any (λ s. s == ref.sub) (positions ref.attr i.attributes)
        stands = among_plain ref no_body lowered ∙ ap (list_any (same_ref ref)) units.in_order
            ∙ among_rows unit.items ref i there

        -- ---- of a transaction

        module _ (of : source.is_of_transaction ref.attr ≡ true) where
          stands_in_order : list_any (λ (l : Lowered). same_ref ref l.row) lowered
              ≡ is_some (slice_get (transactions env i.attributes) ref.sub)
          stands_in_order =
              stands
              ∙ ap (λ b. list_any (λ s. s == ref.sub)
              (if b then transaction_positions 0 i.attributes else
              (if is_written ref.attr i.attributes then 0 ∷ [] else []))) of
              ∙ ap (λ m. list_any (λ s. s == m) (transaction_positions 0 i.attributes))
              (omega arith)
              ∙ transaction_at env 0 i.attributes ref.sub

          by_transaction : (o : Option (List Named))
              → slice_get (transactions env i.attributes) ref.sub ≡ o
              → Agrees (gives_in ref.attr o values)
          by_transaction None is =
              ⊎_elim (λ found. absurd (false≢true (sym (ap is_some is) ∙ sym stands_in_order
              ∙ found.1)))
              (λ none. nothing (no_item_is
              ∙ ap (λ b. if b then is_none (row_of contents ref) else not (ref.sub == 0)) of
              ∙ ap is_none none.0)) searched
          by_transaction (Some t) is =
              ⊎_elim (λ found. by_unit (tree ∙ ap (λ b. if b then elim
              (slice_get (transactions env i.attributes) ref.sub) as (λ w. Meaning) [
                | Some transaction ↦ meaning_of ref.attr transaction
                | None ↦ source.constant []
              ] else meaning_of ref.attr
              (of_attributes env i.attributes)) of
              ∙ ap (λ o. elim o as (λ w. Meaning) [
                | Some transaction ↦ meaning_of ref.attr transaction
                | None ↦ source.constant []
              ]) is)
              no_body (no_item_is ∙ ap (λ b. if b then is_none (row_of contents ref) else not
              (ref.sub == 0)) of ∙ ap is_none found.0.is) found.0)
              (λ none. absurd (false≢true (sym none.1 ∙ stands_in_order ∙ ap is_some is))) searched

        -- ---- another attribute

        module _ (isnt : source.is_of_transaction ref.attr ≡ false) where
          without_row : ref.sub ≡ 0 → list_any (λ (l : Lowered). same_ref ref l.row) lowered ≡ false
              → is_written ref.attr i.attributes ≡ false
          without_row z none =
              not_written ref.sub (is_written ref.attr i.attributes)
              (sym (ap (λ b. list_any (λ s. s == ref.sub)
              (if b then transaction_positions 0 i.attributes else
              (if is_written ref.attr i.attributes then 0 ∷ [] else []))) isnt) ∙ sym stands
              ∙ none) z

          by_position : (b : Bool) → (ref.sub == 0) ≡ b
              → Agrees (if b then gives ref.attr
              (meaning_of ref.attr (of_attributes env i.attributes)) values else source.NoItem)
          by_position true is =
              let reads = no_item_is ∙ ap (λ b. if b then is_none (row_of contents ref) else not
              (ref.sub == 0)) isnt ∙ ap not is in
              ⊎_elim (λ found. by_unit (tree ∙ ap (λ b. if b then elim
              (slice_get (transactions env i.attributes) ref.sub) as (λ w. Meaning) [
                | Some transaction ↦ meaning_of ref.attr transaction
                | None ↦ source.constant []
              ] else meaning_of ref.attr
              (of_attributes env i.attributes)) isnt)
              no_body reads found.0)
              (λ none. by_default (meaning_of ref.attr (of_attributes env i.attributes)) reads
              none.0 (unwritten env ref.attr values i.attributes
              (without_row (eqb-true ref.sub 0 is) none.1))) searched
          by_position false is = nothing
              (no_item_is ∙ ap (λ b. if b then is_none (row_of contents ref) else not
              (ref.sub == 0)) isnt ∙ ap not is)

        by_sort : (b : Bool) → source.is_of_transaction ref.attr ≡ b
            → Agrees (if b then gives_in ref.attr
            (slice_get (transactions env i.attributes) ref.sub) values else
            (if ref.sub == 0 then gives ref.attr
            (meaning_of ref.attr (of_attributes env i.attributes)) values else source.NoItem))
        by_sort true of = by_transaction of (slice_get (transactions env i.attributes) ref.sub) refl
        by_sort false isnt = by_position isnt (ref.sub == 0) refl

      abbrev rest_of : Bool
      rest_of = same_attr ref.attr attr.Definition
          || (if source.is_of_transaction ref.attr then is_none (row_of contents ref) else not
          (ref.sub == 0))

      by_readable : (b : Bool) → is_readable (kind_of ref.item) ref.attr ≡ b
          → Agrees (if not b then source.NoItem else
          (if source.is_of_transaction ref.attr then gives_in ref.attr
          (slice_get (transactions env i.attributes) ref.sub) values else
          (if ref.sub == 0 then gives ref.attr
          (meaning_of ref.attr (of_attributes env i.attributes)) values else source.NoItem)))
      by_readable true may =
          let parts = and_parts (has_attr (kind_of ref.item) ref.attr)
          (not (same_attr ref.attr attr.Definition)) may in
          by_sort parts.0 (not-true (same_attr ref.attr attr.Definition) parts.1)
          (source.is_of_transaction ref.attr) refl
      by_readable false cannot =
          nothing (or_right (not (item_exists contents.counts ref.item))
          (not (has_attr (kind_of ref.item) ref.attr) || rest_of)
          (⊎_elim (λ h. or_left (not (has_attr (kind_of ref.item) ref.attr)) rest_of
          (not_from_false (has_attr (kind_of ref.item) ref.attr) h))
          (λ h. or_right (not (has_attr (kind_of ref.item) ref.attr)) rest_of
          (or_left (same_attr ref.attr attr.Definition)
          (if source.is_of_transaction ref.attr then is_none (row_of contents ref) else not
          (ref.sub == 0)) (not-false (same_attr ref.attr attr.Definition) h)))
          (and_cases (has_attr (kind_of ref.item) ref.attr)
          (not (same_attr ref.attr attr.Definition)) cannot)))

      of_item : Agrees (read_item env i ref.attr ref.sub values)
      of_item =
          subst (λ k. Agrees (if not (is_readable k ref.attr) then source.NoItem else
          (if source.is_of_transaction ref.attr then gives_in ref.attr
          (slice_get (transactions env i.attributes) ref.sub) values else
          (if ref.sub == 0 then gives ref.attr
          (meaning_of ref.attr (of_attributes env i.attributes)) values else source.NoItem))))
          (sym (its_kind (kind_of ref.item) unit.items (index_of ref.item) i there))
          (by_readable (is_readable (kind_of ref.item) ref.attr) refl)

    by_item : (o : Option (Item Target)) → item_at unit ref.item ≡ o
        → Agrees (elim o as (λ w. source.Reading) [
          | Some i ↦ read_item env i ref.attr ref.sub values
          | None ↦ source.NoItem
        ])
    by_item None isnt =
        nothing (or_left (not (item_exists contents.counts ref.item))
        (not (has_attr (kind_of ref.item) ref.attr)
        || (same_attr ref.attr attr.Definition
        || (if source.is_of_transaction ref.attr then is_none (row_of contents ref) else not
        (ref.sub == 0))))
        (not_from_false (item_exists contents.counts ref.item)
        (existing ref.item ∙ le-ltb (index_of ref.item) (count_of (kind_of ref.item) unit.items)
        (past (of_kind (kind_of ref.item) unit.items) (index_of ref.item) isnt))))
    by_item (Some i) is = of_item i is

    pub attribute_agrees : (n : ℕ) × (r : image.Reading)
        × (reading_within n contents ref values ≡ Some r) × SameReading (string_numbered contents)
        (read_attribute unit ref values) r
    unfolding read_attribute
    attribute_agrees = by_item (item_at unit ref.item) refl
