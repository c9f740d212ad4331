-- Each string of a checked description is one of a row, and the other way round.
use Rattle.std.proofs.Common.{◌≡◌, refl, sym, ap, ◌∙◌, ℕ, suc, inl, inr, Bool, true, false, List, [], ◌∷◌, cond, Option, Some, None, arith}
use Rattle.std.specs.Prelude.{◌==◌, ◌||◌, slice_get, if◌then◌else◌}
use Rattle.std.specs.List.{Contains, flat_map, list_all, list_any}
use Rattle.std.proofs.lemmas.Bool.{false≢true, and_parts, or_cases, or_right, eq-eqb}
use Rattle.std.proofs.lemmas.Grind.{flat_map-append}
use Rattle.edd_syntax.specs.declared.numbers.Attr.{Attr}
use Rattle.edd_syntax.specs.declared.numbers.Attr.TheVariants as attr
use Rattle.edd_syntax.specs.declared.numbers.AttrRef.{AttrRef}
use Rattle.edd_syntax.specs.declared.numbers.Kind.{Kind}
use Rattle.edd_syntax.specs.declared.reference.Target.{Target}
use Rattle.edd_syntax.specs.Words.{Words}
use Rattle.edd_syntax.specs.Attributes.{is_of_transaction}
use Rattle.edd_syntax.specs.Device.{item_at}
use Rattle.edd_syntax.specs.Execution.{body_in}
use Rattle.edd_syntax.specs.Item as item
use Rattle.edd_syntax.specs.Item.{kind_of_item, Attribute, Item, Description}
use Rattle.edd_syntax.specs.Numbers.{kind_number, index_of, item_number, same_kind, same_attr}
use Rattle.edd_syntax.specs.Resolved.{IsChecked}
use Rattle.edd_syntax.specs.Rows.{is_written, transaction_positions, positions, of_kind, rows}
use Rattle.edd_syntax.specs.Statement.{Nil}
use Rattle.edd_syntax.specs.Strings.{attribute_strings, unit_strings}
use Rattle.edd_attrs.specs.Trees.{Tree, trees_of, transaction_trees, first_tree, tree_in, tree_at}
use Rattle.edd_attrs.specs.Sizes.{strings_of_tree}
use Rattle.edd_code.proofs.Different.{has, Contains-has, has-Contains}
use Rattle.edd_syntax.proofs.KnownByNumber.{numbered_kind, numbered_index}
use Rattle.edd_assembly.proofs.RowsAmong.{same_ref, among_rows}
use Rattle.edd_assembly.proofs.RowsFound.{same_refs}
use Rattle.edd_assembly.specs.RowContents.{strings_of_row}
use Rattle.edd_syntax.proofs.Repeats.{empty_is_none, has_each_once, once_when_checked}
use Rattle.edd_assembly.proofs.PartStrings.{either}
use Rattle.edd_assembly.proofs.ItemStrings.{strings_in, of_item}

-- ---- an item by its number

-- an item that passes a test, by kind and number
record At (items : List (Item Target)) (p q : Item Target → Bool) : Type 0 where
  kind : Kind
  index : ℕ
  here : Item Target
  there : slice_get (of_kind kind items) index ≡ Some here
  passes : p here ≡ true
  keeps : q here ≡ true

module _ (p q : Item Target → Bool) where
  numbered : (items : List (Item Target)) → list_any p items ≡ true → list_all q items ≡ true
      → At items p q
  numbered [] h k = absurd (false≢true h)
  numbered (i ∷ rest) h k =
      let parts = and_parts (q i) (list_all q rest) k in
      elim (or_cases (p i) (list_any p rest) h) [
        | inl e ↦ record {
          kind = kind_of_item i.sort;
          index = 0;
          here = i;
          there = ap (λ b. slice_get
              (cond b (i ∷ of_kind (kind_of_item i.sort) rest) (of_kind (kind_of_item i.sort) rest))
              0) (eq-eqb (kind_number (kind_of_item i.sort)) (kind_number (kind_of_item i.sort))
              refl);
          passes = e;
          keeps = parts.0;
        }
        | inr e ↦
            let x = numbered rest e parts.1 in
            later x (same_kind (kind_of_item i.sort) x.kind) refl
      ]
    where
      later : (x : At rest p q) (b : Bool) → same_kind (kind_of_item i.sort) x.kind ≡ b
          → At (i ∷ rest) p q
      later x true is = record {
        kind = x.kind;
        index = suc x.index;
        here = x.here;
        there = ap (λ b. slice_get (cond b (i ∷ of_kind x.kind rest) (of_kind x.kind rest))
            (suc x.index)) is ∙ x.there;
        passes = x.passes;
        keeps = x.keeps;
      }
      later x false is = record {
        kind = x.kind;
        index = x.index;
        here = x.here;
        there = ap (λ b. slice_get (cond b (i ∷ of_kind x.kind rest) (of_kind x.kind rest))
            x.index) is ∙ x.there;
        passes = x.passes;
        keeps = x.keeps;
      }

-- ---- the rows

any-Contains : (p : AttrRef → Bool) (ref : AttrRef) → ((r : AttrRef) → p r ≡ true → r ≡ ref)
    → (rs : List AttrRef) → list_any p rs ≡ true → Contains rs ref
any-Contains p ref one [] h = absurd (false≢true h)
any-Contains p ref one (r ∷ rs) h = elim (or_cases (p r) (list_any p rs) h) [
  | inl e ↦ (0, omega arith, one r e)
  | inr e ↦ let held = any-Contains p ref one rs e in (suc held.0, omega (arith, held.1), held.2)
]

first_position : (a : Attr) (ws : List (Attribute Target)) → is_of_transaction a ≡ false
    → is_written a ws ≡ true → list_any (λ s. s == 0) (positions a ws) ≡ true
first_position a ws plain written =
    ap (λ b. list_any (λ s. s == 0)
    (if b then transaction_positions 0 ws else (if is_written a ws then 0 ∷ [] else []))) plain
    ∙ ap (λ b. list_any (λ s. s == 0) (if b then 0 ∷ [] else [])) written

-- the row of an attribute that is not of a transaction
abbrev row_of : Kind → ℕ → Attr → AttrRef
row_of k m a = record { item = item_number k m; attr = a; sub = 0 }

module _ (d : Description Target) (k : Kind) (m : ℕ) (i : Item Target)
    (there : slice_get (of_kind k d.items) m ≡ Some i) where
  found_there : item_at d (item_number k m) ≡ Some i
  found_there = ap (λ j. slice_get (of_kind j d.items) (index_of (item_number k m)))
      (numbered_kind k m) ∙ ap (slice_get (of_kind k d.items)) (numbered_index k m) ∙ there

  stands : (a : Attr) → is_of_transaction a ≡ false → is_written a i.attributes ≡ true
      → Contains (rows d.items) (row_of k m a)
  stands a plain written =
      any-Contains (same_ref (row_of k m a)) (row_of k m a) (λ r. same_refs r (row_of k m a))
      (rows d.items)
      (among_rows d.items (row_of k m a) i found_there ∙ first_position a i.attributes plain
      written)

  strings_there : (a : Attr) → is_of_transaction a ≡ false → strings_of_row d (row_of k m a)
      ≡ strings_in a i.attributes
  unfolding tree_at
  strings_there a plain =
      ap (λ o. if same_attr a attr.Definition
      then attribute_strings (item.Definition (elim o [
        | Some found ↦ body_in found.attributes
        | None ↦ Nil
      ]))
      else strings_of_tree (elim o as (λ _. Option Tree) [
        | Some found ↦ tree_in found.attributes a 0
        | None ↦ None
      ])) found_there
      ∙ ap (λ b. if same_attr a attr.Definition then attribute_strings
      (item.Definition (body_in i.attributes)) else strings_of_tree (
      if b then elim (slice_get (transaction_trees i.attributes) 0)
      [ Some trees ↦ first_tree a trees | None ↦ None ] else first_tree a
      (trees_of i.attributes))) plain

module _ (w : Words) where
  abbrev item_has : Item Target → Bool
  item_has i = has w (flat_map attribute_strings i.attributes)

  by_item : (items : List (Item Target))
      → has w (flat_map attribute_strings (flat_map (λ i. i.attributes) items)) ≡ true
      → list_any item_has items ≡ true
  by_item [] h = h
  by_item (i ∷ rest) h = elim (either w (flat_map attribute_strings i.attributes)
      (flat_map attribute_strings (flat_map (λ j. j.attributes) rest))
      (ap (has w) (sym (flat_map-append attribute_strings i.attributes
      (flat_map (λ j. j.attributes) rest))) ∙ h)) [
        | inl e ↦ ap (λ b. b || list_any item_has rest) e
        | inr e ↦ or_right (item_has i) (list_any item_has rest) (by_item rest e)
      ]

  pub in_a_row : (d : Description Target) → ∥ IsChecked d ∥₁ → Contains (unit_strings d) w
      → (row : AttrRef) × Contains (rows d.items) row × Contains (strings_of_row d row) w
  in_a_row d checked held =
      let at = numbered item_has has_each_once d.items
      (by_item d.items (Contains-has (unit_strings d) w held)) (once_when_checked d checked) in
      let found = of_item w [] at.here.attributes (empty_is_none _ at.keeps) at.passes in
      let row = row_of at.kind at.index found.attribute in (
        row,
        stands d at.kind at.index at.here at.there found.attribute found.plain found.written,
        has-Contains (strings_of_row d row) w
            (ap (has w) (strings_there d at.kind at.index at.here at.there found.attribute
            found.plain) ∙ found.held),
      )
