-- What a row holds is a string of the description.
use Rattle.std.proofs.Common.{◌≡◌, refl, sym, ap, ◌∙◌, ℕ, zero, suc, inl, inr, Bool, true, false, List, [], ◌∷◌, map, cond, Option, Some, None}
use Rattle.std.specs.Prelude.{◌||◌, slice_get, if◌then◌else◌}
use Rattle.std.specs.List.{Contains, flat_map, list_any}
use Rattle.std.proofs.lemmas.Bool.{false≢true, or_cases, or_left, or_right}
use Rattle.std.proofs.lemmas.Option.{none-some, same_Some}
use Rattle.std.proofs.lemmas.Grind.{flat_map-append}
use Rattle.std.proofs.lemmas.List.Folds.{list_any-append}
use Rattle.edd_syntax.specs.declared.numbers.Attr.{Attr}
use Rattle.edd_syntax.specs.declared.numbers.Attr.TheVariants as attr
use Rattle.edd_syntax.specs.declared.numbers.AttrRef.{AttrRef}
use Rattle.edd_syntax.specs.declared.numbers.Kind.{Kind}
use Rattle.edd_syntax.specs.declared.reference.Target.{Target}
use Rattle.edd_syntax.specs.Words.{Words}
use Rattle.edd_syntax.specs.Attributes.{is_of_transaction}
use Rattle.edd_syntax.specs.Device.{item_at}
use Rattle.edd_syntax.specs.Execution.{body_in}
use Rattle.edd_syntax.specs.Item as item
use Rattle.edd_syntax.specs.Item.{kind_of_item, TypePart, TransactionPart, Attribute, Item, Description}
use Rattle.edd_syntax.specs.Numbers.{kind_of, index_of, same_kind, same_attr}
use Rattle.edd_syntax.specs.Rows.{of_kind}
use Rattle.edd_syntax.specs.Statement.{Nil}
use Rattle.edd_syntax.specs.Strings.{enumerator_texts, type_part_texts, attribute_strings, unit_strings}
use Rattle.edd_syntax.specs.SubsetRules.{values_in}
use Rattle.edd_attrs.specs.Trees as trees
use Rattle.edd_attrs.specs.Trees.{Tree, Named, tree_of_transaction_part, trees_of_parts, trees_of_attribute, trees_of, transaction_trees, first_tree, tree_in, tree_at}
use Rattle.edd_attrs.specs.Sizes.{element_texts, tree_strings, strings_of_tree}
use Rattle.edd_code.proofs.Different.{has, Contains-has, has-Contains}
use Rattle.edd_assembly.specs.RowContents.{strings_of_row}
use Rattle.edd_assembly.proofs.PartStrings.{in_first, in_rest, either_text, in_first_text, in_rest_text}

module _ (w : Words) where
  in_body : (ws : List (Attribute Target))
      → has w (attribute_strings (item.Definition (body_in ws))) ≡ true
      → has w (flat_map attribute_strings ws) ≡ true
  in_body [] h = h
  in_body (item.Definition body ∷ rest) h = in_first w (attribute_strings (item.Definition body))
      (flat_map attribute_strings rest) h
  in_body (a ∷ rest) h = in_rest w (attribute_strings a) (flat_map attribute_strings rest)
      (in_body rest h)

  abbrev tree_has : Named → Bool
  tree_has x = has w (tree_strings x.1)

  -- the first tree of an attribute is one of the trees
  any_tree : (a : Attr) (xs : List Named) → has w (strings_of_tree (first_tree a xs)) ≡ true
      → list_any tree_has xs ≡ true
  any_tree a [] h = h
  any_tree a (x ∷ xs) h = here (same_attr x.0 a) (any_tree a xs) h
    where
      here : (b : Bool) → (has w (strings_of_tree (first_tree a xs)) ≡ true
          → list_any tree_has xs ≡ true)
          → has w (strings_of_tree (elim b as (λ _. Option Tree) [
            | true ↦ Some x.1
            | false ↦ first_tree a xs
          ])) ≡ true → list_any tree_has (x ∷ xs) ≡ true
      here true rest k = or_left (tree_has x) (list_any tree_has xs) k
      here false rest k = or_right (tree_has x) (list_any tree_has xs) (rest k)

  elements_in : (parts : List (TypePart Target))
      → has w (strings_of_tree (Some (trees.Enumerators parts))) ≡ true
      → has w (attribute_strings (item.TypeOf (item.Other []) parts)) ≡ true
  unfolding tree_strings
  elements_in [] h = h
  elements_in (item.OneFormat which c ∷ ps) h =
      in_rest_text w (values_in c) (flat_map type_part_texts ps) (elements_in ps h)
  elements_in (item.Element c ∷ ps) h =
      elim (either_text w (flat_map enumerator_texts (values_in c)) (flat_map element_texts ps) h) [
        | inl e ↦ in_first_text w (flat_map enumerator_texts (values_in c))
            (flat_map type_part_texts ps) e
        | inr e ↦ in_rest_text w (flat_map enumerator_texts (values_in c))
            (flat_map type_part_texts ps)
            (elements_in ps e)
      ]
  elements_in (_ ∷ ps) h = elements_in ps h

  options_in : (parts : List (TypePart Target)) → list_any tree_has (trees_of_parts parts) ≡ true
      → has w (attribute_strings (item.TypeOf (item.Other []) parts)) ≡ true
  unfolding tree_strings
  options_in [] h = h
  options_in (item.OneFormat which c ∷ ps) h =
      elim (or_cases (has w (tree_strings (trees.Texts c))) (list_any tree_has (trees_of_parts ps))
      h) [
        | inl e ↦ in_first_text w (values_in c) (flat_map type_part_texts ps) e
        | inr e ↦ in_rest_text w (values_in c) (flat_map type_part_texts ps) (options_in ps e)
      ]
  options_in (item.Element c ∷ ps) h = in_rest_text w (flat_map enumerator_texts (values_in c))
      (flat_map type_part_texts ps) (options_in ps h)
  options_in (_ ∷ ps) h = options_in ps h

  alone : (xs : List Words) → (has w xs || false) ≡ true → has w xs ≡ true
  alone xs h = elim (or_cases (has w xs) false h) [ inl e ↦ e | inr e ↦ absurd (false≢true e) ]

  in_attribute : (a : Attribute Target) → list_any tree_has (trees_of_attribute a) ≡ true
      → has w (attribute_strings a) ≡ true
  unfolding tree_strings
  in_attribute (item.OneText which c) h = alone (attribute_strings (item.OneText which c)) h
  in_attribute (item.Class words) h = alone (attribute_strings {R = Target} (item.Class words)) h
  in_attribute (item.TypeOf word parts) h =
      elim (or_cases (has w (tree_strings (trees.Enumerators parts)))
      (list_any tree_has (trees_of_parts parts)) h) [
        | inl e ↦ elements_in parts e
        | inr e ↦ options_in parts e
      ]
  in_attribute (item.ResponseCodes responses) h =
      alone (attribute_strings {R = Target} (item.ResponseCodes responses)) h
  in_attribute (item.Items entries) h = alone (attribute_strings (item.Items entries)) h
  in_attribute (item.Members members) h = alone (attribute_strings (item.Members members)) h
  in_attribute (item.Elements elements) h = alone (attribute_strings (item.Elements elements)) h
  in_attribute (item.Definition body) h = absurd (false≢true h)
  in_attribute _ h = h

  in_attributes : (ws : List (Attribute Target)) → list_any tree_has (trees_of ws) ≡ true
      → has w (flat_map attribute_strings ws) ≡ true
  in_attributes [] h = h
  in_attributes (a ∷ rest) h =
      elim (or_cases (list_any tree_has (trees_of_attribute a)) (list_any tree_has (trees_of rest))
      (sym (list_any-append tree_has (trees_of_attribute a) (trees_of rest)) ∙ h)) [
        | inl e ↦ in_first w (attribute_strings a) (flat_map attribute_strings rest)
            (in_attribute a e)
        | inr e ↦ in_rest w (attribute_strings a) (flat_map attribute_strings rest)
            (in_attributes rest e)
      ]

  -- transactions have no strings
  none_in_parts : (parts : List (TransactionPart Target))
      → list_any tree_has (map tree_of_transaction_part parts) ≡ false
  unfolding tree_strings
  none_in_parts [] = refl
  none_in_parts (item.Request all ∷ rest) = none_in_parts rest
  none_in_parts (item.Reply all ∷ rest) = none_in_parts rest

  abbrev tree_in_transaction : Attr → Option (List Named) → Option Tree
  tree_in_transaction a o = elim o [ Some trees ↦ first_tree a trees | None ↦ None ]

  none_in_transactions : (a : Attr) (ws : List (Attribute Target)) (sub : ℕ)
      → has w (strings_of_tree (tree_in_transaction a (slice_get (transaction_trees ws) sub)))
      ≡ true → ⊥
  unfolding tree_strings
  none_in_transactions a [] sub h = false≢true h
  none_in_transactions a (item.Transaction number parts ∷ rest) zero h =
      false≢true (sym (none_in_parts parts)
      ∙ any_tree a ((attr.Transaction, trees.Transaction number) ∷ map tree_of_transaction_part
      parts) h)
  none_in_transactions a (item.Transaction number parts ∷ rest) (suc sub) h =
      none_in_transactions a rest sub h
  none_in_transactions a (w' ∷ rest) sub h = none_in_transactions a rest sub h

  -- ---- a row

  abbrev item_has : Item Target → Bool
  item_has i = has w (flat_map attribute_strings i.attributes)

  in_item : (a : Attr) (sub : ℕ) (i : Item Target)
      → has w (if same_attr a attr.Definition then attribute_strings
      (item.Definition (body_in i.attributes)) else strings_of_tree (tree_in i.attributes a sub))
      ≡ true → item_has i ≡ true
  in_item a sub i h = here (same_attr a attr.Definition) h
    where
      in_tree : (b : Bool) → has w
          (strings_of_tree (if b then tree_in_transaction a
          (slice_get (transaction_trees i.attributes) sub) else first_tree a
          (trees_of i.attributes))) ≡ true → item_has i ≡ true
      in_tree true k = absurd (none_in_transactions a i.attributes sub k)
      in_tree false k = in_attributes i.attributes (any_tree a (trees_of i.attributes) k)

      here : (b : Bool) → has w
          (if b then attribute_strings (item.Definition (body_in i.attributes)) else strings_of_tree
          (tree_in i.attributes a sub)) ≡ true → item_has i ≡ true
      here true k = in_body i.attributes k
      here false k = in_tree (is_of_transaction a) k

  in_items : (items : List (Item Target)) → list_any item_has items ≡ true
      → has w (flat_map attribute_strings (flat_map (λ i. i.attributes) items)) ≡ true
  in_items [] h = h
  in_items (i ∷ rest) h =
      ap (has w) (flat_map-append attribute_strings i.attributes
      (flat_map (λ j. j.attributes) rest))
      ∙ elim (or_cases (item_has i) (list_any item_has rest) h) [
        | inl e ↦ in_first w (flat_map attribute_strings i.attributes)
            (flat_map attribute_strings (flat_map (λ j. j.attributes) rest)) e
        | inr e ↦ in_rest w (flat_map attribute_strings i.attributes)
            (flat_map attribute_strings (flat_map (λ j. j.attributes) rest)) (in_items rest e)
      ]

  any_of_kind : (k : Kind) (items : List (Item Target)) (m : ℕ) (i : Item Target)
      → slice_get (of_kind k items) m ≡ Some i → item_has i ≡ true → list_any item_has items ≡ true
  any_of_kind k [] m i there h = absurd (none-some i there)
  any_of_kind k (x ∷ rest) m i there h = here (same_kind (kind_of_item x.sort) k) m there
      (λ n is. any_of_kind k rest n i is h)
    where
      here : (b : Bool) (n : ℕ) → slice_get (cond b (x ∷ of_kind k rest) (of_kind k rest)) n
          ≡ Some i → ((j : ℕ) → slice_get (of_kind k rest) j ≡ Some i → list_any item_has rest
          ≡ true) → list_any item_has (x ∷ rest) ≡ true
      here true zero is later = or_left (item_has x) (list_any item_has rest)
          (ap item_has (same_Some x i is) ∙ h)
      here true (suc n) is later = or_right (item_has x) (list_any item_has rest) (later n is)
      here false n is later = or_right (item_has x) (list_any item_has rest) (later n is)

  pub of_a_row : (d : Description Target) (row : AttrRef) → Contains (strings_of_row d row) w
      → Contains (unit_strings d) w
  unfolding tree_at
  of_a_row d row held = has-Contains (unit_strings d) w
      (in_items d.items (here (item_at d row.item) refl
      (Contains-has (strings_of_row d row) w held)))
    where
      here : (o : Option (Item Target)) → item_at d row.item ≡ o
          → has w (if same_attr row.attr attr.Definition
          then attribute_strings (item.Definition
          (elim o [ Some i ↦ body_in i.attributes | None ↦ Nil ]))
          else strings_of_tree (elim o as (λ _. Option Tree)
          [ Some i ↦ tree_in i.attributes row.attr row.sub | None ↦ None ])) ≡ true
          → list_any item_has d.items ≡ true
      here (Some i) is h = any_of_kind (kind_of row.item) d.items (index_of row.item) i is
          (in_item row.attr row.sub i h)
      here None is h = none (same_attr row.attr attr.Definition) h
        where
          none : (b : Bool) → has w (if b then attribute_strings {R = Target} (item.Definition Nil)
              else []) ≡ true → list_any item_has d.items ≡ true
          none true k = absurd (false≢true k)
          none false k = absurd (false≢true k)
