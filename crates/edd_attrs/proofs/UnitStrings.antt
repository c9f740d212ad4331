-- The strings of an attribute are strings of its description.
use Rattle.std.proofs.Common.{◌≡◌, refl, sym, ap, subst, ◌∙◌, Bool, true, false, List, [], ◌∷◌, ◌++◌, map, Option, Some, None}
use Rattle.std.specs.Prelude.{◌&&◌, ◌||◌}
use Rattle.std.specs.List.{Contains, list_all, flat_map}
use Rattle.std.proofs.lemmas.List.{map-append}
use Rattle.edd_syntax.specs.declared.numbers.AttrRef.{AttrRef}
use Rattle.edd_syntax.specs.declared.reference.Target.{Target}
use Rattle.edd_syntax.specs.Item as item
use Rattle.edd_syntax.specs.Item.{TypePart, TransactionPart, Attribute, Item, Description}
use Rattle.edd_syntax.specs.Words.{Words, words_of}
use Rattle.edd_syntax.specs.SubsetRules.{attributes_of}
use Rattle.edd_syntax.specs.Strings.{strings_of_texts, type_part_texts, attribute_strings, unit_strings, same_words}
use Rattle.edd_attrs.specs.Trees.{Tree, trees_of_part, trees_of_parts, tree_of_transaction_part, tree_at}
use Rattle.edd_attrs.specs.Sizes.{element_texts, tree_strings, strings_of_tree, strings_at}
use Rattle.edd_code.proofs.Different.{has, Contains-has, has-Contains, words_same, words_refl}
use Rattle.edd_attrs.proofs.InTrees.{if_there, all_append, named, throughout, throughout_item, tree_has}
use Rattle.edd_code.proofs.BothTests.{both_of, both_true}

-- ---- tests on all elements

all_parts : {A : Type 0} (p : A → Bool) (xs ys : List A) → list_all p (xs ++ ys) ≡ true
    → (list_all p xs ≡ true) × (list_all p ys ≡ true)
all_parts p [] ys h = (refl, h)
all_parts p (x ∷ xs) ys h =
    let first = both_of (p x) (list_all p (xs ++ ys)) h in
    let rest = all_parts p xs ys first.1 in
    (both_true first.0 rest.0, rest.1)

all_flat : {A B : Type 0} (p : B → Bool) (f : A → List B) (xs : List A) → list_all p (flat_map f xs)
    ≡ true → list_all (λ x. list_all p (f x)) xs ≡ true
all_flat p f [] h = refl
all_flat p f (x ∷ xs) h = let parts = all_parts p (f x) (flat_map f xs) h in both_true parts.0
    (all_flat p f xs parts.1)

all_has : (ws strings : List Words) → ((w : Words) → has w ws ≡ true → has w strings ≡ true)
    → list_all (λ w. has w strings) ws ≡ true
all_has [] strings within = refl
all_has (w ∷ ws) strings within =
    both_true (within w (first (has w ws) (words_refl w)))
    (all_has ws strings (λ v h. within v (later (same_words v w) h)))
  where
    first : {a : Bool} (b : Bool) → a ≡ true → (a || b) ≡ true
    first b h = rw h refl

    later : (a : Bool) {b : Bool} → b ≡ true → (a || b) ≡ true
    later true h = refl
    later false h = h

one_has : (strings ws : List Words) (w : Words) → list_all (λ v. has v strings) ws ≡ true
    → has w ws ≡ true → has w strings ≡ true
one_has strings [] w all h = absurd cc
one_has strings (x ∷ ws) w all h =
    let parts = both_of (has x strings) (list_all (λ v. has v strings) ws) all in
    here (same_words w x) refl parts.0 (one_has strings ws w parts.1) h
  where
    here : (b : Bool) → same_words w x ≡ b → has x strings ≡ true
        → (has w ws ≡ true → has w strings ≡ true) → (b || has w ws) ≡ true → has w strings ≡ true
    here true is k rest h = subst (λ v. has v strings ≡ true) (sym (words_same w x is)) k
    here false is k rest h = rest h

-- ---- the trees of attributes

module _ (test : Words → Bool) where
  -- each string of the tree passes
  abbrev passes : Tree → Bool
  passes t = list_all test (tree_strings t)

  alone : {b : Bool} → b ≡ true → ((b && true) && true) ≡ true
  alone h = rw h refl

  abbrev part_passes : TypePart Target → Bool
  part_passes p = list_all test (strings_of_texts (type_part_texts p))

  element_passes : (p : TypePart Target) → part_passes p ≡ true
      → list_all test (strings_of_texts (element_texts p)) ≡ true
  element_passes (item.Element c) h = h
  element_passes _ h = refl

  option_passes : (p : TypePart Target) → part_passes p ≡ true
      → list_all (named passes) (trees_of_part p) ≡ true
  unfolding tree_strings
  option_passes (item.OneFormat which c) h = both_true h refl
  option_passes _ h = refl

  split : (p : TypePart Target) (rest : List (TypePart Target))
      → list_all test (strings_of_texts (flat_map type_part_texts (p ∷ rest))) ≡ true
      → (part_passes p ≡ true) × (list_all test (strings_of_texts (flat_map type_part_texts rest))
      ≡ true)
  split p rest h =
      all_parts test (strings_of_texts (type_part_texts p))
      (strings_of_texts (flat_map type_part_texts rest))
      (ap (list_all test) (sym
      (map-append words_of (type_part_texts p) (flat_map type_part_texts rest))) ∙ h)

  elements_pass : (parts : List (TypePart Target))
      → list_all test (strings_of_texts (flat_map type_part_texts parts)) ≡ true
      → list_all test (strings_of_texts (flat_map element_texts parts)) ≡ true
  elements_pass [] h = refl
  elements_pass (p ∷ rest) h =
      let both = split p rest h in
      ap (list_all test) (map-append words_of (element_texts p) (flat_map element_texts rest))
      ∙ all_append test (strings_of_texts (element_texts p))
      (strings_of_texts (flat_map element_texts rest)) (element_passes p both.0)
      (elements_pass rest both.1)

  options_pass : (parts : List (TypePart Target))
      → list_all test (strings_of_texts (flat_map type_part_texts parts)) ≡ true
      → list_all (named passes) (trees_of_parts parts) ≡ true
  options_pass [] h = refl
  options_pass (p ∷ rest) h =
      let both = split p rest h in
      all_append (named passes) (trees_of_part p) (trees_of_parts rest) (option_passes p both.0)
      (options_pass rest both.1)

  transaction_passes : (parts : List (TransactionPart Target))
      → list_all (named passes) (map tree_of_transaction_part parts) ≡ true
  unfolding tree_strings
  transaction_passes [] = refl
  transaction_passes (item.Request all ∷ rest) = transaction_passes rest
  transaction_passes (item.Reply all ∷ rest) = transaction_passes rest

  attribute_passes : (a : Attribute Target) → list_all test (attribute_strings a) ≡ true
      → throughout passes a ≡ true
  unfolding tree_strings
  attribute_passes (item.Handling c) h = refl
  attribute_passes (item.Validity c) h = refl
  attribute_passes (item.TypeOf word parts) h =
      both_true (both_true (elements_pass parts h) (options_pass parts h)) refl
  attribute_passes (item.Number n) h = refl
  attribute_passes (item.Operation o) h = refl
  attribute_passes (item.Transaction number parts) h = transaction_passes parts
  attribute_passes (item.Definition body) h = refl
  attribute_passes _ h = alone h

  attributes_pass : (attributes : List (Attribute Target))
      → list_all (λ a. list_all test (attribute_strings a)) attributes ≡ true
      → list_all (throughout passes) attributes ≡ true
  attributes_pass [] h = refl
  attributes_pass (a ∷ rest) h = let parts = both_of (list_all test (attribute_strings a)) _
      h in both_true (attribute_passes a parts.0) (attributes_pass rest parts.1)

  items_pass : (items : List (Item Target)) → list_all (λ a. list_all test (attribute_strings a))
      (flat_map (λ i. i.attributes) items) ≡ true → list_all (throughout_item passes) items ≡ true
  items_pass [] h = refl
  items_pass (i ∷ rest) h =
      let parts = all_parts (λ a. list_all test (attribute_strings a)) i.attributes
      (flat_map (λ j. j.attributes) rest) h in
      both_true (attributes_pass i.attributes parts.0) (items_pass rest parts.1)

pub strings_in_unit : (unit : Description Target) (row : AttrRef) (w : Words)
    → Contains (strings_at unit row) w → Contains (unit_strings unit) w
strings_in_unit unit row w held =
    let strings = unit_strings unit in
    let all : list_all (λ v. has v strings) strings ≡ true = all_has strings strings (λ v h. h) in
    let each = items_pass (λ v. has v strings) unit.items
    (all_flat (λ v. has v strings) attribute_strings (attributes_of unit) all) in
    has-Contains strings w (of_tree (tree_at unit row)
    (tree_has (passes (λ v. has v strings)) unit row each)
    (Contains-has (strings_at unit row) w held))
  where
    of_tree : (o : Option Tree) → if_there (passes (λ v. has v (unit_strings unit))) o ≡ true
        → has w (strings_of_tree o) ≡ true → has w (unit_strings unit) ≡ true
    of_tree None h k = absurd cc
    of_tree (Some t) h k = one_has (unit_strings unit) (tree_strings t) w h k
