-- What holds of the trees of all attributes holds of the tree of a row.
use Rattle.std.proofs.Common.{◌≡◌, refl, ℕ, zero, suc, Bool, true, false, List, [], ◌∷◌, ◌++◌, filter, Option, Some, None, cond}
use Rattle.std.specs.Prelude.{◌&&◌, slice_get}
use Rattle.std.specs.List.{list_all}
use Rattle.edd_syntax.specs.declared.numbers.Attr.{Attr}
use Rattle.edd_syntax.specs.declared.numbers.AttrRef.{AttrRef}
use Rattle.edd_syntax.specs.declared.reference.Target.{Target}
use Rattle.edd_syntax.specs.Item as item
use Rattle.edd_syntax.specs.Item.{kind_of_item, Attribute, Item, Description}
use Rattle.edd_syntax.specs.Numbers.{same_attr, same_kind, kind_of, index_of}
use Rattle.edd_syntax.specs.Device.{items_of, item_at}
use Rattle.edd_syntax.specs.Attributes.{is_of_transaction}
use Rattle.edd_attrs.specs.Trees.{Tree, Named, trees_of_attribute, trees_of, transaction_trees, first_tree, tree_in, tree_at}
use Rattle.edd_attrs.specs.Rows.{trees_of_transaction}
use Rattle.edd_code.proofs.BothTests.{both_of}

pub all_append : {A : Type 0} (p : A → Bool) (xs ys : List A) → list_all p xs ≡ true
    → list_all p ys ≡ true → list_all p (xs ++ ys) ≡ true
all_append p [] ys h k = k
all_append p (x ∷ xs) ys h k = let parts = both_of (p x) (list_all p xs) h in rw parts.0
    (all_append p xs ys parts.1 k)

-- what holds of all elements holds of the one at a place
abbrev pub if_there : {A : Type 0} → (A → Bool) → Option A → Bool
if_there p None = true
if_there p (Some x) = p x

at_place : {A : Type 0} (p : A → Bool) (xs : List A) (n : ℕ) → list_all p xs ≡ true
    → if_there p (slice_get xs n) ≡ true
at_place p [] n h = refl
at_place p (x ∷ xs) zero h = (both_of (p x) (list_all p xs) h).0
at_place p (x ∷ xs) (suc n) h = at_place p xs n (both_of (p x) (list_all p xs) h).1

filtered : {A : Type 0} (p q : A → Bool) (xs : List A) → list_all p xs ≡ true
    → list_all p (filter q xs) ≡ true
filtered p q [] h = refl
filtered p q (x ∷ xs) h =
    let parts = both_of (p x) (list_all p xs) h in
    here (q x) parts.0 (filtered p q xs parts.1)
  where
    here : (b : Bool) → p x ≡ true → list_all p (filter q xs) ≡ true
        → list_all p (cond b (x ∷ filter q xs) (filter q xs)) ≡ true
    here true h k = rw h k
    here false h k = k

-- the trees of a transaction
abbrev pub inside : Attribute Target → List Named
inside (item.Transaction number parts) = trees_of_transaction number parts
inside _ = []

module _ (p : Tree → Bool) where
  abbrev pub named : Named → Bool
  named x = p x.1

  -- it holds of each tree that the attribute stands for
  abbrev pub throughout : Attribute Target → Bool
  throughout a = list_all named (trees_of_attribute a) && list_all named (inside a)

  abbrev pub throughout_item : Item Target → Bool
  throughout_item i = list_all throughout i.attributes

  first_has : (a : Attr) (xs : List Named) → list_all named xs ≡ true → if_there p (first_tree a xs)
      ≡ true
  first_has a [] h = refl
  first_has a (x ∷ rest) h =
      let parts = both_of (named x) (list_all named rest) h in
      here (same_attr x.0 a) parts.0 (first_has a rest parts.1)
    where
      here : (b : Bool) → p x.1 ≡ true → if_there p (first_tree a rest) ≡ true
          → if_there p (elim b as (λ _. Option Tree) [
            | true ↦ Some x.1
            | false ↦ first_tree a rest
          ]) ≡ true
      here true h k = h
      here false h k = k

  trees_have : (attributes : List (Attribute Target)) → list_all throughout attributes ≡ true
      → list_all named (trees_of attributes) ≡ true
  trees_have [] h = refl
  trees_have (a ∷ rest) h =
      let parts = both_of (throughout a) (list_all throughout rest) h in
      let here = both_of (list_all named (trees_of_attribute a)) (list_all named (inside a))
      parts.0 in
      all_append named (trees_of_attribute a) (trees_of rest) here.0 (trees_have rest parts.1)

  more : (a : Attribute Target) (rest : List (Attribute Target))
      → (list_all throughout rest ≡ true → list_all (list_all named) (transaction_trees rest)
      ≡ true)
      → list_all throughout (a ∷ rest) ≡ true → (list_all named (inside a) ≡ true)
      × (list_all (list_all named) (transaction_trees rest) ≡ true)
  more a rest others h =
      let parts = both_of (throughout a) (list_all throughout rest) h in (
        (both_of (list_all named (trees_of_attribute a)) (list_all named (inside a)) parts.0).1,
        others parts.1,
      )

  transactions_have : (attributes : List (Attribute Target)) → list_all throughout attributes ≡ true
      → list_all (list_all named) (transaction_trees attributes) ≡ true
  transactions_have [] h = refl
  transactions_have (item.Transaction number parts ∷ rest) h = let both =
      more (item.Transaction number parts) rest (transactions_have rest) h in rw both.0 both.1
  transactions_have (x ∷ rest) h =
      (more x rest (transactions_have rest) h).1

  of_transaction : (a : Attr) (o : Option (List Named)) → if_there (list_all named) o ≡ true
      → if_there p (elim o as (λ _. Option Tree) [ Some trees ↦ first_tree a trees | None ↦ None ])
      ≡ true
  of_transaction a None k = refl
  of_transaction a (Some trees) k = first_has a trees k

  either : (b : Bool) (s t : Option Tree) → if_there p s ≡ true → if_there p t ≡ true
      → if_there p (cond b s t) ≡ true
  either true s t h k = h
  either false s t h k = k

  tree_in_has : (attributes : List (Attribute Target)) (a : Attr) (sub : ℕ)
      → list_all throughout attributes ≡ true → if_there p (tree_in attributes a sub) ≡ true
  tree_in_has attributes a sub h =
      either (is_of_transaction a) _ _
      (of_transaction a (slice_get (transaction_trees attributes) sub)
      (at_place (list_all named) (transaction_trees attributes) sub
      (transactions_have attributes h)))
      (first_has a (trees_of attributes) (trees_have attributes h))

  of_item : (row : AttrRef) (o : Option (Item Target)) → if_there throughout_item o ≡ true
      → if_there p (elim o as (λ _. Option Tree) [
        | Some i ↦ tree_in i.attributes row.attr row.sub
        | None ↦ None
      ]) ≡ true
  of_item row None k = refl
  of_item row (Some i) k = tree_in_has i.attributes row.attr row.sub k

  pub tree_has : (d : Description Target) (row : AttrRef) → list_all throughout_item d.items ≡ true
      → if_there p (tree_at d row) ≡ true
  unfolding tree_at
  tree_has d row all =
      of_item row (item_at d row.item) (at_place throughout_item (items_of (kind_of row.item) d)
      (index_of row.item) (filtered throughout_item
      (λ i. same_kind (kind_of_item i.sort) (kind_of row.item)) d.items all))
