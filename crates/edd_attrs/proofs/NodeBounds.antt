-- The tree of an attribute has no more nodes than its description.
use Rattle.std.proofs.Common.{◌≡◌, refl, subst, ℕ, ◌≤◌, Bool, true, List, [], ◌∷◌, map, Some, arith}
use Rattle.std.specs.Prelude.{◌&&◌, nat_le, sum}
use Rattle.std.specs.List.{list_all}
use Rattle.std.proofs.lemmas.Bool.{le-leb, leb-true}
use Rattle.std.proofs.lemmas.List.Sums.{sum_by-cons}
use Rattle.edd_syntax.specs.declared.numbers.NumberOption.TheVariants as number_option
use Rattle.edd_syntax.specs.declared.numbers.AttrRef.{AttrRef}
use Rattle.edd_syntax.specs.declared.reference.Target.{Target}
use Rattle.edd_syntax.specs.Item as item
use Rattle.edd_syntax.specs.Item.{TypePart, TransactionPart, Attribute, Item, Description}
use Rattle.edd_syntax.specs.Size.{type_part_nodes, transaction_part_nodes, attribute_nodes, item_nodes, unit_nodes}
use Rattle.edd_attrs.specs.Trees as trees
use Rattle.edd_attrs.specs.Trees.{Tree, trees_of_part, trees_of_parts, tree_of_transaction_part, tree_at}
use Rattle.edd_attrs.specs.Sizes.{element_nodes, tree_nodes}
use Rattle.edd_attrs.proofs.InTrees.{if_there, all_append, named, throughout, throughout_item, tree_has}
use Rattle.edd_code.proofs.BothTests.{both_true}

-- at most n nodes
abbrev is_within : ℕ → Tree → Bool
is_within n t = nat_le (tree_nodes t) n

within : (n : ℕ) (t : Tree) → tree_nodes t ≤ n → is_within n t ≡ true
within n t h = le-leb (tree_nodes t) n h

element_fewer : (p : TypePart Target) → element_nodes p ≤ type_part_nodes p
element_fewer (item.OneNumber number_option.DefaultValue c) = omega arith
element_fewer _ = omega arith

elements_fewer : (parts : List (TypePart Target)) → sum (map element_nodes parts)
    ≤ sum (map type_part_nodes parts)
elements_fewer [] = omega arith
elements_fewer (p ∷ rest) =
    omega (
      arith,
      element_fewer p,
      elements_fewer rest,
      sum_by-cons (λ x. x) (element_nodes p)
          (map element_nodes rest),
      sum_by-cons (λ x. x) (type_part_nodes p)
          (map type_part_nodes rest),
    )

alone : {b : Bool} → b ≡ true → (b && true) ≡ true
alone h = rw h refl

part_within : (n : ℕ) (p : TypePart Target) → type_part_nodes p ≤ n
    → list_all (named (is_within n)) (trees_of_part p) ≡ true
unfolding tree_nodes
part_within n (item.OneNumber which c) h = alone (within n (trees.Expressions c) h)
part_within n (item.OneFormat which c) h = alone (within n (trees.Texts c) h)
part_within n (item.Element c) h = refl

parts_within : (n : ℕ) (parts : List (TypePart Target)) → sum (map type_part_nodes parts) ≤ n
    → list_all (named (is_within n)) (trees_of_parts parts) ≡ true
parts_within n [] h = refl
parts_within n (p ∷ rest) h =
    let split = sum_by-cons (λ x. x) (type_part_nodes p) (map type_part_nodes rest) in
    all_append (named (is_within n)) (trees_of_part p) (trees_of_parts rest)
    (part_within n p (omega (arith, h, split))) (parts_within n rest (omega (arith, h, split)))

transaction_part_within : (n : ℕ) (p : TransactionPart Target) → transaction_part_nodes p ≤ n
    → named (is_within n) (tree_of_transaction_part p) ≡ true
unfolding tree_nodes
transaction_part_within n (item.Request all) h = within n (trees.Data all) h
transaction_part_within n (item.Reply all) h = within n (trees.Data all) h

transaction_parts_within : (n : ℕ) (parts : List (TransactionPart Target))
    → sum (map transaction_part_nodes parts) ≤ n
    → list_all (named (is_within n)) (map tree_of_transaction_part parts) ≡ true
transaction_parts_within n [] h = refl
transaction_parts_within n (p ∷ rest) h =
    let split = sum_by-cons (λ x. x) (transaction_part_nodes p) (map transaction_part_nodes rest) in
    both_true (transaction_part_within n p (omega (arith, h, split)))
    (transaction_parts_within n rest (omega (arith, h, split)))

-- one tree, and none inside
single : (n : ℕ) (t : Tree) → tree_nodes t ≤ n → ((is_within n t && true) && true) ≡ true
single n t h = rw (within n t h) refl

attribute_within : (n : ℕ) (a : Attribute Target) → attribute_nodes a ≤ n
    → throughout (is_within n) a ≡ true
unfolding tree_nodes
attribute_within n (item.OneText which c) h = single n (trees.Texts c) h
attribute_within n (item.Class words) h = single n (trees.Class words) h
attribute_within n (item.Handling c) h = single n (trees.Handling c) h
attribute_within n (item.Validity c) h = single n (trees.Validity c) h
attribute_within n (item.TypeOf word parts) h =
    both_true (both_true (within n (trees.Enumerators parts)
    (omega (arith, h, elements_fewer parts))) (parts_within n parts (omega (arith, h)))) refl
attribute_within n (item.Number m) h = single n (trees.Number m) h
attribute_within n (item.Operation o) h = single n (trees.Operation o) h
attribute_within n (item.Transaction number parts) h =
    both_true refl (both_true (within n (trees.Transaction number) (omega (arith, h)))
    (transaction_parts_within n parts (omega (arith, h))))
attribute_within n (item.ResponseCodes responses) h = single n (trees.ResponseCodes responses) h
attribute_within n (item.Items entries) h = single n (trees.Items entries) h
attribute_within n (item.Members members) h = single n (trees.Members members) h
attribute_within n (item.Elements all) h = single n (trees.Elements all) h
attribute_within n (item.Definition body) h = refl

attributes_within : (n : ℕ) (attributes : List (Attribute Target))
    → sum (map attribute_nodes attributes) ≤ n → list_all (throughout (is_within n)) attributes
    ≡ true
attributes_within n [] h = refl
attributes_within n (a ∷ rest) h =
    let split = sum_by-cons (λ x. x) (attribute_nodes a) (map attribute_nodes rest) in
    both_true (attribute_within n a (omega (arith, h, split)))
    (attributes_within n rest (omega (arith, h, split)))

items_within : (n : ℕ) (items : List (Item Target)) → sum (map item_nodes items) ≤ n
    → list_all (throughout_item (is_within n)) items ≡ true
items_within n [] h = refl
items_within n (i ∷ rest) h =
    let split = sum_by-cons (λ x. x) (item_nodes i) (map item_nodes rest) in
    both_true (attributes_within n i.attributes (omega (arith, h, split)))
    (items_within n rest (omega (arith, h, split)))

nodes_at : (d : Description Target) (row : AttrRef)
    → if_there (is_within (unit_nodes d)) (tree_at d row) ≡ true
nodes_at d row = tree_has (is_within (unit_nodes d)) d row
    (items_within (unit_nodes d) d.items (omega arith))

-- ---- as a bound

pub few_at : (d : Description Target) (row : AttrRef) (t : Tree) → tree_at d row ≡ Some t
    → tree_nodes t ≤ unit_nodes d
few_at d row t is = leb-true (tree_nodes t) (unit_nodes d)
    (subst (λ o. if_there (is_within (unit_nodes d)) o ≡ true) is (nodes_at d row))
