-- How many items of a kind and how many transactions there are, one after another.
use Rattle.std.proofs.Common.{◌≡◌, refl, ◌+◌, List, [], ◌∷◌, length, arith}
use Rattle.std.specs.Prelude.{Bool, true, false, if◌then◌else◌, filter}
use Rattle.edd_syntax.specs.declared.numbers.Kind.{Kind}
use Rattle.edd_syntax.specs.Item.{Item, Attribute, kind_of_item}
use Rattle.edd_syntax.specs.Numbers.{same_kind}
use Rattle.edd_syntax.specs.Resolution.{count_of}
use Rattle.edd_syntax.specs.Item as item
use Rattle.edd_name_rules.specs.Spending.{transactions_in}

length_if : {X : Type 0} (x : X) (xs : List X) (b : Bool) → length (if b then x ∷ xs else xs)
    ≡ length (if b then x ∷ [] else []) + length xs
length_if x xs true = omega arith
length_if x xs false = omega arith

length_one : {X : Type 0} (x : X) (b : Bool) → length (if b then x ∷ [] else [])
    ≡ (if b then 1 else 0)
length_one x true = refl
length_one x false = refl

pub one_item : {R : Type 0} (k : Kind) (i : Item R)
    → count_of k (i ∷ []) ≡ (if same_kind (kind_of_item i.sort) k then 1 else 0)
one_item k i = length_one i (same_kind (kind_of_item i.sort) k)

pub items_split : {R : Type 0} (k : Kind) (i : Item R) (rest : List (Item R))
    → count_of k (i ∷ rest) ≡ count_of k (i ∷ []) + count_of k rest
items_split k i rest = length_if i (filter (λ i. same_kind (kind_of_item i.sort) k) rest)
    (same_kind (kind_of_item i.sort) k)

pub transactions_split : {R : Type 0} (a : Attribute R) (rest : List (Attribute R))
    → transactions_in (a ∷ rest) ≡ transactions_in (a ∷ []) + transactions_in rest
transactions_split (item.OneText which c) rest = omega arith
transactions_split _ rest = omega arith
