-- A loop that looks for the first tree of an attribute.
use Rattle.std.proofs.Common.{◌≡◌, refl, sym, ap, ◌∙◌, ℕ, ◌+◌, ◌<◌, ◌≤◌, Bool, true, false, List, [], ◌∷◌, ◌++◌, length, get_or, drop, map, Option, Some, None}
use Rattle.std.proofs.lemmas.List.{at_drop_more}
use Rattle.std.proofs.Math.ListN.{drop_of_length-le}
use Rattle.edd_syntax.specs.declared.numbers.Attr.{Attr}
use Rattle.edd_syntax.specs.declared.reference.Target.{Target}
use Rattle.edd_syntax.specs.Item.{TypePart, TransactionPart, Attribute}
use Rattle.edd_syntax.specs.Numbers.{same_attr}
use Rattle.edd_attrs.specs.Trees.{Tree, Named, trees_of_part, trees_of_parts, trees_of_attribute, trees_of, tree_of_transaction_part, first_tree}
use Rattle.edd_attrs.specs.Rows.{one_part}

-- the first that is there
abbrev pub or_else : {A : Type 0} → Option A → Option A → Option A
or_else (Some x) o = Some x
or_else None o = o

pub first-append : (a : Attr) (xs ys : List Named) → first_tree a (xs ++ ys)
    ≡ or_else (first_tree a xs) (first_tree a ys)
first-append a [] ys = refl
first-append a (x ∷ xs) ys = here (same_attr x.0 a) (first-append a xs ys)
  where
    here : (b : Bool) → first_tree a (xs ++ ys) ≡ or_else (first_tree a xs) (first_tree a ys)
        → elim b as (λ _. Option Tree) [ true ↦ Some x.1 | false ↦ first_tree a (xs ++ ys) ]
        ≡ or_else (elim b as (λ _. Option Tree) [ true ↦ Some x.1 | false ↦ first_tree a xs ])
        (first_tree a ys)
    here true rest = refl
    here false rest = rest

module _ {X Y : Type 0} (a : Attr) (view : X → Y) (one : Y → List Named) (all : List Y → List Named)
    (splits : (y : Y) (ys : List Y) → all (y ∷ ys) ≡ one y ++ all ys) where
  -- what is found from the i-th element on
  abbrev pub found_from : ℕ → List X → Option Tree
  found_from i xs = first_tree a (all (map view (drop i xs)))

  next_found : (i : ℕ) (xs : List X) (x : X) → i < length xs → x ≡ get_or xs i x
      → found_from i xs ≡ or_else (first_tree a (one (view x))) (found_from (i + 1) xs)
  next_found i xs x h is =
      at_drop_more (λ zs. first_tree a (all (map view zs))) xs i x h
      ∙ ap (first_tree a) (splits _ _)
      ∙ first-append a (one (view (get_or xs i x))) (all (map view (drop (i + 1) xs)))
      ∙ ap (λ y. or_else (first_tree a (one (view y))) (found_from (i + 1) xs)) (sym is)

  pub goes_on : (i : ℕ) (xs : List X) {x : X} → i < length xs → x ≡ get_or xs i x
      → None ≡ first_tree a (one (view x)) → found_from i xs ≡ found_from 0 xs
      → found_from (i + 1) xs ≡ found_from 0 xs
  goes_on i xs {x} h is none invariant = ap (λ o. or_else o (found_from (i + 1) xs)) none
      ∙ sym (next_found i xs x h is) ∙ invariant

  pub stops : (i : ℕ) (xs : List X) {x : X} {t : Tree} → i < length xs → x ≡ get_or xs i x → Some t
      ≡ first_tree a (one (view x)) → found_from i xs ≡ found_from 0 xs → Some t ≡ found_from 0 xs
  stops i xs {x} h is found invariant = ap (λ o. or_else o (found_from (i + 1) xs)) found
      ∙ sym (next_found i xs x h is) ∙ invariant

  pub none_found : (i : ℕ) (xs : List X) → length xs ≤ i → all [] ≡ []
      → found_from i xs ≡ found_from 0 xs → None ≡ found_from 0 xs
  none_found i xs h none invariant = sym (ap (first_tree a) none)
      ∙ ap (λ zs. first_tree a (all (map view zs))) (sym (drop_of_length-le xs h)) ∙ invariant

pub parts_split : (y : TypePart Target) (ys : List (TypePart Target)) → trees_of_parts (y ∷ ys)
    ≡ trees_of_part y ++ trees_of_parts ys
parts_split y ys = refl

pub attributes_split : (y : Attribute Target) (ys : List (Attribute Target))
    → trees_of (y ∷ ys) ≡ trees_of_attribute y ++ trees_of ys
attributes_split y ys = refl

pub transaction_parts_split : (y : TransactionPart Target) (ys : List (TransactionPart Target))
    → map tree_of_transaction_part (y ∷ ys) ≡ one_part y ++ map tree_of_transaction_part ys
transaction_parts_split y ys = refl
