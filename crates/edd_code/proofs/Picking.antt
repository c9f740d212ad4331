-- A loop that looks for the n-th of the elements that have something.
use Rattle.std.proofs.Common.{◌≡◌, refl, sym, ap, ◌∙◌, ℕ, suc, ◌+◌, ◌<◌, ◌≤◌, Bool, true, false, List, [], ◌∷◌, ◌++◌, length, get_or, drop, map, Option, Some, None, if◌then◌else◌}
use Rattle.std.proofs.lemmas.List.{at_drop_more}
use Rattle.std.proofs.Math.ListN.{drop_of_length-le}
use Rattle.std.specs.Option.{option_to_list}
use Rattle.std.specs.List.{slice_get}
use Rattle.edd_syntax.specs.declared.numbers.Kind.{Kind}
use Rattle.edd_syntax.specs.declared.reference.Target.{Target}
use Rattle.edd_syntax.specs.Item.{kind_of_item, Attribute, Item}
use Rattle.edd_syntax.specs.Numbers.{same_kind}
use Rattle.edd_syntax.specs.Rows.{attributes_of_items}

module _ {X Y Z : Type 0} (view : X → Y) (pick : Y → Option Z) (all : List Y → List Z)
    (splits : (y : Y) (ys : List Y) → all (y ∷ ys) ≡ option_to_list (pick y) ++ all ys) where
  -- the n-th of the elements from the i-th on
  abbrev pub picked_from : (n i : ℕ) → List X → Option Z
  picked_from n i xs = slice_get (all (map view (drop i xs))) n

  next_picked : (n i : ℕ) (xs : List X) (x : X) → i < length xs → x ≡ get_or xs i x
      → picked_from n i xs ≡ slice_get (option_to_list (pick (view x))
      ++ all (map view (drop (i + 1) xs))) n
  next_picked n i xs x h is =
      at_drop_more (λ zs. slice_get (all (map view zs)) n) xs i x h
      ∙ ap (λ zs. slice_get zs n) (splits _ _)
      ∙ ap (λ y. slice_get (option_to_list (pick (view y)) ++ all (map view (drop (i + 1) xs))) n)
      (sym is)

  pub passes : (n i : ℕ) (xs : List X) (x : X) (o : Option Z) → i < length xs → x ≡ get_or xs i x
      → None ≡ pick (view x) → picked_from n i xs ≡ o → picked_from n (i + 1) xs ≡ o
  passes n i xs x o h is none invariant =
      ap (λ p. slice_get (option_to_list p ++ all (map view (drop (i + 1) xs))) n) none
      ∙ sym (next_picked n i xs x h is) ∙ invariant

  pub counts : (n m i : ℕ) (xs : List X) (x : X) (z : Z) (o : Option Z) → i < length xs
      → x ≡ get_or xs i x → Some z ≡ pick (view x) → n ≡ suc m → picked_from n i xs ≡ o
      → picked_from m (i + 1) xs ≡ o
  counts n m i xs x z o h is some down invariant =
      ap (λ p. slice_get (option_to_list p ++ all (map view (drop (i + 1) xs))) (suc m)) some
      ∙ ap (λ k. slice_get (option_to_list (pick (view x)) ++ all (map view (drop (i + 1) xs))) k)
      (sym down)
      ∙ sym (next_picked n i xs x h is) ∙ invariant

  pub stops : (n i : ℕ) (xs : List X) (x : X) (z : Z) (o : Option Z) → i < length xs
      → x ≡ get_or xs i x → Some z ≡ pick (view x) → n ≡ 0 → picked_from n i xs ≡ o → Some z ≡ o
  stops n i xs x z o h is some none_left invariant =
      ap (λ p. slice_get (option_to_list p ++ all (map view (drop (i + 1) xs))) 0) some
      ∙ ap (λ k. slice_get (option_to_list (pick (view x)) ++ all (map view (drop (i + 1) xs))) k)
      (sym none_left)
      ∙ sym (next_picked n i xs x h is) ∙ invariant

  pub none_picked : (n i : ℕ) (xs : List X) (o : Option Z) → length xs ≤ i → all [] ≡ []
      → picked_from n i xs ≡ o → None ≡ o
  none_picked n i xs o h none invariant = sym (ap (λ zs. slice_get zs n) none)
      ∙ ap (λ zs. slice_get (all (map view zs)) n) (sym (drop_of_length-le xs h)) ∙ invariant

-- the attributes of an item of this kind
abbrev pub attributes_of_kind : Kind → Item Target → Option (List (Attribute Target))
attributes_of_kind k i = if same_kind (kind_of_item i.sort) k then Some i.attributes else None

pub items_split : (k : Kind) (y : Item Target) (ys : List (Item Target))
    → attributes_of_items k (y ∷ ys) ≡ option_to_list (attributes_of_kind k y)
    ++ attributes_of_items k ys
items_split k y ys = by_kind (same_kind (kind_of_item y.sort) k) refl
  where
    by_kind : (b : Bool) → same_kind (kind_of_item y.sort) k ≡ b → attributes_of_items k (y ∷ ys)
        ≡ option_to_list (attributes_of_kind k y) ++ attributes_of_items k ys
    by_kind true is = rw is refl
    by_kind false is = rw is refl
