-- Rows with the attributes of their items.
use Rattle.std.proofs.Common.{◌≡◌, refl, sym, ap, ◌∙◌, ℕ, suc, ◌+◌, List, [], ◌∷◌, ◌++◌, map, drop, Some, arith}
use Rattle.std.specs.Prelude.{option_map, slice_get}
use Rattle.std.specs.List.{All, AllByRecursion, flat_map}
use Rattle.std.proofs.lemmas.List.{map-append}
use Rattle.std.proofs.lemmas.List.Elements.{All-from_recursion}
use Rattle.std.proofs.lemmas.Option.{same_Some, slice_get-map}
use Rattle.edd_syntax.specs.declared.numbers.Kind.{Kind}
use Rattle.edd_syntax.specs.declared.numbers.Kind.TheVariants as kind
use Rattle.edd_syntax.specs.declared.numbers.Attr.{Attr}
use Rattle.edd_syntax.specs.declared.numbers.AttrRef.{AttrRef}
use Rattle.edd_syntax.specs.declared.reference.Target.{Target}
use Rattle.edd_syntax.specs.declared.rows.Listed.{Listed}
use Rattle.edd_syntax.specs.Item.{Item}
use Rattle.edd_syntax.specs.Resolution.{kinds}
use Rattle.edd_syntax.specs.Numbers.{item_number}
use Rattle.edd_syntax.specs.Rows.{attributes_in_order, attributes_of_row, item_rows, listed_from, listed_of, Listing, of_kind, positions, rows, rows_at, rows_from, rows_of_attr, rows_of_kind, with_its, with_these, HasItsAttributes}

map-flat_map : {X Y Z : Type 0} (f : Y → Z) (g : X → List Y) (xs : List X)
    → map f (flat_map g xs) ≡ flat_map (λ x. map f (g x)) xs
map-flat_map f g [] = refl
map-flat_map f g (x ∷ xs) = map-append f (g x) (flat_map g xs)
    ∙ ap (λ ys. map f (g x) ++ ys) (map-flat_map f g xs)

module _ (items : List (Item Target)) where
  -- the attributes of an item by the number with which its rows name it
  of_number : (k : Kind) (n : ℕ) (a : Attr) (sub : ℕ)
      → attributes_of_row items (record { item = item_number k n; attr = a; sub = sub })
      ≡ slice_get (map (λ i. i.attributes) (of_kind k items)) n
  of_number kind.Variable n a sub = refl
  of_number _ n a sub = refl

  module _ (k : Kind) (a : Attr) where
    of_item : (n : ℕ) (i : Item Target) → slice_get (of_kind k items) n ≡ Some i
        → (subs : List ℕ) → map (with_these i.attributes) (rows_at (item_number k n) a subs)
        ≡ map (with_its items) (rows_at (item_number k n) a subs)
    unfolding rows_at
    of_item n i there [] = refl
    of_item n i there (sub ∷ subs) =
        ap (λ o. (record { item = item_number k n; attr = a; sub = sub }, o)
        ∷ map (with_these i.attributes) (rows_at (item_number k n) a subs))
        (sym (of_number k n a sub ∙ slice_get-map (λ j. j.attributes) (of_kind k items) n
        ∙ ap (option_map (λ j. j.attributes)) there))
        ∙ ap (λ xs. with_its items (record { item = item_number k n; attr = a; sub = sub }) ∷ xs)
        (of_item n i there subs)

    from : (n : ℕ) (xs : List (Item Target))
        → ((j : ℕ) → slice_get (of_kind k items) (n + j) ≡ slice_get xs j)
        → listed_from k a n xs ≡ map (with_its items) (rows_from k a n xs)
    from n [] there = refl
    from n (i ∷ rest) there =
        let first : n ≡ n + 0 = omega arith in
        ap (λ xs. xs ++ listed_from k a (suc n) rest)
        (of_item n i (ap (slice_get (of_kind k items)) first ∙ there 0) (positions a i.attributes))
        ∙ ap (λ xs. map (with_its items) (item_rows (item_number k n) a i.attributes) ++ xs)
        (from (suc n) rest (λ j.
        let next : suc n + j ≡ n + suc j = omega arith in
        ap (slice_get (of_kind k items)) next ∙ there (suc j)))
        ∙ sym (map-append (with_its items) (item_rows (item_number k n) a i.attributes)
        (rows_from k a (suc n) rest))

    -- what stands after the rows so far
    pub of_these : (zs : List (Listing Target)) (xs : List (Item Target)) → xs ≡ of_kind k items
        → zs ++ listed_from k a 0 xs ≡ zs ++ map (with_its items) (rows_of_attr items k a)
    of_these zs xs are = ap (λ ys. zs ++ listed_from k a 0 ys) are
        ∙ ap (λ ys. zs ++ ys) (from 0 (of_kind k items)
        (λ j. let same : 0 + j ≡ j = omega arith in ap (slice_get (of_kind k items)) same))

  -- those of an attribute, and those of a kind
  abbrev pub of_attr : Kind → Attr → List (Listing Target)
  of_attr k a = map (with_its items) (rows_of_attr items k a)

  abbrev pub of_this_kind : Kind → List (Listing Target)
  of_this_kind k = map (with_its items) (rows_of_kind items k)

  pub kind_rows : (k : Kind) → flat_map (of_attr k) attributes_in_order ≡ of_this_kind k
  unfolding rows_of_kind
  kind_rows k = sym (map-flat_map (with_its items) (rows_of_attr items k) attributes_in_order)

  -- ---- the rows alone, and their attributes

  each : (ls : List Listed) (rs : List AttrRef) → map listed_of ls ≡ map (with_its items) rs
      → (map (λ l. l.row) ls ≡ rs) × AllByRecursion (HasItsAttributes items) ls
  each [] [] is = (refl, record {})
  each [] (r ∷ rs) is = absurd cc
  each (l ∷ ls) [] is = absurd cc
  each (l ∷ ls) (r ∷ rs) is =
      let same = same_Some (listed_of l) (with_its items r) (ap (λ xs. slice_get xs 0) is) in
      let rest = each ls rs (ap (drop 1) is) in (
        ap (λ p. p.0 ∷ map (λ l. l.row) ls) same ∙ ap (λ xs. r ∷ xs) rest.0,
        (ap (λ p. attributes_of_row items p.0) same ∙ sym (ap (λ p. p.1) same), rest.1),
      )

  abbrev pub all_listed : List (Listing Target)
  all_listed = flat_map of_this_kind kinds

  pub each_listed : (ls : List Listed) → map listed_of ls ≡ all_listed
      → (map (λ l. l.row) ls ≡ rows items) × All (HasItsAttributes items) ls
  each_listed ls is =
      let both = each ls (rows items)
      (is ∙ sym (map-flat_map (with_its items) (rows_of_kind items) kinds)) in
      (both.0, All-from_recursion (HasItsAttributes items) ls both.1)
