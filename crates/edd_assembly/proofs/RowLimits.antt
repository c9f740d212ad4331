-- The code of all rows is no longer than 32 octets for each node of the description.
use Rattle.std.proofs.Common.{◌≡◌, refl, ap, ◌∙◌, ℕ, suc, ◌+◌, ◌*◌, ◌≤◌, List, [], ◌∷◌, map, cond, Option, Some, None, arith}
use Rattle.std.specs.Prelude.{slice_get, sum, if◌then◌else◌}
use Rattle.edd_syntax.specs.declared.numbers.Attr.{Attr}
use Rattle.edd_syntax.specs.declared.numbers.Attr.TheVariants as attr
use Rattle.edd_syntax.specs.declared.numbers.AttrRef.{AttrRef}
use Rattle.edd_syntax.specs.declared.numbers.Kind.{Kind}
use Rattle.edd_syntax.specs.declared.reference.Target.{Target}
use Rattle.edd_syntax.specs.Execution.{body_in}
use Rattle.edd_syntax.specs.Item as item
use Rattle.edd_syntax.specs.Item.{ItemKind, VariableItem, kind_of_item, Item, Description}
use Rattle.edd_syntax.specs.Resolution.{kinds}
use Rattle.edd_syntax.specs.Numbers.{index_of, item_number, same_kind, same_attr}
use Rattle.edd_syntax.specs.Rows.{positions, rows_at, item_rows, rows_from, of_kind, rows_of_attr, rows_of_kind, attributes_in_order, rows}
use Rattle.edd_syntax.specs.Size.{attribute_nodes, item_nodes, unit_nodes}
use Rattle.edd_syntax.specs.Statement.{Nil}
use Rattle.edd_attrs.specs.Trees.{Tree, tree_in, tree_at}
use Rattle.edd_attrs.specs.Sizes.{length_limit}
use Rattle.edd_syntax.proofs.KnownByNumber.{numbered_kind, numbered_index}
use Rattle.edd_assembly.specs.RowContents.{limit_of_row}
use Rattle.edd_assembly.proofs.Totals.{total, sum_is_total, total-append, total-map, total-flat_map, total_times, total_same, total_le, total_swap}
use Rattle.edd_assembly.proofs.ItemLimits.{limit_in, rows_limit, item_limit}

module _ (d : Description Target) where
  abbrev limit : AttrRef → ℕ
  limit = limit_of_row d

  -- ---- the rows of one attribute

  module _ (k : Kind) (a : Attr) where
    limit_there : (n : ℕ) (i : Item Target) → slice_get (of_kind k d.items) n ≡ Some i → (s : ℕ)
        → limit (record { item = item_number k n; attr = a; sub = s }) ≡ limit_in i.attributes a s
    unfolding tree_at
    limit_there n i there s =
        ap (λ o. if same_attr a attr.Definition
        then 32 * attribute_nodes
        (item.Definition (elim o [ Some found ↦ body_in found.attributes | None ↦ Nil ]))
        else length_limit (elim o as (λ _. Option Tree) [
          | Some found ↦ tree_in found.attributes a s
          | None ↦ None
        ]))
        (ap (λ j. slice_get (of_kind j d.items) (index_of (item_number k n))) (numbered_kind k n)
        ∙ ap (slice_get (of_kind k d.items)) (numbered_index k n) ∙ there)

    item_rows_limit : (n : ℕ) (i : Item Target) → slice_get (of_kind k d.items) n ≡ Some i
        → total limit (item_rows (item_number k n) a i.attributes) ≡ rows_limit i.attributes a
    unfolding rows_at
    item_rows_limit n i there =
        total-map limit (λ s. record { item = item_number k n; attr = a; sub = s })
        (positions a i.attributes)
        ∙ total_same (λ s. limit (record { item = item_number k n; attr = a; sub = s }))
        (limit_in i.attributes a) (limit_there n i there) (positions a i.attributes)

    over_items : (n : ℕ) (xs : List (Item Target))
        → ((m : ℕ) → slice_get (of_kind k d.items) (n + m) ≡ slice_get xs m)
        → total limit (rows_from k a n xs) ≡ total (λ i. rows_limit i.attributes a) xs
    over_items n [] at = refl
    over_items n (i ∷ rest) at =
        let split = total-append limit (item_rows (item_number k n) a i.attributes)
        (rows_from k a (suc n) rest) in
        let first = item_rows_limit n i (ap (slice_get (of_kind k d.items)) (omega arith) ∙ at 0) in
        let later = over_items (suc n) rest (λ m. ap (slice_get (of_kind k d.items)) (omega arith)
        ∙ at (suc m)) in
        omega (arith, split, first, later)

  -- ---- the rows of a kind

  kind_limit : (k : Kind) → total limit (rows_of_kind d.items k) ≤ total (λ i. 32 * item_nodes i)
      (of_kind k d.items)
  unfolding rows_of_kind
  kind_limit k =
      let by_attribute = total-flat_map limit (rows_of_attr d.items k) attributes_in_order in
      let by_item = total_same (λ a. total limit (rows_of_attr d.items k a))
      (λ a. total (λ i. rows_limit i.attributes a) (of_kind k d.items))
      (λ a. over_items k a 0 (of_kind k d.items)
      (λ m. ap (slice_get (of_kind k d.items)) (omega arith))) attributes_in_order in
      let swapped = total_swap (λ a i. rows_limit i.attributes a) attributes_in_order
      (of_kind k d.items) in
      let less = total_le (λ i. total (rows_limit i.attributes) attributes_in_order)
      (λ i. 32 * item_nodes i) item_limit (of_kind k d.items) in
      omega (arith, by_attribute, by_item, swapped, less)

-- ---- all kinds

-- the items of a kind, the first of which may be of it
abbrev with_first : (f : Item Target → ℕ) (i : Item Target) (rest : List (Item Target)) → ItemKind
    → Kind → ℕ
with_first f i rest sort k =
    total f (cond (same_kind (kind_of_item sort) k) (i ∷ of_kind k rest) (of_kind k rest))

one_kind : (f : Item Target → ℕ) (i : Item Target) (rest : List (Item Target)) (sort : ItemKind)
    → total (with_first f i rest sort) kinds ≡ f i + total (λ k. total f (of_kind k rest)) kinds
one_kind f i rest VariableItem = omega arith
one_kind f i rest _ = omega arith

of_all_kinds : (f : Item Target → ℕ) (items : List (Item Target))
    → total (λ k. total f (of_kind k items)) kinds ≡ total f items
of_all_kinds f [] = omega arith
of_all_kinds f (i ∷ rest) = one_kind f i rest i.sort ∙ ap (λ n. f i + n) (of_all_kinds f rest)

pub all_rows_limit : (d : Description Target) → sum (map (λ r. limit_of_row d r) (rows d.items))
    ≤ 32 * unit_nodes d
all_rows_limit d =
    let summed = sum_is_total (limit_of_row d) (rows d.items) in
    let by_kind = total-flat_map (limit_of_row d) (rows_of_kind d.items) kinds in
    let each = total_le (λ k. total (limit_of_row d) (rows_of_kind d.items k))
    (λ k. total (λ i. 32 * item_nodes i) (of_kind k d.items)) (kind_limit d) kinds in
    let joined = of_all_kinds (λ i. 32 * item_nodes i) d.items in
    let times = total_times item_nodes d.items in
    let nodes = sum_is_total item_nodes d.items in
    omega (arith, summed, by_kind, each, joined, times, nodes)
