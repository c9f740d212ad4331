-- The first trees of all attributes together have no longer code than all trees.
use Rattle.std.proofs.Common.{ℕ, ◌+◌, ◌≤◌, Bool, true, false, List, [], ◌∷◌, Option, Some, None, arith}
use Rattle.std.specs.Prelude.{if◌then◌else◌}
use Rattle.edd_syntax.specs.declared.numbers.Attr.{Attr}
use Rattle.edd_syntax.specs.declared.numbers.Attr.TheVariants as attr
use Rattle.edd_syntax.specs.Numbers.{same_attr}
use Rattle.edd_syntax.specs.Rows.{attributes_in_order}
use Rattle.edd_attrs.specs.Trees.{Tree, Named, first_tree}
use Rattle.edd_attrs.specs.Sizes.{length_limit}
use Rattle.edd_assembly.proofs.Totals.{total, total_le, total_plus}

abbrev pub cost_of : Option Tree → ℕ
cost_of None = 0
cost_of (Some t) = length_limit (Some t)

abbrev pub weight_of : Named → ℕ
weight_of x = length_limit (Some x.1)

abbrev pub weight : List Named → ℕ
weight xs = total weight_of xs

-- a number under one attribute
abbrev only_at : Attr → ℕ → Attr → ℕ
only_at b n a = if same_attr b a then n else 0

counted_once : (b : Attr) (n : ℕ) → total (only_at b n) attributes_in_order ≤ n
counted_once attr.Label n = omega arith
counted_once b n = omega arith

abbrev pub first_cost : List Named → Attr → ℕ
first_cost xs a = cost_of (first_tree a xs)

one_more : (x : Named) (xs : List Named) (a : Attr) → first_cost (x ∷ xs) a
    ≤ only_at x.0 (weight_of x) a + first_cost xs a
one_more x xs a = here (same_attr x.0 a)
  where
    here : (b : Bool) → cost_of (elim b as (λ _. Option Tree) [
      | true ↦ Some x.1
      | false ↦ first_tree a xs
    ]) ≤ (if b then weight_of x else 0) + first_cost xs a
    here true = omega arith
    here false = omega arith

pub first_costs : (xs : List Named) → total (first_cost xs) attributes_in_order ≤ weight xs
first_costs [] = omega arith
first_costs (x ∷ xs) =
    let less : total (first_cost (x ∷ xs)) attributes_in_order
    ≤ total (λ a. only_at x.0 (weight_of x) a + first_cost xs a) attributes_in_order =
    total_le (first_cost (x ∷ xs)) (λ a. only_at x.0 (weight_of x) a + first_cost xs a)
    (one_more x xs) attributes_in_order in
    let split = total_plus (only_at x.0 (weight_of x)) (first_cost xs) attributes_in_order in
    omega (arith, less, split, counted_once x.0 (weight_of x), first_costs xs)
