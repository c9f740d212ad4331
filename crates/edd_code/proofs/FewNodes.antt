-- A checked description has few nodes.
use Rattle.std.proofs.Common.{◌≡◌, refl, ℕ, ◌≤◌, Bool, true, false, [], ◌++◌, arith}
use Rattle.std.specs.Prelude.{nat_lt}
use Rattle.std.specs.List.{list_any}
use Rattle.std.proofs.lemmas.Grind.{common_steps}
use Rattle.std.proofs.Math.Bridge.{le_prop}
use Rattle.std.proofs.Math.Logic.{∥∥₁_elim}
use Rattle.edd_syntax.specs.declared.limits.Limit.TheVariants as limit
use Rattle.edd_syntax.specs.Reference.{Path}
use Rattle.edd_syntax.specs.declared.reference.Target.{Target}
use Rattle.edd_syntax.specs.Item.{Description}
use Rattle.edd_syntax.specs.NameRules.{item_limit, transaction_limit, local_limit, node_limit, locals_of, transaction_count, too_many}
use Rattle.edd_syntax.specs.Refusal.{Refusal, TooMany, refused_if}
use Rattle.edd_syntax.specs.Resolution.{count_of, kinds}
use Rattle.edd_syntax.specs.Resolved.{IsChecked}
use Rattle.edd_syntax.specs.Size.{unit_nodes}
use Rattle.edd_code.proofs.Fitting.{front_none}
use Rattle.edd_code.proofs.UnitNodes.{unit_keeps}

no_refusal : (b : Bool) (why : Refusal) → refused_if b why ≡ [] → b ≡ false
no_refusal true why h = absurd (cc)
no_refusal false why h = refl

at_most : (n m : ℕ) → nat_lt n m ≡ false → m ≤ n
at_most n m h = grind (arith, common_steps)

few_in_unit : (u : Description Path) → too_many u ≡ [] → unit_nodes u ≤ 524288
few_in_unit u h =
    let items = refused_if (list_any (λ k. nat_lt item_limit (count_of k u.items)) kinds)
    (TooMany limit.Items) in
    let transactions = refused_if (list_any (λ i. nat_lt transaction_limit (transaction_count i))
    u.items) (TooMany limit.Transactions) in
    let locals = refused_if (list_any (λ i. nat_lt local_limit (locals_of i)) u.items)
    (TooMany limit.Locals) in
    let nodes = refused_if (nat_lt node_limit (unit_nodes u)) (TooMany limit.Nodes) in
    at_most node_limit (unit_nodes u)
    (no_refusal (nat_lt node_limit (unit_nodes u)) (TooMany limit.Nodes)
    (front_none locals nodes
    (front_none transactions (locals ++ nodes)
    (front_none items (transactions ++ (locals ++ nodes)) h).1).1).1)

few : (d : Description Target) → IsChecked d → unit_nodes d ≤ 524288
few d checked =
    let r = checked.is_resolved in
    omega (
      arith,
      unit_keeps r.unit d r.meanings,
      few_in_unit r.unit (front_none (too_many r.unit) _ r.no_breach).0,
    )

pub few_nodes : (d : Description Target) → ∥ IsChecked d ∥₁ → unit_nodes d ≤ 524288
few_nodes d checked = ∥∥₁_elim checked le_prop (few d)
