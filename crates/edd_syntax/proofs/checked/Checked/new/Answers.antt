use Rattle.std.proofs.Common.{sym, subst}
use Rattle.std.proofs.Math.Logic.{∥∥₁_map}
use Rattle.std.specs.Prelude.{Vec}
use Rattle.std.specs.declared.alloc.Global.{Global}
use Rattle.edd_syntax.specs.declared.item.Item.{Item}
use Rattle.edd_syntax.specs.declared.reference.Target.{Target}
use Rattle.edd_syntax.specs.ItemView.{identification_of, numbered_items}
use Rattle.edd_syntax.specs.Resolved.{IsChecked, description}
use Rattle.edd_syntax.proofs.checked.Checked.new.Goals as goal

pub invariant_of-result : goal.invariant_of-result
invariant_of-result c = record {
  checked = subst (λ (items : Vec (Item Target) Global). ∥ IsChecked
      (description (identification_of c.args.resolved.now.identification)
      (numbered_items items.items)) ∥₁)
      (sym c.in_ok-clone.ensures.cases)
      (∥∥₁_map c.args.resolved.now.resolved
      (λ r. record { is_resolved = r; no_breach = c.requires.no_breach }));
}
