use Rattle.std.proofs.Common.{sym, subst, Vec}
use Rattle.std.specs.declared.alloc.Global.{Global}
use Rattle.edd_syntax.specs.declared.item.Item.{Item}
use Rattle.edd_syntax.specs.declared.reference.Target.{Target}
use Rattle.edd_syntax.specs.ItemView.{identification_of, numbered_items}
use Rattle.edd_syntax.specs.Resolved.{IsResolved, description}
use Rattle.edd_syntax.proofs.resolved.Resolved.new.Goals as goal

pub invariant_of-result : goal.invariant_of-result
invariant_of-result c = record {
  resolved = subst (λ (items : Vec (Item Target) Global). ∥ IsResolved
      (description (identification_of c.args.identification) (numbered_items items.items)) ∥₁)
      (sym c.in_ok-new.ensures.ok) ∣ c.requires ∣₁;
}
