use Rattle.std.proofs.Common.{◌∙◌, ap, sym, List, if◌then◌else◌}
use Rattle.edd_syntax.specs.declared.item.Item.{Item}
use Rattle.edd_syntax.specs.declared.reference.Target.{Target}
use Rattle.edd_syntax.specs.ItemView.{identification_of, numbered_items}
use Rattle.edd_syntax.specs.LayoutVersion.{needs_second_version}
use Rattle.edd_syntax.specs.Resolved.{description}
use Rattle.edd_syntax.proofs.checked.Checked.version.Goals as goal

pub returns-then-needs_second : goal.returns-then-needs_second
returns-then-needs_second c = sym (ap (λ b. if b then 2 else 1)
    (ap (λ (items : List (Item Target)). needs_second_version
    (description (identification_of c.args.self.now.identification) (numbered_items items)))
    (sym (c.deref-2.ensures.value ∙ ap (λ v. v.items) c.deref.ensures))
    ∙ sym c.needs_second.ensures ∙ c.if-needs_second.true))

pub returns-else-needs_second : goal.returns-else-needs_second
returns-else-needs_second c = sym (ap (λ b. if b then 2 else 1)
    (ap (λ (items : List (Item Target)). needs_second_version
    (description (identification_of c.args.self.now.identification) (numbered_items items)))
    (sym (c.deref-2.ensures.value ∙ ap (λ v. v.items) c.deref.ensures))
    ∙ sym c.needs_second.ensures ∙ c.if-needs_second.false))
