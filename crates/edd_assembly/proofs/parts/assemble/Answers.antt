use Rattle.std.proofs.Common.{◌≡◌, ◌∙◌, ap, sym, subst, ◌≤◌, List, map, IsTrue}
use Rattle.std.specs.List.{list_all}
use Rattle.edd_syntax.specs.declared.item.Item.{Item}
use Rattle.edd_syntax.specs.declared.reference.Target.{Target}
use Rattle.edd_syntax.specs.Device.{environment}
use Rattle.edd_syntax.specs.ItemView.{identification_of, numbered_items, numbered_item}
use Rattle.edd_syntax.specs.Resolution.{count_of}
use Rattle.edd_syntax.specs.Resolved.{description}
use Rattle.edd_syntax.proofs.WithinLimits.{few_when_checked}
use Rattle.edd_instructions.specs.Agreement.{version_for}
use Rattle.edd_assembly.specs.Assembly.{is_small_variable}
use Rattle.edd_assembly.proofs.SmallVariables.{small_when_checked}
use Rattle.edd_assembly.proofs.parts.assemble.Goals as goal

pub assemble_items-requires-clause-few : goal.assemble_items-requires-clause-few
assemble_items-requires-clause-few c k =
    subst (λ (items : List (Item Target)). count_of k (map numbered_item items) ≤ 4096)
    (sym (c.deref-2.ensures.value ∙ ap (λ v. v.items) c.deref.ensures))
    (few_when_checked (description (identification_of c.args.checked.now.identification)
    (numbered_items c.args.checked.now.items.value.items)) c.args.checked.now.checked k)

pub assemble_items-requires-clause-small : goal.assemble_items-requires-clause-small
assemble_items-requires-clause-small c =
    subst (λ (items : List (Item Target)). IsTrue
    (list_all is_small_variable (map numbered_item items)))
    (sym (c.deref-2.ensures.value ∙ ap (λ v. v.items) c.deref.ensures))
    (small_when_checked (description (identification_of c.args.checked.now.identification)
    (numbered_items c.args.checked.now.items.value.items)) c.args.checked.now.checked)

pub assemble_items-requires-clause-elements : goal.assemble_items-requires-clause-elements
assemble_items-requires-clause-elements c =
    subst (λ (items : List (Item Target)). c.in_ok-elements.elements.items
    ≡ (environment (description (identification_of c.args.checked.now.identification)
    (map numbered_item items))).elements)
    (sym (c.deref-2.ensures.value ∙ ap (λ v. v.items) c.deref.ensures)) c.in_ok-elements.ensures

pub assemble_items-requires-clause-version : goal.assemble_items-requires-clause-version
assemble_items-requires-clause-version c =
    subst (λ (items : List (Item Target)). c.version_of.result
    ≡ version_for (description (identification_of c.args.checked.now.identification)
    (map numbered_item items)))
    (sym (c.deref-2.ensures.value ∙ ap (λ v. v.items) c.deref.ensures)) c.version_of.ensures
