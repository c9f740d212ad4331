use Rattle.std.proofs.Common.{◌∙◌, ap, sym, subst, ◌≤◌, List, map}
use Rattle.edd_syntax.specs.declared.item.Item.{Item}
use Rattle.edd_syntax.specs.declared.numbers.Kind.TheVariants as kind
use Rattle.edd_syntax.specs.declared.reference.Target.{Target}
use Rattle.edd_syntax.specs.ItemView.{identification_of, numbered_items, numbered_item}
use Rattle.edd_syntax.specs.Resolution.{count_of}
use Rattle.edd_syntax.specs.Resolved.{description}
use Rattle.edd_syntax.proofs.WithinLimits.{few_when_checked}
use Rattle.edd_syntax.proofs.checked.Checked.elements.Goals as goal

pub push_arrays-requires : goal.push_arrays-requires
push_arrays-requires c =
    subst (λ (items : List (Item Target)). count_of kind.Array (map numbered_item items) ≤ 4096)
    (sym (c.deref-2.ensures.value ∙ ap (λ v. v.items) c.deref.ensures))
    (few_when_checked (description (identification_of c.args.self.now.identification)
    (numbered_items c.args.self.now.items.value.items)) c.args.self.now.checked kind.Array)
