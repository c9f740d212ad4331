use Rattle.std.proofs.Common.{◌≡◌, ap, ◌∙◌, ◌++◌, Some, subst}
use Rattle.std.specs.List.{flat_map}
use Rattle.edd_breaches.specs.Told as breaches
use Rattle.edd_breaches.specs.Told.{broken, refusals}
use Rattle.edd_breaches.proofs.BrokenLaws.{told_broken}
use Rattle.edd_syntax.specs.ItemView.{named_items, numbered_items}
use Rattle.edd_syntax.specs.NameUses.{item_uses}
use Rattle.edd_syntax.specs.ResolvedTrees.{each, resolved_item}
use Rattle.edd_name_meanings.specs.Copies.{Tells}
use Rattle.edd_name_meanings.specs.PathsIn.{paths_in_items}
use Rattle.edd_name_meanings.specs.StandIns.{read_in}
use Rattle.edd_name_meanings.specs.TokensIn.{tokens_in_items}
use Rattle.edd_name_rules.specs.RulesTold.{rules_told}
use Rattle.edd_name_rules.specs.Walks.{described}
use Rattle.edd_names.specs.Told.{rules_before}
use Rattle.edd_names.specs.Units.{unit_view}
use Rattle.edd_names.proofs.ResolvingLaws.{is_meant, rules_in_order, same_unit, tells_in_order}
use Rattle.edd_names.proofs.resolving.tell_names.Goals as goal

pub returns-then-not-branch-clause-told : goal.returns-then-not-branch-clause-told
returns-then-not-branch-clause-told c =
    subst (λ xs. breaches.Tells (rules_told xs) c.args.told.now.items c.tell_rules.new.told.items)
    c.deref.ensures.value c.in_ok-tell_rules.ensures.told

pub returns-then-not-branch-clause-rules : goal.returns-then-not-branch-clause-rules
returns-then-not-branch-clause-rules c =
    told_broken _ c.args.told.now.items c.tell_rules.new.told.items c.in_ok-tell_rules.ensures.told
    ∙ ap (λ rs. broken c.args.told.now.items ++ rs) (c.in_ok-tell_rules.ensures.rules
    ∙ ap (λ xs. rules_before (described (named_items xs))) c.deref.ensures.value)

pub returns-clause-told : goal.returns-clause-told
returns-clause-told c =
    tells_in_order (unit_view c.args.unit.now) (rules_told c.args.unit.now.items.items)
    (paths_in_items c.args.unit.now.items.items) c.args.told.now.items c.tell_rules.new.told.items
    c.copy_items.new.told.items
    (subst (λ xs. breaches.Tells (rules_told xs) c.args.told.now.items c.tell_rules.new.told.items)
    c.deref.ensures.value c.in_ok-tell_rules.ensures.told)
    (subst (λ xs. Tells (unit_view c.args.unit.now) (flat_map item_uses (named_items xs))
    (paths_in_items xs) c.tell_rules.new.told.items c.copy_items.new.told.items)
    c.deref-3.ensures.value
    (subst (λ d. Tells d (flat_map item_uses (named_items c.deref-3.result.now))
    (paths_in_items c.deref-3.result.now) c.tell_rules.new.told.items c.copy_items.new.told.items)
    (same_unit c.in_ok-names.names c.args.unit.now c.deref-2.result.now
    c.in_ok-names.ensures.identification c.in_ok-names.ensures.items c.deref-2.ensures.value)
    c.in_ok-copy_items.ensures.told))

pub returns-clause-rules : goal.returns-clause-rules
returns-clause-rules c =
    told_broken _ c.args.told.now.items c.copy_items.new.told.items
    (tells_in_order (unit_view c.args.unit.now) (rules_told c.args.unit.now.items.items)
    (paths_in_items c.args.unit.now.items.items) c.args.told.now.items c.tell_rules.new.told.items
    c.copy_items.new.told.items
    (subst (λ xs. breaches.Tells (rules_told xs) c.args.told.now.items c.tell_rules.new.told.items)
    c.deref.ensures.value c.in_ok-tell_rules.ensures.told)
    (subst (λ xs. Tells (unit_view c.args.unit.now) (flat_map item_uses (named_items xs))
    (paths_in_items xs) c.tell_rules.new.told.items c.copy_items.new.told.items)
    c.deref-3.ensures.value
    (subst (λ d. Tells d (flat_map item_uses (named_items c.deref-3.result.now))
    (paths_in_items c.deref-3.result.now) c.tell_rules.new.told.items c.copy_items.new.told.items)
    (same_unit c.in_ok-names.names c.args.unit.now c.deref-2.result.now
    c.in_ok-names.ensures.identification c.in_ok-names.ensures.items c.deref-2.ensures.value)
    c.in_ok-copy_items.ensures.told)))
    ∙ ap (λ rs. broken c.args.told.now.items ++ rs)
    (rules_in_order (unit_view c.args.unit.now) (rules_told c.args.unit.now.items.items)
    (paths_in_items c.args.unit.now.items.items) c.tell_rules.new.told.items
    c.copy_items.new.told.items
    (subst (λ xs. refusals (rules_told xs) ≡ rules_before (described (named_items xs)))
    c.deref.ensures.value c.in_ok-tell_rules.ensures.rules)
    (subst (λ xs. Tells (unit_view c.args.unit.now) (flat_map item_uses (named_items xs))
    (paths_in_items xs) c.tell_rules.new.told.items c.copy_items.new.told.items)
    c.deref-3.ensures.value
    (subst (λ d. Tells d (flat_map item_uses (named_items c.deref-3.result.now))
    (paths_in_items c.deref-3.result.now) c.tell_rules.new.told.items c.copy_items.new.told.items)
    (same_unit c.in_ok-names.names c.args.unit.now c.deref-2.result.now
    c.in_ok-names.ensures.identification c.in_ok-names.ensures.items c.deref-2.ensures.value)
    c.in_ok-copy_items.ensures.told)))

pub returns-clause-read : goal.returns-clause-read
returns-clause-read c =
    subst (λ xs. each (resolved_item (read_in (unit_view c.args.unit.now))) (named_items xs)
    ≡ Some (numbered_items c.in_ok-copy_items.field-0.items)) c.deref-3.ensures.value
    (subst (λ d. each (resolved_item (read_in d)) (named_items c.deref-3.result.now)
    ≡ Some (numbered_items c.in_ok-copy_items.field-0.items))
    (same_unit c.in_ok-names.names c.args.unit.now c.deref-2.result.now
    c.in_ok-names.ensures.identification c.in_ok-names.ensures.items c.deref-2.ensures.value)
    c.in_ok-copy_items.ensures.sound)

pub returns-clause-sound : goal.returns-clause-sound
returns-clause-sound c =
    is_meant (unit_view c.args.unit.now) (numbered_items c.in_ok-copy_items.field-0.items)
    c.args.unit.now.kept (returns-clause-read c)

pub returns-clause-kept : goal.returns-clause-kept
returns-clause-kept c = c.in_ok-copy_items.ensures.kept ∙ ap tokens_in_items c.deref-3.ensures.value
