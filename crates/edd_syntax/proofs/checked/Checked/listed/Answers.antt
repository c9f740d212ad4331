use Rattle.std.proofs.Common.{◌≡◌, ◌∙◌, ap, sym, subst, ◌++◌, ◌≤◌, List, map, nat_le, IsTrue}
use Rattle.std.specs.List.{list_all}
use Rattle.edd_syntax.specs.declared.item.Item.{Item}
use Rattle.edd_syntax.specs.declared.reference.Target.{Target}
use Rattle.edd_syntax.specs.ItemView.{identification_of, numbered_items, numbered_item}
use Rattle.edd_syntax.specs.NameRules.{transaction_count}
use Rattle.edd_syntax.specs.Resolution.{count_of}
use Rattle.edd_syntax.specs.Resolved.{description}
use Rattle.edd_syntax.specs.Rows.{listed_of}
use Rattle.edd_syntax.specs.WellFormed.{has_own_attributes}
use Rattle.edd_syntax.proofs.ItemForms.{formed_when_checked, own_when_formed}
use Rattle.edd_syntax.proofs.ListedRows.{all_listed, each_listed}
use Rattle.edd_syntax.proofs.WithinLimits.{few_when_checked, few_transactions_when_checked}
use Rattle.edd_syntax.proofs.checked.Checked.listed.Goals as goal

pub push_kinds-requires-clause-few : goal.push_kinds-requires-clause-few
push_kinds-requires-clause-few c k =
    subst (λ (items : List (Item Target)). count_of k (map numbered_item items) ≤ 4096)
    (sym (c.deref-2.ensures.value ∙ ap (λ v. v.items) c.deref.ensures))
    (few_when_checked (description (identification_of c.args.self.now.identification)
    (numbered_items c.args.self.now.items.value.items)) c.args.self.now.checked k)

pub push_kinds-requires-clause-transactions : goal.push_kinds-requires-clause-transactions
push_kinds-requires-clause-transactions c =
    subst (λ (items : List (Item Target)). IsTrue (list_all (λ i. nat_le (transaction_count i) 4096)
    (map numbered_item items)))
    (sym (c.deref-2.ensures.value ∙ ap (λ v. v.items) c.deref.ensures))
    (few_transactions_when_checked (description (identification_of c.args.self.now.identification)
    (numbered_items c.args.self.now.items.value.items)) c.args.self.now.checked)

pub push_kinds-requires-clause-own : goal.push_kinds-requires-clause-own
push_kinds-requires-clause-own c =
    subst (λ (items : List (Item Target)). IsTrue (list_all has_own_attributes
    (map numbered_item items)))
    (sym (c.deref-2.ensures.value ∙ ap (λ v. v.items) c.deref.ensures))
    (own_when_formed (numbered_items c.args.self.now.items.value.items)
    (formed_when_checked (description (identification_of c.args.self.now.identification)
    (numbered_items c.args.self.now.items.value.items)) c.args.self.now.checked))

-- what was pushed, as the description has it
all_pushed : (c : goal.In_ok-push_kinds) → map listed_of c.push_kinds.new.rows.items
    ≡ all_listed (numbered_items c.args.self.now.items.value.items)
all_pushed c = c.in_ok-push_kinds.ensures
    ∙ ap (λ xs. map listed_of xs ++ all_listed (map numbered_item c.deref-2.result.now))
    c.new-rows.ensures.items
    ∙ ap (λ items. all_listed (map numbered_item items))
    (c.deref-2.ensures.value ∙ ap (λ v. v.items) c.deref.ensures)

pub returns-clause-rows : goal.returns-clause-rows
returns-clause-rows c = (each_listed (numbered_items c.args.self.now.items.value.items)
    c.push_kinds.new.rows.items (all_pushed c)).0

pub returns-clause-attributes : goal.returns-clause-attributes
returns-clause-attributes c = (each_listed (numbered_items c.args.self.now.items.value.items)
    c.push_kinds.new.rows.items (all_pushed c)).1
