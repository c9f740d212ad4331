use Rattle.std.proofs.Common.{◌∙◌, ap, sym, subst, ◌++◌, arith, map, nat_le, IsTrue}
use Rattle.std.specs.List.{list_all}
use Rattle.std.proofs.lemmas.List.{append-nil, get_or_default}
use Rattle.edd_syntax.specs.Item.{kind_of_item}
use Rattle.edd_syntax.specs.ItemView.{numbered_item}
use Rattle.edd_syntax.specs.NameRules.{transaction_count}
use Rattle.edd_syntax.specs.Numbers.{same_kind}
use Rattle.edd_syntax.specs.Rows.{listed_of, with_its}
use Rattle.edd_syntax.proofs.Belonging.{no_rows}
use Rattle.edd_syntax.proofs.ListedRows.{of_attr, of_these}
use Rattle.edd_syntax.proofs.RowLaws.{each_appended, each_done}
use Rattle.edd_syntax.proofs.TransactionRows.{all_kept}
use Rattle.edd_syntax.proofs.rows.push_attributes.Goals as goal
use Rattle.edd_syntax.proofs.rows.push_attributes.Goals.{then-may_belong_to+in_ok-push_items, else-may_belong_to}

pub push_items-requires-clause-transactions : goal.push_items-requires-clause-transactions
push_items-requires-clause-transactions c =
    subst (λ is. IsTrue (list_all (λ i. nat_le (transaction_count i) 4096) is))
    (sym (ap (map (λ m. numbered_item m.item.now)) c.deref.ensures.value
    ∙ c.in_ok-marked.ensures))
    (all_kept (λ i. nat_le (transaction_count i) 4096)
    (λ i. same_kind (kind_of_item i.sort) c.args.kind) (map numbered_item c.args.items.now)
    c.requires.transactions)

pub loop-attr-preserved : goal.loop-attr-preserved
loop-attr-preserved c = elim c.if-may_belong_to.branch [
  | then-may_belong_to+in_ok-push_items w ↦ each_appended
      (of_attr (map numbered_item c.args.items.now) c.args.kind)
      (map listed_of c.loop-attr.rows.items) (map listed_of c.if-may_belong_to.rows.items) _ c.loop-attr.attr-index
      c.args.attrs.now _ (omega arith)
      (get_or_default c.args.attrs.now c.loop-attr.attr-index _ _ (omega arith))
      (ap (λ v. map listed_of v.items) w.rows-is ∙ w.in_ok-push_items.ensures
      ∙ of_these (map numbered_item c.args.items.now) c.args.kind _
      (map listed_of c.loop-attr.rows.items) _
      (ap (map (λ m. numbered_item m.item.now)) w.deref.ensures.value
      ∙ c.in_ok-marked.ensures)) c.loop-attr.invariant
  | else-may_belong_to w ↦ each_appended
      (of_attr (map numbered_item c.args.items.now) c.args.kind)
      (map listed_of c.loop-attr.rows.items) (map listed_of c.if-may_belong_to.rows.items) _ c.loop-attr.attr-index
      c.args.attrs.now _ (omega arith)
      (get_or_default c.args.attrs.now c.loop-attr.attr-index _ _ (omega arith))
      (ap (λ v. map listed_of v.items) w.rows-is ∙ sym (append-nil (map listed_of c.loop-attr.rows.items))
      ∙ ap (λ rs. map listed_of c.loop-attr.rows.items
      ++ map (with_its (map numbered_item c.args.items.now)) rs) (sym (no_rows c.args.kind _
      (sym c.may_belong_to.ensures ∙ w.if-may_belong_to.false) (map numbered_item c.args.items.now)
      c.requires.own))) c.loop-attr.invariant
]

pub returns : goal.returns
returns c = each_done (of_attr (map numbered_item c.args.items.now) c.args.kind)
    (map listed_of c.loop-attr.rows.items) _ c.loop-attr.attr-index c.args.attrs.now (omega arith)
    c.loop-attr.invariant
