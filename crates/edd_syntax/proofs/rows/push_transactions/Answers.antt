use Rattle.std.proofs.Common.{◌∙◌, ap, sym, true, false, arith, map}
use Rattle.std.proofs.lemmas.List.{append-nil, map_push}
use Rattle.edd_syntax.specs.ItemView.{numbered_attribute}
use Rattle.edd_syntax.specs.NameRules.{is_transaction}
use Rattle.edd_syntax.specs.Rows.{listed_of}
use Rattle.edd_syntax.proofs.NumberedLoops.{grows, grown_whole, stays_within}
use Rattle.edd_syntax.proofs.TransactionRows.{positions_from, row_of, positions_split, no_positions}
use Rattle.edd_syntax.proofs.rows.push_transactions.Goals as goal
use Rattle.edd_syntax.proofs.rows.push_transactions.Goals.{then-is_transaction+in_ok-push, else-is_transaction}

pub loop-attribute-preserved : goal.loop-attribute-preserved
loop-attribute-preserved c = elim c.if-is_transaction.branch [
  | then-is_transaction+in_ok-push w ↦ (
    grows (positions_from c.args.item c.args.attr (map numbered_attribute c.args.attributes.now)) is_transaction (row_of c.args.item c.args.attr (map numbered_attribute c.args.attributes.now))
        numbered_attribute (positions_split c.args.item c.args.attr (map numbered_attribute c.args.attributes.now)) (map listed_of c.loop-attribute.rows.items)
        (map listed_of c.if-is_transaction.rows.items) _ c.loop-attribute.sub c.if-is_transaction.sub
        c.loop-attribute.attribute-index c.args.attributes.now c.attribute-item.result true
        (omega arith) c.attribute-item.is
        (sym c.is_transaction.ensures ∙ w.if-is_transaction.true) (ap (λ v. map listed_of v.items) w.rows-is
        ∙ ap (map listed_of) w.in_ok-push.ensures.items
        ∙ map_push listed_of c.loop-attribute.rows.items _) (omega (arith, w.sub-is)) c.loop-attribute.invariant.0,
    stays_within is_transaction numbered_attribute 4096 c.loop-attribute.sub c.if-is_transaction.sub
        c.loop-attribute.attribute-index c.args.attributes.now c.attribute-item.result true
        (omega arith) c.attribute-item.is
        (sym c.is_transaction.ensures ∙ w.if-is_transaction.true) (omega (arith, w.sub-is))
        c.loop-attribute.invariant.1,
  )
  | else-is_transaction w ↦ (
    grows (positions_from c.args.item c.args.attr (map numbered_attribute c.args.attributes.now)) is_transaction (row_of c.args.item c.args.attr (map numbered_attribute c.args.attributes.now))
        numbered_attribute (positions_split c.args.item c.args.attr (map numbered_attribute c.args.attributes.now)) (map listed_of c.loop-attribute.rows.items)
        (map listed_of c.if-is_transaction.rows.items) _ c.loop-attribute.sub c.if-is_transaction.sub
        c.loop-attribute.attribute-index c.args.attributes.now c.attribute-item.result false
        (omega arith) c.attribute-item.is
        (sym c.is_transaction.ensures ∙ w.if-is_transaction.false) (ap (λ v. map listed_of v.items) w.rows-is
        ∙ sym (append-nil _)) w.sub-is c.loop-attribute.invariant.0,
    stays_within is_transaction numbered_attribute 4096 c.loop-attribute.sub c.if-is_transaction.sub
        c.loop-attribute.attribute-index c.args.attributes.now c.attribute-item.result false
        (omega arith) c.attribute-item.is
        (sym c.is_transaction.ensures ∙ w.if-is_transaction.false) w.sub-is
        c.loop-attribute.invariant.1,
  )
]

pub returns : goal.returns
returns c = grown_whole (positions_from c.args.item c.args.attr (map numbered_attribute c.args.attributes.now)) is_transaction
    (row_of c.args.item c.args.attr (map numbered_attribute c.args.attributes.now)) numbered_attribute (positions_split c.args.item c.args.attr (map numbered_attribute c.args.attributes.now))
    (map listed_of c.loop-attribute.rows.items) _ c.loop-attribute.sub c.loop-attribute.attribute-index
    c.args.attributes.now (omega arith) (no_positions c.args.item c.args.attr (map numbered_attribute c.args.attributes.now) c.loop-attribute.sub)
    c.loop-attribute.invariant.0
