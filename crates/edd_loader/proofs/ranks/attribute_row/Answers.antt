use Rattle.std.proofs.Common.{arith, refl, sym, ap, ◌∙◌}
use Rattle.edd_syntax.specs.Numbers.{kind_number}
use Rattle.edd_loader.proofs.Spaces.{rooms}
use Rattle.edd_loader.proofs.RisingRows.{attribute_past, attribute_other, attribute_other_sub, attribute_there, row_inside}
use Rattle.edd_loader.proofs.ranks.attribute_row.Goals as goal

pub attribute_count-requires : goal.attribute_count-requires
attribute_count-requires c = c.requires.sections.header

pub overflow_add-row : goal.overflow_add-row
overflow_add-row c = omega (
  arith,
  rooms _ c.requires.sections,
  c.requires.start,
  c.first_row-first.ensures.end,
)

pub is_row_of-requires : goal.is_row_of-requires
is_row_of-requires c = row_inside _ _ _ _ c.requires.sections
    c.requires.start c.first_row-first.ensures.end
    (λ e. c.if-first-attribute_count.false (e ∙ sym c.attribute_count.ensures)) refl

pub attribute_sub-requires : goal.attribute_sub-requires
attribute_sub-requires c = row_inside _ _ _ _ c.requires.sections
    c.requires.start c.first_row-first.ensures.end
    (λ e. c.if-first-attribute_count.false (e ∙ sym c.attribute_count.ensures)) refl

pub returns-clause-inside : goal.returns-clause-inside
returns-clause-inside c = row_inside _ _ _ _ c.requires.sections
    c.requires.start c.first_row-first.ensures.end
    (λ e. c.if-first-attribute_count.false (e ∙ sym c.attribute_count.ensures)) refl

pub returns-then-first-attribute_count-clause-row :
    goal.returns-then-first-attribute_count-clause-row
returns-then-first-attribute_count-clause-row c =
    sym (attribute_past c.args.bytes.now c.args.attr c.first_row-first.result (record {
      rows = c.requires.rows;
      are = record { below = λ i. (c.type_inv.bytes i).fits };
      kind = c.number-kind.result;
      kind_is = c.number-kind.ensures ∙ ap kind_number c.kind.ensures;
      attribute = c.number-attribute.result;
      attribute_is = c.number-attribute.ensures;
      item = c.index-item.result;
      item_is = c.index-item.ensures;
      key = c.rank.result;
      key_is = c.rank.ensures;
      end = c.first_row-first.ensures.end;
      below = c.first_row-first.ensures.below;
      above = c.first_row-first.ensures.above;
    }) (c.if-first-attribute_count.true ∙ c.attribute_count.ensures))

pub returns-then-not-is_row_of-clause-row : goal.returns-then-not-is_row_of-clause-row
returns-then-not-is_row_of-clause-row c =
    sym (attribute_other c.args.bytes.now c.args.attr c.first_row-first.result (record {
      rows = c.requires.rows;
      are = record { below = λ i. (c.type_inv.bytes i).fits };
      kind = c.number-kind.result;
      kind_is = c.number-kind.ensures ∙ ap kind_number c.kind.ensures;
      attribute = c.number-attribute.result;
      attribute_is = c.number-attribute.ensures;
      item = c.index-item.result;
      item_is = c.index-item.ensures;
      key = c.rank.result;
      key_is = c.rank.ensures;
      end = c.first_row-first.ensures.end;
      below = c.first_row-first.ensures.below;
      above = c.first_row-first.ensures.above;
    }) _ _ (λ e. c.if-first-attribute_count.false (e ∙ sym c.attribute_count.ensures))
    c.is_row_of.ensures c.requires.start
    c.if-not-is_row_of.true)

pub returns-then-attribute_sub-attr-clause-row : goal.returns-then-attribute_sub-attr-clause-row
returns-then-attribute_sub-attr-clause-row c =
    sym (attribute_other_sub c.args.bytes.now c.args.attr c.first_row-first.result (record {
      rows = c.requires.rows;
      are = record { below = λ i. (c.type_inv.bytes i).fits };
      kind = c.number-kind.result;
      kind_is = c.number-kind.ensures ∙ ap kind_number c.kind.ensures;
      attribute = c.number-attribute.result;
      attribute_is = c.number-attribute.ensures;
      item = c.index-item.result;
      item_is = c.index-item.ensures;
      key = c.rank.result;
      key_is = c.rank.ensures;
      end = c.first_row-first.ensures.end;
      below = c.first_row-first.ensures.below;
      above = c.first_row-first.ensures.above;
    }) _ _ (λ e. c.if-first-attribute_count.false (e ∙ sym c.attribute_count.ensures))
    c.requires.start c.attribute_sub.ensures
    c.if-attribute_sub-attr.true)

pub returns-clause-row : goal.returns-clause-row
returns-clause-row c = attribute_there c.args.bytes.now c.args.attr c.first_row-first.result
    (record {
      rows = c.requires.rows;
      are = record { below = λ i. (c.type_inv.bytes i).fits };
      kind = c.number-kind.result;
      kind_is = c.number-kind.ensures ∙ ap kind_number c.kind.ensures;
      attribute = c.number-attribute.result;
      attribute_is = c.number-attribute.ensures;
      item = c.index-item.result;
      item_is = c.index-item.ensures;
      key = c.rank.result;
      key_is = c.rank.ensures;
      end = c.first_row-first.ensures.end;
      below = c.first_row-first.ensures.below;
      above = c.first_row-first.ensures.above;
    }) _ _ _ (λ e. c.if-first-attribute_count.false (e ∙ sym c.attribute_count.ensures))
    c.is_row_of.ensures c.requires.start
    c.if-not-is_row_of.false c.attribute_sub.ensures c.if-attribute_sub-attr.false
