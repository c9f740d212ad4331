use Rattle.std.proofs.Common.{ap, arith, ◌∙◌}
use Rattle.edd_image.specs.Layout.{item_count}
use Rattle.edd_loader.proofs.Spaces.{rooms, name_rows_are}
use Rattle.edd_loader.proofs.sections.in_name_rows.Goals as goal

pub broken_name_row-requires : goal.broken_name_row-requires
broken_name_row-requires c = omega (
  arith,
  rooms _ c.requires,
  c.name_rows_start-start.ensures.start,
  c.item_count-count.ensures ∙ ap item_count c.counts.ensures,
)

pub returns-clause-whether : goal.returns-clause-whether
returns-clause-whether c = c.broken_name_row.ensures.whether ∙ name_rows_are _ _ _ _ c.requires
    c.name_rows_start-start.ensures.start (c.item_count-count.ensures
    ∙ ap item_count c.counts.ensures) c.names_length-end.ensures

pub returns-clause-first : goal.returns-clause-first
returns-clause-first c = rw (c.name_rows_start-start.ensures.start, c.item_count-count.ensures, c.counts.ensures)
    at c.broken_name_row.ensures.first
