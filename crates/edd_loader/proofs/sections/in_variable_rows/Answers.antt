use Rattle.std.proofs.Common.{arith, ◌∙◌}
use Rattle.edd_loader.proofs.Spaces.{rooms, variable_rows_are}
use Rattle.edd_loader.proofs.sections.in_variable_rows.Goals as goal

pub broken_variable_row-requires : goal.broken_variable_row-requires
broken_variable_row-requires c = omega (
  arith,
  rooms _ c.requires,
  c.variable_rows_start-start.ensures.start,
  c.variable_count.ensures,
)

pub returns-clause-whether : goal.returns-clause-whether
returns-clause-whether c = c.broken_variable_row.ensures.whether ∙ variable_rows_are _ _ _
    c.variable_rows_start-start.ensures.start c.variable_count.ensures

pub returns-clause-first : goal.returns-clause-first
returns-clause-first c = rw (c.variable_rows_start-start.ensures.start, c.variable_count.ensures)
    at c.broken_variable_row.ensures.first
