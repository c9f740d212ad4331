use Rattle.std.proofs.Common.{◌∙◌, ap, sym, map, ◌||◌}
use Rattle.edd_syntax.specs.LayoutVersion.{one_names_it, body_names_it}
use Rattle.edd_syntax.specs.Statement.{body_from}
use Rattle.edd_syntax.specs.SubsetRules.{stmt_expressions}
use Rattle.edd_syntax.specs.TreeView.{numbered_part}
use Rattle.edd_syntax.proofs.TreeRows.{block_is, switch_is}
use Rattle.edd_syntax.proofs.version.+version_statements.Goals as goal

pub in_statement-returns-in-Block : goal.in_statement-returns-in-Block
in_statement-returns-in-Block t c =
    c.in_body.ensures
    ∙ ap (λ xs. body_names_it (body_from (map numbered_part xs))) c.deref.ensures.value
    ∙ ap (λ s. one_names_it (stmt_expressions s))
    (sym (block_is (λ r. r) c.args.s.now _ c.in-Block.is))

pub in_statement-returns-else-in_expr-4 : goal.in_statement-returns-else-in_expr-4
in_statement-returns-else-in_expr-4 t c =
    c.in_body-else-in_expr-4.ensures
    ∙ ap (λ xs. body_names_it (body_from (map numbered_part xs)))
    c.deref-else-in_expr-4.ensures.value
    ∙ ap (λ b. b || body_names_it (body_from (map numbered_part c.in-Switch.parts.items)))
    (sym (sym c.in_expr-in-Switch.ensures ∙ c.if-in_expr-4.false))
    ∙ ap (λ s. one_names_it (stmt_expressions s))
    (sym (switch_is (λ r. r) c.args.s.now _ _ c.in-Switch.is))
