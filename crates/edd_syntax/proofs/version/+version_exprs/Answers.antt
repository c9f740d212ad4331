use Rattle.std.proofs.Common.{◌∙◌, ap, sym, map, ◌||◌}
use Rattle.edd_syntax.specs.Expression.{arguments_from}
use Rattle.edd_syntax.specs.LayoutVersion.{names_it, argument_names_it}
use Rattle.edd_syntax.specs.TreeView.{numbered_argument}
use Rattle.edd_syntax.proofs.TreeRows.{call_is}
use Rattle.edd_syntax.proofs.version.+version_exprs.Goals as goal

pub in_expr-returns-else-is_add_abort_method : goal.in_expr-returns-else-is_add_abort_method
in_expr-returns-else-is_add_abort_method t c =
    c.in_arguments.ensures
    ∙ ap (λ xs. argument_names_it (arguments_from (map numbered_argument xs)))
    c.deref-else-is_add_abort_method.ensures.value
    ∙ ap (λ b. b || argument_names_it
    (arguments_from (map numbered_argument c.in-Call.arguments.items)))
    (sym (sym c.is_add_abort_method.ensures ∙ c.if-is_add_abort_method.false))
    ∙ ap names_it (sym (call_is (λ r. r) c.args.e.now _ _ _ c.in-Call.is))
