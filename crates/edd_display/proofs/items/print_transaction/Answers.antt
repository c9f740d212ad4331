use Rattle.std.proofs.Common.{◌∙◌, not, ap, sym}
use Rattle.edd_display.proofs.Positions.{not_absent, three_printed}
use Rattle.edd_display.proofs.items.print_transaction.Goals as goal

pub returns-then-is_absent-clause-exists : goal.returns-then-is_absent-clause-exists
returns-then-is_absent-clause-exists g c =
    sym (ap not (sym c.is_absent.ensures ∙ c.if-is_absent.true))
    ∙ not_absent _ _ _ _ _ _ c.row_at-at.ensures c.in_ok-transaction.ensures.sound

pub returns-clause-exists : goal.returns-clause-exists
returns-clause-exists g c =
    sym (ap not (sym c.is_absent.ensures ∙ c.if-is_absent.false))
    ∙ not_absent _ _ _ _ _ _ c.row_at-at.ensures c.in_ok-transaction.ensures.sound

pub returns-clause-sound : goal.returns-clause-sound
returns-clause-sound g c =
    three_printed _ _ _ _ _ _ _ _ _
    (g.W.Write.contents c.args.out.now) (g.W.Write.contents c.print_found.new.out)
    (g.W.Write.contents c.print_row.new.out) (g.W.Write.contents c.print_row-2.new.out)
    c.row_at-at.ensures c.row_at-request_at.ensures c.row_at-reply_at.ensures
    c.in_ok-transaction.ensures.sound c.in_ok-print_found.ensures.sound
    c.in_ok-print_row.ensures.sound c.in_ok-print_row-2.ensures.sound
