use Rattle.std.proofs.Common.{sym, ap, ◌∙◌, map, Some}
use Rattle.edd_syntax.specs.Item.{Request, Reply}
use Rattle.edd_syntax.specs.Conditional.{conds_from}
use Rattle.edd_syntax.specs.ItemView.{cond_of, data_item_of, transaction_part_of}
use Rattle.edd_syntax.specs.ResolvedTrees.{◌>>=◌, resolved_transaction_part}
use Rattle.edd_syntax.specs.TreeView.{path_of}
use Rattle.edd_name_meanings.specs.Directory.{read_by}
use Rattle.edd_names.proofs.braces.TransactionPartPathResolvePart.copy.Goals as goal

pub returns-in_ok-copy_conds-in-Request-clause-sound :
    goal.returns-in_ok-copy_conds-in-Request-clause-sound
returns-in_ok-copy_conds-in-Request-clause-sound c =
    let is = ap (transaction_part_of path_of) c.in-Request.is
    ∙ ap (λ xs. Request (conds_from (map (cond_of path_of (data_item_of path_of)) xs)))
    (sym c.deref.ensures.value) in
    ap (resolved_transaction_part (read_by c.args.names.now)) is
    ∙ ap (λ o. o >>= (λ x. Some (Request x))) c.in_ok-copy_conds-in-Request.ensures.sound

pub returns-in_ok-copy_conds-in-Reply-clause-sound :
    goal.returns-in_ok-copy_conds-in-Reply-clause-sound
returns-in_ok-copy_conds-in-Reply-clause-sound c =
    let is = ap (transaction_part_of path_of) c.in-Reply.is
    ∙ ap (λ xs. Reply (conds_from (map (cond_of path_of (data_item_of path_of)) xs)))
    (sym c.deref-in-Reply.ensures.value) in
    ap (resolved_transaction_part (read_by c.args.names.now)) is
    ∙ ap (λ o. o >>= (λ x. Some (Reply x))) c.in_ok-copy_conds-in-Reply.ensures.sound
