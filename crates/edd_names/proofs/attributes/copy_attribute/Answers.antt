use Rattle.std.proofs.Common.{sym, ap, ◌∙◌, map, Some}
use Rattle.edd_syntax.specs.Conditional.{conds_from}
use Rattle.edd_syntax.specs.Item.{Items, Members}
use Rattle.edd_syntax.specs.ItemView.{attribute_of, cond_of, entry_of, item_of, member_of}
use Rattle.edd_syntax.specs.ResolvedTrees.{◌>>=◌, resolved_attribute}
use Rattle.edd_syntax.specs.TreeView.{path_of}
use Rattle.edd_name_meanings.specs.Directory.{read_by}
use Rattle.edd_names.proofs.attributes.copy_attribute.Goals as goal

pub returns-in_ok-copy_conds-in-Items-clause-sound :
    goal.returns-in_ok-copy_conds-in-Items-clause-sound
returns-in_ok-copy_conds-in-Items-clause-sound c =
    let is = ap (attribute_of path_of) c.in-Items.is
    ∙ ap (λ xs. Items (conds_from (map (cond_of path_of (entry_of path_of)) xs)))
    (sym c.deref-in-Items.ensures.value) in
    ap (resolved_attribute (read_by c.args.names.now) (item_of path_of c.args.item.now).sort)
    is
    ∙ ap (λ o. o >>= (λ x. Some (Items x))) c.in_ok-copy_conds-in-Items.ensures.sound

pub returns-in_ok-copy_parts-in-Members-clause-sound :
    goal.returns-in_ok-copy_parts-in-Members-clause-sound
returns-in_ok-copy_parts-in-Members-clause-sound c =
    let is = ap (attribute_of path_of) c.in-Members.is
    ∙ ap (λ xs. Members (map (member_of path_of) xs)) (sym c.deref-in-Members.ensures.value) in
    ap (resolved_attribute (read_by c.args.names.now) (item_of path_of c.args.item.now).sort)
    is
    ∙ ap (λ o. o >>= (λ x. Some (Members x))) c.in_ok-copy_parts-in-Members.ensures.sound
