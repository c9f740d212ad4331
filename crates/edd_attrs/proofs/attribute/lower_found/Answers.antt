use Rattle.std.proofs.Common.{sym, subst}
use Rattle.std.specs.Prelude.{IsTrue, IfOk}
use Rattle.std.proofs.lemmas.Result.{IfOk-weaker}
use Rattle.edd_attrs.specs.Kept.{is_kept_row}
use Rattle.edd_attrs.specs.Lowered.{LowersTree, OverflowsTree}
use Rattle.edd_attrs.specs.Trees.{tree_at}
use Rattle.edd_code.specs.Units.{description_of}
use Rattle.edd_attrs.proofs.LoweredRows.{overflowing, lowered_means, lowered_strings, lowered_short, then_on_ok, kept_when_checked}
use Rattle.edd_attrs.proofs.attribute.lower_found.Goals as goal

pub lower_tree-result-requires : goal.lower_tree-result-requires
lower_tree-result-requires c =
    subst (λ t. IsTrue (is_kept_row t)) (sym (c.tree_found-tree.ensures
    (description_of c.args.checked.now) c.requires))
    (kept_when_checked (description_of c.args.checked.now) c.args.row c.args.checked.now.checked)

pub returns-then-is_err-clause-refused : goal.returns-then-is_err-clause-refused
returns-then-is_err-clause-refused c h =
    overflowing (description_of c.args.checked.now) c.args.checked.now.checked c.args.row
    c.args.table.now
    c.words.ensures.different
    (subst (OverflowsTree c.args.table.now) (c.tree_found-tree.ensures
    (description_of c.args.checked.now) c.requires)
    (c.lower_tree-result.ensures.refused h))

-- what the call ensures, of the description
abbrev lowered_here : (c : goal.Else-is_err)
    → IfOk c.lower_tree-result.result
    (λ code. LowersTree c.args.table.now (tree_at (description_of c.args.checked.now) c.args.row)
    c.lower_tree-result.new.table code.items)
lowered_here c =
    subst (λ t. IfOk c.lower_tree-result.result
    (λ code. LowersTree c.args.table.now t c.lower_tree-result.new.table code.items))
    (c.tree_found-tree.ensures (description_of c.args.checked.now) c.requires)
    c.lower_tree-result.ensures.sound

pub returns-else-is_err-clause-sound : goal.returns-else-is_err-clause-sound
returns-else-is_err-clause-sound c =
    IfOk-weaker c.lower_tree-result.result _ _ (λ code lowered more.
    lowered_means (description_of c.args.checked.now) c.args.checked.now.checked c.args.row
    c.args.table.now c.lower_tree-result.new.table code.items lowered c.words.ensures.few more)
    (lowered_here c)

pub returns-else-is_err-clause-strings : goal.returns-else-is_err-clause-strings
returns-else-is_err-clause-strings c =
    then_on_ok c.lower_tree-result.result (λ code lowered w.
    lowered_strings (description_of c.args.checked.now) c.args.checked.now.checked c.args.row
    c.args.table.now c.lower_tree-result.new.table code.items lowered w)
    (lowered_here c)

pub returns-else-is_err-clause-size : goal.returns-else-is_err-clause-size
returns-else-is_err-clause-size c =
    IfOk-weaker c.lower_tree-result.result _ _ (λ code lowered.
    lowered_short (description_of c.args.checked.now) c.args.checked.now.checked c.args.row
    c.args.table.now c.lower_tree-result.new.table code.items lowered c.words.ensures.few)
    (lowered_here c)
