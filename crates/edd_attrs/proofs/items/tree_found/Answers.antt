use Rattle.std.proofs.Common.{◌∙◌, sym, ap, map}
use Rattle.std.specs.Prelude.{option_map}
use Rattle.edd_syntax.specs.ItemView.{numbered_attribute}
use Rattle.edd_attrs.specs.Views.{tree_of}
use Rattle.edd_attrs.proofs.ItemTrees.{tree_found, tree_of_row}
use Rattle.edd_attrs.proofs.items.tree_found.Goals as goal

pub returns-in_err-attributes : goal.returns-in_err-attributes
returns-in_err-attributes c unit are = ap (option_map tree_of) c.from_residual.ensures
    ∙ ap (λ o. tree_found (option_map (λ a. map numbered_attribute a.now) o) c.args.row)
    (sym c.in_err-attributes.was)
    ∙ ap (λ o. tree_found o c.args.row) are ∙ tree_of_row unit c.args.row

pub returns : goal.returns
returns c unit are = c.tree_in.ensures
    ∙ ap (λ o. tree_found (option_map (λ a. map numbered_attribute a.now) o) c.args.row)
    (sym c.in_ok-attributes.was)
    ∙ ap (λ o. tree_found o c.args.row) are ∙ tree_of_row unit c.args.row
