use Rattle.std.proofs.Common.{◌-◌, ◌∙◌, ap}
use Rattle.edd_syntax.specs.ItemView.{entry_of}
use Rattle.edd_syntax.specs.Size.{leaf}
use Rattle.edd_syntax.specs.TreeView.{path_of}
use Rattle.edd_name_rules.proofs.ValueNodes.{nodes_of_list}
use Rattle.edd_name_rules.proofs.values.spend_entries.Goals as goal

pub returns : goal.returns
returns c = c.spend_conds.ensures
    ∙ ap (λ n. c.args.budget - n) (nodes_of_list path_of (entry_of path_of) leaf c.args.all.now)
