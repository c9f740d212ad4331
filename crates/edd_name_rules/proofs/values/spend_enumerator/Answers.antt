use Rattle.std.proofs.Common.{◌-◌, ◌∙◌, ap}
use Rattle.edd_syntax.specs.ItemView.{enumerator_of}
use Rattle.edd_syntax.specs.Size.{leaf}
use Rattle.edd_syntax.specs.TreeView.{path_of}
use Rattle.edd_name_rules.proofs.ValueNodes.{nodes_of_cond}
use Rattle.edd_name_rules.proofs.values.spend_enumerator.Goals as goal

pub returns : goal.returns
returns c = c.spend_cond.ensures
    ∙ ap (λ n. c.args.budget - n) (nodes_of_cond path_of enumerator_of leaf c.args.c.now)
