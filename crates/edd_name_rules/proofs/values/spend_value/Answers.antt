use Rattle.std.proofs.Common.{◌-◌, ◌∙◌, ap}
use Rattle.edd_syntax.specs.Size.{nodes}
use Rattle.edd_syntax.specs.TreeView.{path_of, expr_of}
use Rattle.edd_name_rules.proofs.ValueNodes.{nodes_of_cond}
use Rattle.edd_name_rules.proofs.values.spend_value.Goals as goal

pub returns : goal.returns
returns c = c.spend_cond.ensures
    ∙ ap (λ n. c.args.budget - n) (nodes_of_cond path_of (expr_of path_of) nodes c.args.c.now)
