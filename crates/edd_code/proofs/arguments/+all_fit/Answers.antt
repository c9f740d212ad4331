use Rattle.edd_syntax.specs.TreeView.{numbered_argument}
use Rattle.edd_code.proofs.FewArguments.{too_many}
use Rattle.edd_code.proofs.arguments.+all_fit.Goals as goal

pub returns-in-len1-up-arguments : goal.returns-in-len1-up-arguments
returns-in-len1-up-arguments t c =
    too_many numbered_argument c.args.parameters.now c.args.arguments.now c.in-empty.len_below
    c.in-len1-up-arguments.len_at_least
