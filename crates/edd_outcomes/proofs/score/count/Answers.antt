use Rattle.std.proofs.Common.{rules}
use Rattle.edd_outcomes.proofs.Counting.{each_once}
use Rattle.edd_outcomes.proofs.score.count.Goals as goal

pub returns-clause-all : goal.returns-clause-all
returns-clause-all c = each_once c.args.outcomes.now _ _ _ _ (search rules) (search rules)
    (search rules) (search rules)
