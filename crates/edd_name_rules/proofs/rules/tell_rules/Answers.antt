use Rattle.edd_name_rules.proofs.RulesForgotten.{rules_are}
use Rattle.edd_name_rules.proofs.rules.tell_rules.Goals as goal

pub returns-clause-rules : goal.returns-clause-rules
returns-clause-rules c = rules_are c.args.items.now
