use Rattle.edd_methods.proofs.StatementTrees.{statement_same, statement_is_whole}
use Rattle.edd_methods.proofs.laws.statements_do_what_they_say.Goals as goal

pub returns-clause-whole : goal.returns-clause-whole
returns-clause-whole c = statement_is_whole

pub returns-clause-same : goal.returns-clause-same
returns-clause-same c text machine env block_of x means n = statement_same text machine env block_of
    n x means
