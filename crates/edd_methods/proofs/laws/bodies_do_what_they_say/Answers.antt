use Rattle.edd_methods.proofs.StatementTrees.{body_same, body_is_whole}
use Rattle.edd_methods.proofs.laws.bodies_do_what_they_say.Goals as goal

pub returns-clause-whole : goal.returns-clause-whole
returns-clause-whole c = body_is_whole

pub returns-clause-same : goal.returns-clause-same
returns-clause-same c text machine env block_of body means n = body_same text machine env block_of n
    body means
