use Rattle.edd_assembly.proofs.Counting.{fewer_within, none_lost}
use Rattle.edd_assembly.proofs.bounds.different_strings_count.Goals as goal

pub returns-clause-within : goal.returns-clause-within
returns-clause-within c xs ys within = fewer_within xs ys within

pub returns-clause-itself : goal.returns-clause-itself
returns-clause-itself c xs apart = none_lost xs apart
