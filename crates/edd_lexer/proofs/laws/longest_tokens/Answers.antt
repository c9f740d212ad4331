use Rattle.edd_lexer.proofs.Longest.{alone, longest}
use Rattle.edd_lexer.proofs.laws.longest_tokens.Goals as goal

pub returns-clause-alone : goal.returns-clause-alone
returns-clause-alone c = alone

pub returns-clause-longest : goal.returns-clause-longest
returns-clause-longest c = longest
