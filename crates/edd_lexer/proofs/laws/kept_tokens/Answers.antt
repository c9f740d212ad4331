use Rattle.edd_lexer.proofs.Keeping.{tokens_kept}
use Rattle.edd_lexer.proofs.laws.kept_tokens.Goals as goal

pub returns : goal.returns
returns c = tokens_kept
