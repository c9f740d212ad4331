use Rattle.std.proofs.Common.{sym, subst}
use Rattle.edd_grammar.specs.KeptTokens.{Kept}
use Rattle.edd_parser.proofs.Parsed.{kept_tokens}
use Rattle.edd_token_reader.proofs.TokenTexts.{tokens_readable}
use Rattle.edd_parser.proofs.parser.read.Goals as goal

pub new-cursor-requires : goal.new-cursor-requires
new-cursor-requires c = tokens_readable c.args.text.now c.args.tokens.now c.requires

-- the cursor's tokens are those of the text
pub whole-requires : goal.whole-requires
whole-requires c = subst Kept (sym c.new-cursor.ensures)
    (kept_tokens c.args.text.now c.args.tokens.now c.requires)
