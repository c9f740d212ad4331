use Rattle.std.proofs.Common.{◌==◌, ◌||◌, not, nat_eq, get_or, refl, arith}
use Rattle.edd_syntax.specs.Words.{backslash}
use Rattle.edd_lexer.specs.Bytes.{is_line_end}
use Rattle.edd_lexer.specs.Strings.{quote}
use Rattle.edd_lexer.specs.declared.strings.TheConstants.{STOPS}
use Rattle.edd_lexer.proofs.ByteTables.{agree_below, agree_on_bytes}
use Rattle.edd_lexer.proofs.strings.is_plain.Goals as goal

pub returns : goal.returns
unfolding agree_below
returns c = agree_on_bytes (λ k. not (nat_eq (get_or STOPS k 0) 33))
    (λ k. not (k == quote || k == backslash || is_line_end k)) refl c.args.b (omega arith)
