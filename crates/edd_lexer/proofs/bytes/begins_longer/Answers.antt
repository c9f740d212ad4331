use Rattle.std.proofs.Common.{◌==◌, ◌||◌, nat_eq, get_or, refl, arith}
use Rattle.std.specs.Char.{is_ascii_digit}
use Rattle.edd_lexer.specs.Strings.{quote}
use Rattle.edd_lexer.specs.declared.bytes.TheConstants.{CLASSES}
use Rattle.edd_lexer.proofs.ByteTables.{agree_below, agree_on_bytes}
use Rattle.edd_lexer.proofs.bytes.begins_longer.Goals as goal

pub returns : goal.returns
unfolding agree_below
returns c =
    agree_on_bytes (λ k. nat_eq (get_or CLASSES k 0) 47 || nat_eq (get_or CLASSES k 0) 48)
    (λ k. is_ascii_digit k || k == 46 || k == quote || k == 47 || k == 35) refl c.args.b
    (omega arith)
