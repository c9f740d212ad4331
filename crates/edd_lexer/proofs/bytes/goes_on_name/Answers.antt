use Rattle.std.proofs.Common.{get_or, refl, arith}
use Rattle.std.specs.Prelude.{nat_le}
use Rattle.edd_syntax.specs.Names.{goes_on_name}
use Rattle.edd_lexer.specs.declared.bytes.TheConstants.{CLASSES}
use Rattle.edd_lexer.proofs.ByteTables.{agree_below, agree_on_bytes}
use Rattle.edd_lexer.proofs.bytes.goes_on_name.Goals as goal

pub returns : goal.returns
unfolding agree_below
returns c = agree_on_bytes (λ k. nat_le 48 (get_or CLASSES k 0)) goes_on_name refl c.args.b
    (omega arith)
