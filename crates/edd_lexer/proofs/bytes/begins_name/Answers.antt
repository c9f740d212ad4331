use Rattle.std.proofs.Common.{nat_eq, get_or, refl, arith}
use Rattle.edd_syntax.specs.Names.{begins_name}
use Rattle.edd_lexer.specs.declared.bytes.TheConstants.{CLASSES}
use Rattle.edd_lexer.proofs.ByteTables.{agree_below, agree_on_bytes}
use Rattle.edd_lexer.proofs.bytes.begins_name.Goals as goal

pub returns : goal.returns
unfolding agree_below
returns c = agree_on_bytes (λ k. nat_eq (get_or CLASSES k 0) 97) begins_name refl c.args.b
    (omega arith)
