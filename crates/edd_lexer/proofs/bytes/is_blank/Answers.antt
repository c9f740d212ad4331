use Rattle.std.proofs.Common.{nat_eq, get_or, refl, arith}
use Rattle.edd_lexer.specs.Bytes.{is_blank}
use Rattle.edd_lexer.specs.declared.bytes.TheConstants.{CLASSES}
use Rattle.edd_lexer.proofs.ByteTables.{agree_below, agree_on_bytes}
use Rattle.edd_lexer.proofs.bytes.is_blank.Goals as goal

pub returns-else-b-eq32 : goal.returns-else-b-eq32
unfolding agree_below
returns-else-b-eq32 c = agree_on_bytes (λ k. nat_eq (get_or CLASSES k 0) 45) is_blank refl c.args.b
    (omega arith)
