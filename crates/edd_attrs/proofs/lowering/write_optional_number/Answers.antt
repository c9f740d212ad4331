use Rattle.std.proofs.Common.{ℕ, List, Option, [], sym, subst}
use Rattle.std.specs.Prelude.{OnOk}
use Rattle.edd_syntax.specs.Words.{Words}
use Rattle.edd_code.specs.Written.{WritesBlock}
use Rattle.edd_attrs.specs.TreeBlocks.{IsTreeBlock}
use Rattle.edd_attrs.specs.Trees as trees
use Rattle.edd_attrs.proofs.Written.{no_block}
use Rattle.edd_attrs.proofs.lowering.write_optional_number.Goals as goal

pub returns-in-None : goal.returns-in-None
unfolding IsTreeBlock
returns-in-None c table =
    subst (λ (o : Option ℕ). WritesBlock table c.args.code.now []
    (λ numbered b. IsTreeBlock numbered (trees.Transaction o) b) table c.args.code.now)
    (sym c.in-None.is) (no_block table c.args.code.now)

pub returns-in-Some : goal.returns-in-Some
unfolding IsTreeBlock
returns-in-Some c =
    subst (λ (o : Option ℕ). OnOk c.write_number.result ((table : List Words)
    → WritesBlock table c.args.code.now []
    (λ numbered b. IsTreeBlock numbered (trees.Transaction o) b) table c.write_number.new.code))
    (sym c.in-Some.is) c.write_number.ensures
