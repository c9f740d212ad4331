use Rattle.std.proofs.Common.{arith, sym}
use Rattle.std.proofs.lemmas.Int.{ints}
use Rattle.edd_loader.proofs.ElementLaws.{no_element}
use Rattle.edd_loader.proofs.elements.element_at.Goals as goal

pub returns-then-number-lt0 : goal.returns-then-number-lt0
returns-then-number-lt0 c = sym (no_element c.args.bytes.now c.args.array c.args.number
    (record { below = λ i. (c.type_inv.bytes i).fits })
    (λ n small same. grind (arith, ints, small, same, c.if-number-lt0.true)))

pub returns-then-number-gt4294967295 : goal.returns-then-number-gt4294967295
returns-then-number-gt4294967295 c = sym (no_element c.args.bytes.now c.args.array c.args.number
    (record { below = λ i. (c.type_inv.bytes i).fits })
    (λ n small same. grind (arith, ints, small, same, c.if-number-gt4294967295.true)))
