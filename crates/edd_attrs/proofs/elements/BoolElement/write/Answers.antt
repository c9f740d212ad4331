use Rattle.std.proofs.Common.{◌≡◌, ℕ, pos, arith, subst}
use Rattle.std.proofs.lemmas.Grind.{common_steps}
use Rattle.edd_syntax.specs.Attributes.{Number, bit}
use Rattle.edd_attrs.specs.Writing.{WritesRecord}
use Rattle.edd_attrs.proofs.elements.BoolElement.write.Goals as goal

pub returns-clause-sound : goal.returns-clause-sound
returns-clause-sound c =
    let e : c.from.result ≡ bit c.args.self.now = grind (arith, common_steps) in
    subst (λ (n : ℕ). WritesRecord c.args._table.now c.args.code.now (Number (pos n))
    c.args._table.now c.write_number.new.code) e
    (c.in_ok-write_number.ensures c.args._table.now)
