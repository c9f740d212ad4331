use Rattle.std.proofs.Common.{ℕ, pos, subst}
use Rattle.edd_syntax.specs.Attributes.{Number}
use Rattle.edd_attrs.specs.Writing.{WritesRecord}
use Rattle.edd_attrs.proofs.elements.HandlingElement.write.Goals as goal

pub returns-clause-sound : goal.returns-clause-sound
returns-clause-sound c =
    subst (λ (n : ℕ). WritesRecord c.args._table.now c.args.code.now (Number (pos n))
    c.args._table.now c.write_number.new.code) c.handling_number.ensures
    (c.in_ok-write_number.ensures c.args._table.now)
