use Rattle.std.proofs.Common.{ap, arith}
use Rattle.edd_loader.specs.declared.starts.Starts.{Starts}
use Rattle.edd_loader.proofs.RuleOrder.{valid_sections}
use Rattle.edd_loader.proofs.Spaces.{rooms}
use Rattle.edd_machine.proofs.rows.placed_unit.Goals as goal

pub overflow_add-start : goal.overflow_add-start
overflow_add-start c = omega (
  arith,
  rooms _ (valid_sections _ c.requires.valid),
  ap (λ (s : Starts). s.code) c.requires.starts,
)
