use Rattle.std.proofs.Common.{ap, ◌∙◌}
use Rattle.edd_machine.specs.declared.code_unit.CodeUnit.{CodeUnit}
use Rattle.edd_port.proofs.Openings.{opens_in}
use Rattle.edd_port.proofs.session.Session.start.Goals as goal

pub invariant_of-result : goal.invariant_of-result
invariant_of-result c =
    let valid = c.in-Some.ensures.valid in (
      valid,
      c.open.ensures.machine _ _ valid c.in-Some.ensures.unit
          (c.are_of.ensures.0 c.if-not-are_of.false),
      ap (λ (u : CodeUnit). u.sort) c.open.ensures.unit ∙ c.in-Some.ensures.sort,
    )

pub returns-clause-opens : goal.returns-clause-opens
returns-clause-opens c = opens_in _ _ c.in-Some.unit _ _ c.in-Some.ensures.valid
    c.in-Some.ensures.value (c.open.ensures.state _ _)
