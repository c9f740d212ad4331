use Rattle.std.proofs.Common.{◌≡◌, ◌∙◌, Some, sym, ap, subst}
use Rattle.edd_instructions.specs.Steps.{State}
use Rattle.edd_machine.specs.declared.code_unit.CodeUnit.{CodeUnit}
use Rattle.edd_machine.specs.Running.{IsUnitOf, state_of}
use Rattle.edd_embed.specs.Sessions.{state_in}
use Rattle.edd_embed.proofs.Standing.{machine_of_session}
use Rattle.edd_embed.proofs.sessions.resume.Goals as goal

pub returns-clause-stands : goal.returns-clause-stands
returns-clause-stands c = c.requires.read.stands c.args.values.now
    ∙ ap (λ (s : State). Some s) (sym (c.fill.ensures.state c.args.image.now c.args.values.now))

pub returns-clause-refused : goal.returns-clause-refused
returns-clause-refused c = λ no is.
    let b = c.args.image.now in
    let m = c.fill.new.machine in
    let stands : state_in b c.args.session.now c.args.values.now
    ≡ Some (state_of b m c.args.values.now) = c.requires.read.stands c.args.values.now
    ∙ ap (λ (s : State). Some s) (sym (c.fill.ensures.state b c.args.values.now)) in
    no (c.is_run.ensures.1 (machine_of_session b m c.args.values.now c.args.session.now
    (subst (λ (u : CodeUnit). IsUnitOf b u) (sym c.fill.ensures.unit) c.requires.read.unit)
    (c.fill.ensures.slots ∙ ap (λ (u : CodeUnit). u.slots) (sym c.fill.ensures.unit)) stands is))
