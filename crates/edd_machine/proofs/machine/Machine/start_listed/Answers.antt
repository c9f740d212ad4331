use Rattle.std.proofs.Common.{sym, subst, ◌∙◌}
use Rattle.edd_instructions.specs.AbortMethods.{aborting}
use Rattle.edd_instructions.specs.Steps.{State}
use Rattle.edd_machine.specs.declared.code_unit.CodeUnit.{CodeUnit}
use Rattle.edd_machine.specs.Running.{state_of, start_of, IsStateIn}
use Rattle.edd_machine.proofs.Aborting.{aborting_there, aborted_there}
use Rattle.edd_machine.proofs.machine.Machine.start_listed.Goals as goal

pub returns-in-Some-clause-follows : goal.returns-in-Some-clause-follows
returns-in-Some-clause-follows c = λ values. c.start.ensures.state c.args.image.now values
    ∙ sym (c.in-Some.ensures.starts (state_of c.args.image.now c.args.self.now values))

pub returns-in-Some-clause-machine : goal.returns-in-Some-clause-machine
returns-in-Some-clause-machine c = λ values is.
    let b = c.args.image.now in
    let u = c.in-Some.unit in
    let rest = c.next_body.new.self in
    let s = state_of b (record c.args.self.now { abort_methods = rest }) values in
    subst (λ (t : State). IsStateIn b c.start.new.self.unit t) (sym (c.start.ensures.state b values))
    (subst (λ (v : CodeUnit). IsStateIn b v (aborting (start_of b u) rest s))
    (sym c.start.ensures.unit)
    (aborting_there b u rest s c.in-Some.ensures.valid c.in-Some.ensures.unit
    is.state.values))

pub returns-in-None-clause-machine : goal.returns-in-None-clause-machine
returns-in-None-clause-machine c = λ values is.
    aborted_there c.args.image.now c.args.self.now.unit c.next_body.new.self
    (state_of c.args.image.now c.args.self.now values) is
