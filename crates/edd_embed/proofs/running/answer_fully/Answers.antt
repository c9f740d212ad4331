use Rattle.std.proofs.Common.{◌≡◌, ◌∙◌, Some, sym, ap, subst}
use Rattle.std.specs.Prelude.{option_map}
use Rattle.edd_syntax.specs.Answers.{Answer}
use Rattle.edd_machine.specs.Running.{state_of}
use Rattle.edd_port.specs.Faults.{answer_fault_of}
use Rattle.edd_port.proofs.Accepted.{exist, room}
use Rattle.edd_embed.specs.Playing.{answer_with}
use Rattle.edd_embed.specs.Sessions.{Answers, state_in}
use Rattle.edd_embed.proofs.Going.{answered_is, answers}
use Rattle.edd_embed.proofs.Standing.{has_body, kept, opened_by}
use Rattle.edd_embed.proofs.running.answer_fully.Goals as goal

pub take_settings-code-requires : goal.take_settings-code-requires
take_settings-code-requires c = exist c.args.image.now c.resume.new.machine c.args.values.now
    (answer_with c.args.given c.cut.result.0.now) (c.resume.ensures.machine c.if-not-resume.false)
    (sym c.fault_of_answer.ensures ∙ ap (option_map answer_fault_of)
    c.in_default-fault_of_answer.is)

pub go_on-requires : goal.go_on-requires
go_on-requires c = record {
  room = room c.args.image.now c.resume.new.machine c.args.values.now
      (answer_with c.args.given c.cut.result.0.now) (c.resume.ensures.machine c.if-not-resume.false)
      (sym c.fault_of_answer.ensures ∙ ap (option_map answer_fault_of)
      c.in_default-fault_of_answer.is);
}

pub keep-requires : goal.keep-requires
keep-requires c = kept c.args.image.now c.go_on.new.machine c.take_settings-code.new.values
    (answered_is c.args.image.now c.resume.new.machine c.go_on.new.machine c.args.values.now
    c.take_settings-code.new.values (answer_with c.args.given c.cut.result.0.now)
    (c.resume.ensures.machine c.if-not-resume.false)
    (sym c.fault_of_answer.ensures ∙ ap (option_map answer_fault_of)
    c.in_default-fault_of_answer.is)
    c.take_settings-code.ensures.fits c.take_settings-code.ensures.values
    c.take_settings-code.result c.take_settings-code.ensures.code c.go_on.ensures.state
    c.go_on.ensures.machine)
    (c.go_on.ensures.method c.resume.ensures.sort)

pub returns-clause-sound : goal.returns-clause-sound
returns-clause-sound c =
    let b = c.args.image.now in
    let n = c.go_on.new.machine in
    let after = c.take_settings-code.new.values in
    let is = answered_is c.args.image.now c.resume.new.machine c.go_on.new.machine c.args.values.now
    c.take_settings-code.new.values (answer_with c.args.given c.cut.result.0.now)
    (c.resume.ensures.machine c.if-not-resume.false)
    (sym c.fault_of_answer.ensures ∙ ap (option_map answer_fault_of)
    c.in_default-fault_of_answer.is)
    c.take_settings-code.ensures.fits c.take_settings-code.ensures.values
    c.take_settings-code.result c.take_settings-code.ensures.code c.go_on.ensures.state
    c.go_on.ensures.machine in
    let body = has_body b n after c.in-Some.ensures.sound.valid is.unit
    (c.go_on.ensures.method c.resume.ensures.sort) in
    let stands : state_in b c.keep.new.session after ≡ Some (state_of b n after) =
    c.keep.ensures.stands b after body.row body.found body.unit in
    subst (λ (a : Answer). Answers b c.args.session.now c.args.values.now a c.keep.new.session
    after) (ap (answer_with c.args.given) c.cut.ensures.front)
    (answers c.args.image.now c.resume.new.machine c.go_on.new.machine c.args.values.now
    c.take_settings-code.new.values (answer_with c.args.given c.cut.result.0.now)
    (c.resume.ensures.machine c.if-not-resume.false)
    (sym c.fault_of_answer.ensures ∙ ap (option_map answer_fault_of)
    c.in_default-fault_of_answer.is)
    c.take_settings-code.ensures.fits c.take_settings-code.ensures.values
    c.take_settings-code.result c.take_settings-code.ensures.code c.go_on.ensures.state
    c.go_on.ensures.machine
    c.args.session.now c.keep.new.session c.in-Some.ensures.sound.valid c.resume.ensures.stands stands
    c.keep.ensures.taken)

pub resume-requires-clause-opened : goal.resume-requires-clause-opened
resume-requires-clause-opened c = opened_by c.in-Some.parts.unit c.open-machine.result
    c.open-machine.ensures.unit c.open-machine.ensures.state
