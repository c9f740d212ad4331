use Rattle.std.proofs.Common.{◌≡◌, ◌+◌, ◌∙◌, ℕ, Some, ap}
use Rattle.edd_instructions.specs.Steps.{State}
use Rattle.edd_machine.specs.Running.{state_of}
use Rattle.edd_port.specs.Runs.{counted}
use Rattle.edd_port.specs.Turns.{turn_of}
use Rattle.edd_embed.specs.Sessions.{plain_turn, state_in}
use Rattle.edd_embed.proofs.Standing.{has_body, kept, opened_by, run_of_machine, session_of_machine}
use Rattle.edd_embed.proofs.running.advance_session.Goals as goal

pub keep-requires : goal.keep-requires
keep-requires c = kept c.args.image.now c.execute-count.new.machine c.execute-count.new.values
    c.execute-count.ensures.machine (c.execute-count.ensures.method c.resume.ensures.sort)

pub returns-clause-sound : goal.returns-clause-sound
returns-clause-sound c =
    let b = c.args.image.now in
    let m = c.execute-count.new.machine in
    let after = c.execute-count.new.values in
    let valid = c.in_ok-parts.ensures.sound.valid in
    let body = has_body b m after valid c.execute-count.ensures.machine.unit (c.execute-count.ensures.method c.resume.ensures.sort) in
    let stands : state_in b c.keep.new.session after ≡ Some (state_of b m after) =
    c.keep.ensures.stands b after body.row body.found body.unit in
    record {
      before = state_of b c.resume.new.machine c.args.values.now;
      stood = c.resume.ensures.stands;
      run = run_of_machine b c.resume.new.machine c.args.values.now valid
          (c.resume.ensures.machine c.if-not-resume.false);
      stands = stands ∙ ap (λ (s : State). Some s) c.execute-count.ensures.state;
      taken = c.keep.ensures.taken ∙ c.counted-session.ensures
          ∙ ap (λ (n : ℕ). counted (c.args.session.now.taken + n)) c.execute-count.ensures.count;
      turn = c.keep.ensures.turn
          ∙ ap (λ (s : State). plain_turn (turn_of s.status)) c.execute-count.ensures.state;
      is = session_of_machine b m after c.keep.new.session valid c.execute-count.ensures.machine
          stands;
    }

pub resume-requires-clause-opened : goal.resume-requires-clause-opened
resume-requires-clause-opened c = opened_by c.in_ok-parts.parts.unit c.open-machine.result
    c.open-machine.ensures.unit c.open-machine.ensures.state

pub execute-count-requires : goal.execute-count-requires
execute-count-requires c = c.resume.ensures.machine c.if-not-resume.false
