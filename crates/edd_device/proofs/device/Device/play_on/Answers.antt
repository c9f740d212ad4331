use Rattle.std.proofs.Common.{◌≡◌, List, refl, sym, ap, subst, ◌∙◌}
use Rattle.edd_instructions.specs.declared.requests.Request.{Request}
use Rattle.edd_port.specs.declared.fault.PlayFault.{PlayFault}
use Rattle.edd_port.specs.declared.playing.Ending.TheVariants as endings
use Rattle.edd_port.specs.declared.turn.Turn.{Turn}
use Rattle.edd_port.specs.declared.turn.Turn.TheVariants as turn
use Rattle.edd_port.specs.Runs.{Run}
use Rattle.edd_port.specs.Turns.{turn_of, ending_of}
use Rattle.edd_port.proofs.ShownTurns.{asks_where_shown, rests_where_shown, shows_what_stands}
use Rattle.edd_device.specs.Attending.{others_of}
use Rattle.edd_device.specs.Trials.{IsRefused, LeadsTo, Others}
use Rattle.edd_device.proofs.Passing.{passed}
use Rattle.edd_device.proofs.Talking.{Talking, starts_to_talk, goes_on, meets_one, waits, stops}
use Rattle.edd_device.proofs.Trialling.{is_refused, answer_falls}
use Rattle.edd_device.proofs.device.Device.play_on.Goals as goal

pub loop-request-init : goal.loop-request-init
loop-request-init c = record {
  going = subst (λ (rs : List Request). Talking c.args.session.now
      (others_of c.args.self.now c.args.user.now) c.args.steps c.args.steps c.args.session.now
      (others_of c.args.self.now c.args.user.now) rs)
      (sym c.requires.none)
      (starts_to_talk c.args.session.now (others_of c.args.self.now c.args.user.now) c.args.steps
      c.requires.starts);
  instrument = refl;
  image = c.requires.image;
}

pub returns-in_err-is_met-in-Asks-clause-refused : goal.returns-in_err-is_met-in-Asks-clause-refused
returns-in_err-is_met-in-Asks-clause-refused c =
    let shown : turn.Asks c.in-Asks.request ≡ turn_of c.loop-request.session.state.status =
    sym c.in-Asks.is ∙ c.turn.ensures.turn in
    passed {E = PlayFault} c.from_residual-in_err-is_met-in-Asks.result
    c.in_err-is_met-in-Asks.field-0.0 (IsRefused c.args.session.now c.args.steps)
    c.from_residual-in_err-is_met-in-Asks.ensures.1
    (is_refused c.args.session.now c.args.steps c.loop-request.left c.loop-request.session
    c.loop-request.requests.items c.in-Asks.request c.in_err-is_met-in-Asks.field-0.0
    c.loop-request.invariant.going.going (asks_where_shown _ _ shown)
    c.in_err-is_met-in-Asks.ensures.refused)

pub returns-then-not-is_met-clause-sound : goal.returns-then-not-is_met-clause-sound
returns-then-not-is_met-clause-sound c =
    let shown : turn.Asks c.in-Asks.request ≡ turn_of c.loop-request.session.state.status =
    sym c.in-Asks.is ∙ c.turn.ensures.turn in
    let kept = c.in_ok-is_met-in-Asks.ensures.kept c.if-not-is_met.true in
    subst (λ (o : Others). LeadsTo c.args.session.now c.args.steps
    (others_of c.args.self.now c.args.user.now) c.meet.new.session o c.push.new.self.items
    endings.Waiting) (sym kept.1)
    (subst (λ (r : Run). LeadsTo c.args.session.now c.args.steps
    (others_of c.args.self.now c.args.user.now) r (others_of c.loop-request.self
    c.loop-request.user) c.push.new.self.items endings.Waiting) (sym kept.0)
    (subst (λ (rs : List Request). LeadsTo c.args.session.now c.args.steps
    (others_of c.args.self.now c.args.user.now) c.loop-request.session (others_of
    c.loop-request.self c.loop-request.user) rs endings.Waiting)
    (sym c.in_ok-push-in-Asks.ensures.items)
    (waits c.args.session.now (others_of c.args.self.now c.args.user.now) c.args.steps
    c.loop-request.left c.loop-request.session (others_of c.loop-request.self c.loop-request.user)
    c.loop-request.requests.items c.in-Asks.request c.loop-request.invariant.going
    (asks_where_shown _ _ shown))))

pub loop-request-smaller-else-not-is_met : goal.loop-request-smaller-else-not-is_met
loop-request-smaller-else-not-is_met c =
    let shown : turn.Asks c.in-Asks.request ≡ turn_of c.loop-request.session.state.status =
    sym c.in-Asks.is ∙ c.turn.ensures.turn in
    let taken = c.in_ok-is_met-in-Asks.ensures.taken c.if-not-is_met.false in
    answer_falls c.loop-request.left c.loop-request.session c.meet.new.session c.in-Asks.request
    (asks_where_shown _ _ shown) (record { request = c.in-Asks.request; answer = taken.0 }) taken.1

pub loop-request-preserved-else-not-is_met : goal.loop-request-preserved-else-not-is_met
loop-request-preserved-else-not-is_met c =
    let shown : turn.Asks c.in-Asks.request ≡ turn_of c.loop-request.session.state.status =
    sym c.in-Asks.is ∙ c.turn.ensures.turn in
    let taken = c.in_ok-is_met-in-Asks.ensures.taken c.if-not-is_met.false in
    record {
      going = subst (λ (rs : List Request). Talking c.args.session.now (others_of c.args.self.now
          c.args.user.now) c.args.steps
          c.loop-request.left c.meet.new.session (others_of c.meet.new.self c.meet.new.user) rs)
          (sym c.in_ok-push-in-Asks.ensures.items)
          (meets_one c.args.session.now (others_of c.args.self.now c.args.user.now) c.args.steps
          c.loop-request.left
          c.loop-request.session c.meet.new.session (others_of c.loop-request.self
          c.loop-request.user) (others_of c.meet.new.self c.meet.new.user)
          c.loop-request.requests.items
          c.in-Asks.request taken.0 c.loop-request.invariant.going
          (asks_where_shown _ _ shown) taken.1 taken.2);
      instrument = c.in_ok-is_met-in-Asks.ensures.instrument
          ∙ c.loop-request.invariant.instrument;
      image = c.in_ok-is_met-in-Asks.ensures.image ∙ c.loop-request.invariant.image
          ∙ sym c.in_ok-is_met-in-Asks.ensures.instrument;
    }

pub returns-then-left-eq0-clause-sound : goal.returns-then-left-eq0-clause-sound
returns-then-left-eq0-clause-sound c =
    let shown : turn.Spent ≡ turn_of c.loop-request.session.state.status = sym c.in-Spent.is
    ∙ c.turn.ensures.turn in
    stops c.args.session.now (others_of c.args.self.now c.args.user.now) c.args.steps
    c.loop-request.left
    c.loop-request.session (others_of c.loop-request.self c.loop-request.user)
    c.loop-request.requests.items endings.Spent c.loop-request.invariant.going
    (λ runs. c.if-left-eq0.true) (shows_what_stands _ turn.Spent shown)
    (ap ending_of (sym shown))

pub loop-request-preserved : goal.loop-request-preserved
loop-request-preserved c = record {
  going = goes_on c.args.session.now (others_of c.args.self.now c.args.user.now) c.args.steps
      c.loop-request.left
      c.execute_some-left.result c.loop-request.session c.execute_some-left.new.session (others_of
      c.loop-request.self c.loop-request.user)
      c.loop-request.requests.items
      c.loop-request.invariant.going c.execute_some-left.ensures;
  instrument = c.loop-request.invariant.instrument;
  image = c.execute_some-left.ensures.image ∙ c.loop-request.invariant.image;
}

pub returns-in-Ended-clause-sound : goal.returns-in-Ended-clause-sound
returns-in-Ended-clause-sound c =
    let shown : turn.Ended ≡ turn_of c.loop-request.session.state.status = sym c.in-Ended.is
    ∙ c.turn.ensures.turn in
    stops c.args.session.now (others_of c.args.self.now c.args.user.now) c.args.steps
    c.loop-request.left
    c.loop-request.session (others_of c.loop-request.self c.loop-request.user)
    c.loop-request.requests.items endings.Ended c.loop-request.invariant.going
    (λ runs. absurd (rests_where_shown _ turn.Ended shown (λ e. cc) runs))
    (shows_what_stands _ turn.Ended shown) (ap ending_of (sym shown))

pub returns-in-Aborted-clause-sound : goal.returns-in-Aborted-clause-sound
returns-in-Aborted-clause-sound c =
    let shown : turn.Aborted ≡ turn_of c.loop-request.session.state.status = sym c.in-Aborted.is
    ∙ c.turn.ensures.turn in
    stops c.args.session.now (others_of c.args.self.now c.args.user.now) c.args.steps
    c.loop-request.left
    c.loop-request.session (others_of c.loop-request.self c.loop-request.user)
    c.loop-request.requests.items endings.Aborted c.loop-request.invariant.going
    (λ runs. absurd (rests_where_shown _ turn.Aborted shown (λ e. cc) runs))
    (shows_what_stands _ turn.Aborted shown) (ap ending_of (sym shown))

pub returns-in-Trapped-clause-sound : goal.returns-in-Trapped-clause-sound
returns-in-Trapped-clause-sound c =
    let t : Turn = turn.Trapped c.in-Trapped.why in
    let shown : t ≡ turn_of c.loop-request.session.state.status = sym c.in-Trapped.is
    ∙ c.turn.ensures.turn in
    stops c.args.session.now (others_of c.args.self.now c.args.user.now) c.args.steps
    c.loop-request.left
    c.loop-request.session (others_of c.loop-request.self c.loop-request.user)
    c.loop-request.requests.items (endings.Trapped c.in-Trapped.why)
    c.loop-request.invariant.going
    (λ runs. absurd (rests_where_shown _ t shown (λ e. cc) runs)) (shows_what_stands _ t shown)
    (ap ending_of (sym shown))
