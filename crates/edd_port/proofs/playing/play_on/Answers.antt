use Rattle.std.proofs.Common.{rules, ℕ, ◌≡◌, ◌<◌, ◌+◌, [], List, length, map, drop, None, sym, ap, subst, ◌∙◌, arith}
use Rattle.std.proofs.Math.Seq.{drop-length}
use Rattle.std.proofs.lemmas.List.{length-map}
use Rattle.edd_syntax.specs.Answers.{Answer, answer_of, answer_fault}
use Rattle.edd_instructions.specs.declared.records.Status.{Status}
use Rattle.edd_instructions.specs.declared.records.Status.TheVariants.{Asking}
use Rattle.edd_port.specs.declared.turn.Turn.{Turn}
use Rattle.edd_port.specs.declared.turn.Turn.TheVariants as turn
use Rattle.edd_port.specs.Refusals.{refusal}
use Rattle.edd_port.specs.Runs.{environment}
use Rattle.edd_port.specs.Turns.{turn_of, ending_of}
use Rattle.edd_port.proofs.Accepted.{taken}
use Rattle.edd_port.proofs.Playings.{Playing, begins, executed, answers_one, answer_falls, waits, stops, is_bad}
use Rattle.edd_port.proofs.ShownTurns.{asks_where_shown, rests_where_shown, shows_what_stands, of_refused, one_mapped}
use Rattle.edd_port.proofs.playing.play_on.Goals as goal

pub loop-request-init : goal.loop-request-init
loop-request-init c = subst (λ requests. Playing c.args.session.now c.args.steps c.args.steps
    c.args.session.now (map answer_of c.args.answers.now) 0 requests) (sym c.requires)
    (begins c.args.session.now c.args.steps (map answer_of c.args.answers.now))

pub returns-then-next-answers : goal.returns-then-next-answers
returns-then-next-answers c =
    let all : List Answer = map answer_of c.args.answers.now in
    let shown : turn.Asks c.in-Asks.request ≡ turn_of c.loop-request.session.state.status =
    sym c.in-Asks.is ∙ c.turn.ensures.turn in
    let none : drop c.loop-request.next all ≡ [] =
    ap (λ (n : ℕ). drop n all) (c.if-next-answers.true
    ∙ sym (length-map c.args.answers.now answer_of)) ∙ drop-length all in
    let p = waits _ _ _ _ _ _ _ c.in-Asks.request c.loop-request.invariant
    (asks_where_shown _ _ shown) none in
    record {
      requests = p.requests_made ∙ sym c.in_ok-push-in-Asks.ensures.items;
      state = p.state;
      ending = p.ending ∙ ap ending_of (sym shown);
      fault = search rules;
    }

pub returns-in-Err-clause-fault : goal.returns-in-Err-clause-fault
returns-in-Err-clause-fault c =
    let is = c.loop-request.invariant in
    let answer : Answer = answer_of c.index-answers-next.result in
    let shown : turn.Asks c.in-Asks.request ≡ turn_of c.loop-request.session.state.status =
    sym c.in-Asks.is ∙ c.turn.ensures.turn in
    let asks : c.loop-request.session.state.status ≡ Asking c.in-Asks.request =
    asks_where_shown _ _ shown in
    let more : c.loop-request.next < length c.args.answers.now =
    omega (arith, is.within, length-map c.args.answers.now answer_of, c.if-next-answers.false)
    in
    let here = one_mapped answer_of c.args.answers.now c.loop-request.next
    c.index-answers-next.result more c.index-answers-next.is in
    let refused = c.in-Err.ensures.refused
    ∙ ap (λ (st : Status). refusal (environment c.loop-request.session.image).types st answer)
    asks
    ∙ ap (λ b. refusal (environment b).types (Asking c.in-Asks.request) answer) is.image in
    of_refused c.fault_of_refused.result _
    (answer_fault (environment c.args.session.now.image).types answer) _
    c.fault_of_refused.ensures refused
    (λ f bad. is_bad _ _ _ _ _ _ _ c.in-Asks.request answer f is asks here bad)

pub loop-request-preserved-in-Asks : goal.loop-request-preserved-in-Asks
loop-request-preserved-in-Asks c =
    let is = c.loop-request.invariant in
    let answer : Answer = answer_of c.index-answers-next.result in
    let shown : turn.Asks c.in-Asks.request ≡ turn_of c.loop-request.session.state.status =
    sym c.in-Asks.is ∙ c.turn.ensures.turn in
    let asks : c.loop-request.session.state.status ≡ Asking c.in-Asks.request =
    asks_where_shown _ _ shown in
    let more : c.loop-request.next < length c.args.answers.now =
    omega (arith, is.within, length-map c.args.answers.now answer_of, c.if-next-answers.false)
    in
    let counted : c.loop-request.next < length (map answer_of c.args.answers.now) =
    omega (arith, more, length-map c.args.answers.now answer_of) in
    let here = one_mapped answer_of c.args.answers.now c.loop-request.next
    c.index-answers-next.result more c.index-answers-next.is in
    let valid = (taken (environment c.loop-request.session.image).types
    c.loop-request.session.state.status answer (sym c.in_default.ensures.refused)).2 in
    let valid_there : answer_fault (environment c.args.session.now.image).types answer ≡ None =
    subst (λ b. answer_fault (environment b).types answer ≡ None) is.image valid in
    let p = answers_one _ _ _ _ _ _ _ _ c.in-Asks.request answer is asks counted here valid_there
    c.in_default.ensures.image c.in_default.ensures.sound in
    subst (λ requests. Playing c.args.session.now c.args.steps c.loop-request.left c.answer.new.self
    (map answer_of c.args.answers.now) (c.loop-request.next + 1) requests)
    (sym c.in_ok-push-in-Asks.ensures.items) p

pub loop-request-smaller-in-Asks : goal.loop-request-smaller-in-Asks
loop-request-smaller-in-Asks c =
    let shown : turn.Asks c.in-Asks.request ≡ turn_of c.loop-request.session.state.status =
    sym c.in-Asks.is ∙ c.turn.ensures.turn in
    answer_falls c.loop-request.left c.loop-request.session c.answer.new.self c.in-Asks.request
    (answer_of c.index-answers-next.result) (asks_where_shown _ _ shown) c.in_default.ensures.sound

pub returns-then-left-eq0 : goal.returns-then-left-eq0
returns-then-left-eq0 c =
    let shown : turn.Spent ≡ turn_of c.loop-request.session.state.status = sym c.in-Spent.is
    ∙ c.turn.ensures.turn in
    let p = stops _ _ _ _ _ _ _ c.loop-request.invariant (λ runs. c.if-left-eq0.true)
    (shows_what_stands _ turn.Spent shown) in
    record {
      requests = p.requests_made;
      state = p.state;
      ending = p.ending
          ∙ ap ending_of (sym shown);
      fault = search rules;
    }

pub loop-request-preserved : goal.loop-request-preserved
loop-request-preserved c = executed _ _ _ _ _ _ _ _ _ c.loop-request.invariant
    c.execute_some-left.ensures

pub returns-in-Ended : goal.returns-in-Ended
returns-in-Ended c =
    let shown : turn.Ended ≡ turn_of c.loop-request.session.state.status = sym c.in-Ended.is
    ∙ c.turn.ensures.turn in
    let p = stops _ _ _ _ _ _ _ c.loop-request.invariant
    (λ runs. absurd (rests_where_shown _ turn.Ended shown (λ e. cc) runs))
    (shows_what_stands _ turn.Ended shown) in
    record {
      requests = p.requests_made;
      state = p.state;
      ending = p.ending
          ∙ ap ending_of (sym shown);
      fault = search rules;
    }

pub returns-in-Aborted : goal.returns-in-Aborted
returns-in-Aborted c =
    let shown : turn.Aborted ≡ turn_of c.loop-request.session.state.status = sym c.in-Aborted.is
    ∙ c.turn.ensures.turn in
    let p = stops _ _ _ _ _ _ _ c.loop-request.invariant
    (λ runs. absurd (rests_where_shown _ turn.Aborted shown (λ e. cc) runs))
    (shows_what_stands _ turn.Aborted shown) in
    record {
      requests = p.requests_made;
      state = p.state;
      ending = p.ending
          ∙ ap ending_of (sym shown);
      fault = search rules;
    }

pub returns-in-Trapped : goal.returns-in-Trapped
returns-in-Trapped c =
    let t : Turn = turn.Trapped c.in-Trapped.why in
    let shown : t ≡ turn_of c.loop-request.session.state.status = sym c.in-Trapped.is
    ∙ c.turn.ensures.turn in
    let p = stops _ _ _ _ _ _ _ c.loop-request.invariant
    (λ runs. absurd (rests_where_shown _ t shown (λ e. cc) runs)) (shows_what_stands _ t shown)
    in
    record {
      requests = p.requests_made;
      state = p.state;
      ending = p.ending
          ∙ ap ending_of (sym shown);
      fault = search rules;
    }
