use Rattle.std.proofs.Common.{◌≡◌, None, ℤ, List, length, rules, option_map, sym, ap, subst, ◌∙◌}
use Rattle.edd_image.specs.Contents.{contents_in}
use Rattle.edd_syntax.specs.Answers.{answer_of, values_set}
use Rattle.edd_instructions.specs.AbortMethods.{answered_in}
use Rattle.edd_machine.specs.Types.{types_in}
use Rattle.edd_machine.specs.Running.{state_of, IsStateIn}
use Rattle.edd_port.specs.Faults.{answer_fault_of}
use Rattle.edd_port.specs.Refusals.{refusal, sets_of, without_sets}
use Rattle.edd_port.specs.Runs.{Run}
use Rattle.edd_port.proofs.Accepted.{asks, room, exist, ready, sets_first}
use Rattle.edd_port.proofs.Sets.{written}
use Rattle.edd_port.proofs.session.Session.answer.Goals as goal

pub make_sets-code-requires : goal.make_sets-code-requires
make_sets-code-requires c =
    let accepted : refusal (types_in c.self.inside.image.now) c.self.inside.machine.status
    (answer_of c.args.answer.now) ≡ None =
    sym c.fault_of_answer.ensures ∙ ap (option_map answer_fault_of) c.in_default.is in
    rw c.as_mut_slice.ensures.value (exist c.self.inside.image.now c.self.inside.machine
    c.self.inside.values.numbers.items (answer_of c.args.answer.now) c.self.invariant.1 accepted)

pub go_on-requires : goal.go_on-requires
go_on-requires c =
    let accepted : refusal (types_in c.self.inside.image.now) c.self.inside.machine.status
    (answer_of c.args.answer.now) ≡ None =
    sym c.fault_of_answer.ensures ∙ ap (option_map answer_fault_of) c.in_default.is in
    record {
      room = room c.self.inside.image.now c.self.inside.machine c.self.inside.values.numbers.items
          (answer_of c.args.answer.now) c.self.invariant.1 accepted;
    }

pub invariant_of-self : goal.invariant_of-self
invariant_of-self c =
    let b = c.self.inside.image.now in
    let m = c.self.inside.machine in
    let items = c.self.inside.values.numbers.items in
    let a = answer_of c.args.answer.now in
    let accepted : refusal (types_in b) m.status a ≡ None =
    sym c.fault_of_answer.ensures ∙ ap (option_map answer_fault_of) c.in_default.is in
    let count : length c.make_sets-code.new.values ≡ c.self.inside.values.numbers.len = search rules
    in
    let made : values_set items (sets_of a) ≡ c.make_sets-code.new.values =
    ap (λ (v : List ℤ). values_set v (sets_of a)) (sym c.as_mut_slice.ensures.value)
    ∙ sym c.make_sets-code.ensures.values in
    let asking = asks b m items a c.self.invariant.1 accepted in
    let there : IsStateIn b c.go_on.new.machine.unit
    (state_of b c.go_on.new.machine (values_set items (sets_of a))) =
    c.go_on.ensures.machine (values_set items (sets_of a)) asking.0
    (ready b m items a c.self.invariant.1 accepted c.make_sets-code.ensures.fits) asking.1 in (
      c.self.invariant.0,
      subst (λ (v : List ℤ). IsStateIn b c.go_on.new.machine.unit
          (state_of b c.go_on.new.machine v)) (made ∙ written _ _ items count) there,
      c.go_on.ensures.method c.self.invariant.2,
    )

pub returns-clause-sound : goal.returns-clause-sound
returns-clause-sound c =
    let b = c.self.inside.image.now in
    let m = c.self.inside.machine in
    let items = c.self.inside.values.numbers.items in
    let a = answer_of c.args.answer.now in
    let count : length c.make_sets-code.new.values ≡ c.self.inside.values.numbers.len = search rules
    in
    let made : c.make_sets-code.new.values ≡ values_set items (sets_of a) =
    c.make_sets-code.ensures.values
    ∙ ap (λ (v : List ℤ). values_set v (sets_of a)) c.as_mut_slice.ensures.value in
    ap (state_of b c.go_on.new.machine) (sym (written _ _ items count) ∙ made)
    ∙ c.go_on.ensures.state (values_set items (sets_of a))
    ∙ ap (λ code. (answered_in (contents_in b) (state_of b m (values_set items (sets_of a)))
    (without_sets code)).state) c.make_sets-code.ensures.code
    ∙ sets_first (contents_in b) (state_of b m items) a
    ∙ ap (λ (r : Run). (answered_in (contents_in r.image) r.state a).state) c.self.view_is
