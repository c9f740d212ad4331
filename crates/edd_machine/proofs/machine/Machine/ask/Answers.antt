use Rattle.std.proofs.Common.{rules, ◌≡◌, ap, sym, ◌∙◌, ℕ, pos, arith}
use Rattle.edd_syntax.specs.Builtins.{numbers_taken}
use Rattle.edd_syntax.proofs.KnownByNumber.{few_numbers}
use Rattle.edd_instructions.specs.declared.requests.Request.{Request}
use Rattle.edd_instructions.specs.Requests.{request_of}
use Rattle.edd_instructions.specs.Steps.{ask_for, ask_with}
use Rattle.edd_machine.specs.Running.{state_of}
use Rattle.edd_machine.proofs.Acting.{asks_one, asks_two, effect_same, takes_top}
use Rattle.edd_machine.proofs.machine.Machine.ask.Goals as goal

pub returns-in-1-clause-acts : goal.returns-in-1-clause-acts
returns-in-1-clause-acts c = λ b values.
    let s = state_of b c.args.self.now values in
    let t = state_of b c.take_number-number.new.self values in
    let one : numbers_taken c.args.ask.kind ≡ 1 = sym c.numbers_taken.ensures ∙ c.in-1.is in
    effect_same _ _ _ _ _ (ap (λ (n : ℕ). ask_with n c.args.ask c.args.next s) one
    ∙ asks_one s t c.args.next _ (λ x. request_of c.args.ask x (pos 0))
    (takes_top b c.args.self.now c.take_number-number.new.self values _
    c.take_number-number.ensures.taken c.take_number-number.ensures.others (search rules))
    ∙ ap (λ (r : Request). ask_for t c.args.next t.operands r) (sym c.request-in-1.ensures))
    (c.wait-in-1.ensures.acts b values)

pub returns-in_default-clause-acts : goal.returns-in_default-clause-acts
returns-in_default-clause-acts c = λ b values.
    let s = state_of b c.args.self.now values in
    let t = state_of b c.take_number-second.new.self values in
    let u = state_of b c.take_number-first.new.self values in
    let two : numbers_taken c.args.ask.kind ≡ 2 = omega
    (arith, few_numbers c.args.ask.kind, c.numbers_taken.ensures, c.in_default) in
    effect_same _ _ _ _ _ (ap (λ (n : ℕ). ask_with n c.args.ask c.args.next s) two
    ∙ asks_two s t u c.args.next _ _ (request_of c.args.ask)
    (takes_top b c.args.self.now c.take_number-second.new.self values _
    c.take_number-second.ensures.taken c.take_number-second.ensures.others (search rules))
    (takes_top b c.take_number-second.new.self c.take_number-first.new.self values _
    c.take_number-first.ensures.taken c.take_number-first.ensures.others (search rules))
    ∙ ap (λ (r : Request). ask_for u c.args.next u.operands r) (sym c.request-in_default.ensures))
    (c.wait-in_default.ensures.acts b values)
