use Rattle.std.proofs.Common.{◌≡◌, ℕ, List, Some, None, sym, ap, ◌∙◌}
use Rattle.edd_instructions.specs.Decoding.{instruction_at}
use Rattle.edd_machine.specs.Running.{code_at, state_of}
use Rattle.edd_machine.proofs.Stepping.{code_inside, place_inside, instruction_there, can_act, acted, stepped, again}
use Rattle.edd_machine.proofs.machine.Machine.step.Goals as goal

pub code_of-code-requires : goal.code_of-code-requires
code_of-code-requires c =
    rw c.bytes.ensures.sound (code_inside _ _ c.bytes.ensures.valid c.requires.machine.unit)

pub decode-requires : goal.decode-requires
decode-requires c =
    let same : c.code_of-code.result.now ≡ code_at c.args.image.now c.args.self.now.unit =
    c.code_of-code.ensures ∙ ap (λ (b : List ℕ). code_at b c.args.self.now.unit)
    c.bytes.ensures.sound in
    rw same (place_inside c.args.image.now c.args.self.now.unit
    (state_of c.args.image.now c.args.self.now c.args.values.now) c.bytes.ensures.valid c.requires.machine
    c.requires.running)

pub execute-requires-clause-ready : goal.execute-requires-clause-ready
execute-requires-clause-ready c =
    let same : c.code_of-code.result.now ≡ code_at c.args.image.now c.args.self.now.unit =
    c.code_of-code.ensures ∙ ap (λ (b : List ℕ). code_at b c.args.self.now.unit)
    c.bytes.ensures.sound in
    let at : instruction_at (code_at c.args.image.now c.args.self.now.unit) c.args.self.now.place
    ≡ Some (c.in-Some.instruction, c.in-Some.next) =
    ap (λ (code : List ℕ). instruction_at code c.args.self.now.place) (sym same)
    ∙ sym c.decode.ensures.value ∙ c.in-Some.is in
    can_act c.args.image.now c.args.self.now.unit (state_of c.args.image.now c.args.self.now c.args.values.now)
    c.bytes.ensures.valid c.requires.machine c.requires.running (
      c.in-Some.instruction,
      c.in-Some.next,
    ) at

pub unreachable-requires : goal.unreachable-requires
unreachable-requires c =
    let same : c.code_of-code.result.now ≡ code_at c.args.image.now c.args.self.now.unit =
    c.code_of-code.ensures ∙ ap (λ (b : List ℕ). code_at b c.args.self.now.unit)
    c.bytes.ensures.sound in
    let nothing : instruction_at (code_at c.args.image.now c.args.self.now.unit)
    c.args.self.now.place ≡ None =
    ap (λ (code : List ℕ). instruction_at code c.args.self.now.place) (sym same)
    ∙ sym c.decode.ensures.value ∙ c.in-None.is in
    instruction_there c.args.image.now c.args.self.now.unit
    (state_of c.args.image.now c.args.self.now c.args.values.now) c.bytes.ensures.valid c.requires.machine
    c.requires.running nothing

pub returns-clause-machine : goal.returns-clause-machine
returns-clause-machine c =
    let same : c.code_of-code.result.now ≡ code_at c.args.image.now c.args.self.now.unit =
    c.code_of-code.ensures ∙ ap (λ (b : List ℕ). code_at b c.args.self.now.unit)
    c.bytes.ensures.sound in
    let at : instruction_at (code_at c.args.image.now c.args.self.now.unit) c.args.self.now.place
    ≡ Some (c.in-Some.instruction, c.in-Some.next) =
    ap (λ (code : List ℕ). instruction_at code c.args.self.now.place) (sym same)
    ∙ sym c.decode.ensures.value ∙ c.in-Some.is in
    c.follow.ensures.machine c.execute.new.values
    (again c.args.image.now c.args.self.now c.execute.new.self c.args.values.now
    c.execute.new.values c.bytes.ensures.valid c.requires.machine c.requires.running
    c.execute.ensures.unit
    (acted c.args.image.now c.args.self.now c.execute.new.self c.args.values.now
    c.execute.new.values (
      c.in-Some.instruction,
      c.in-Some.next,
    ) c.requires.running at c.execute.ensures.acts))

pub returns-clause-step : goal.returns-clause-step
returns-clause-step c =
    let same : c.code_of-code.result.now ≡ code_at c.args.image.now c.args.self.now.unit =
    c.code_of-code.ensures ∙ ap (λ (b : List ℕ). code_at b c.args.self.now.unit)
    c.bytes.ensures.sound in
    let at : instruction_at (code_at c.args.image.now c.args.self.now.unit) c.args.self.now.place
    ≡ Some (c.in-Some.instruction, c.in-Some.next) =
    ap (λ (code : List ℕ). instruction_at code c.args.self.now.place) (sym same)
    ∙ sym c.decode.ensures.value ∙ c.in-Some.is in
    stepped c.args.image.now c.args.self.now c.execute.new.self c.follow.new.self c.args.values.now
    c.execute.new.values
    (acted c.args.image.now c.args.self.now c.execute.new.self c.args.values.now
    c.execute.new.values (
      c.in-Some.instruction,
      c.in-Some.next,
    ) c.requires.running at c.execute.ensures.acts)
    (c.follow.ensures.follows c.execute.new.values) c.follow.ensures.emitted
