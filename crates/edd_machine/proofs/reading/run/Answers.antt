use Rattle.std.proofs.Common.{◌≡◌, [], ℕ, List, length, Some, None, Ok, Err, arith, refl, sym, ap, subst, ◌∙◌}
use Rattle.std.proofs.lemmas.List.{append-nil}
use Rattle.edd_instructions.specs.declared.records.Record.{Record}
use Rattle.edd_instructions.specs.declared.records.Emitted.TheVariants as emitted
use Rattle.edd_image.specs.Contents.{contents_in}
use Rattle.edd_instructions.specs.Decoding.{instruction_at}
use Rattle.edd_instructions.specs.Reading.{environment_of, with_record}
use Rattle.edd_instructions.specs.Steps.{opening}
use Rattle.edd_machine.specs.declared.outcome.Outcome.TheVariants.{GoesOn, Gives as GivesRecord}
use Rattle.edd_machine.specs.Given.{Gives}
use Rattle.edd_machine.specs.Running.{running_unit, code_at}
use Rattle.edd_machine.proofs.Acting.{variable_there, values_counted}
use Rattle.edd_machine.proofs.Following.{Given, after, after_none, after_more, place_there, never_past, acts_there, is_shared, next_ahead, next_inside, given_on, state_on, state_behind, ahead, ahead_behind, ends_there, traps_there, fault_given}
use Rattle.edd_machine.proofs.Stepping.{code_inside, opened}
use Rattle.edd_machine.proofs.reading.run.Goals as goal

pub code_of-code-requires : goal.code_of-code-requires
code_of-code-requires c =
    rw c.bytes.ensures.sound (code_inside _ _ c.bytes.ensures.valid c.requires.unit)

pub loop-instruction-init : goal.loop-instruction-init
loop-instruction-init c =
    let start = opening (running_unit c.args.image.now c.args.unit) c.args.unit.slots
    c.args.values.now in
    rw (c.new-operands.ensures, c.new-records.ensures.items) (record {
      state = opened c.args.image.now c.args.unit start c.args.values.now c.bytes.ensures.valid
          c.requires.unit c.requires.values refl;
      gives = λ r g. subst (λ (x : Given). Gives (environment_of (contents_in c.args.image.now))
          start x) (sym (after_none r)) g;
    })

pub decode-requires : goal.decode-requires
decode-requires c =
    let same : c.code_of-code.result.now ≡ code_at c.args.image.now c.args.unit =
    c.code_of-code.ensures ∙ ap (λ (b : List ℕ). code_at b c.args.unit) c.bytes.ensures.sound in
    rw same (place_there c.args.image.now c.args.unit c.args.values.now c.loop-instruction.place
    c.loop-instruction.operands c.bytes.ensures.valid c.loop-instruction.invariant.state
    c.requires.sort)

pub perform-requires-clause-enough : goal.perform-requires-clause-enough
perform-requires-clause-enough c =
    let same : c.code_of-code.result.now ≡ code_at c.args.image.now c.args.unit =
    c.code_of-code.ensures ∙ ap (λ (b : List ℕ). code_at b c.args.unit) c.bytes.ensures.sound in
    let at : instruction_at (code_at c.args.image.now c.args.unit) c.loop-instruction.place
    ≡ Some (c.in-Some.instruction, c.in-Some.next) =
    ap (λ (code : List ℕ). instruction_at code c.loop-instruction.place) (sym same)
    ∙ sym c.decode.ensures.value ∙ c.in-Some.is in
    (acts_there c.args.image.now c.args.unit c.args.values.now c.loop-instruction.place
    c.loop-instruction.operands c.bytes.ensures.valid c.loop-instruction.invariant.state
    c.requires.sort c.in-Some.instruction c.in-Some.next at).enough

pub perform-requires-clause-full : goal.perform-requires-clause-full
perform-requires-clause-full c =
    let same : c.code_of-code.result.now ≡ code_at c.args.image.now c.args.unit =
    c.code_of-code.ensures ∙ ap (λ (b : List ℕ). code_at b c.args.unit) c.bytes.ensures.sound in
    let at : instruction_at (code_at c.args.image.now c.args.unit) c.loop-instruction.place
    ≡ Some (c.in-Some.instruction, c.in-Some.next) =
    ap (λ (code : List ℕ). instruction_at code c.loop-instruction.place) (sym same)
    ∙ sym c.decode.ensures.value ∙ c.in-Some.is in
    (acts_there c.args.image.now c.args.unit c.args.values.now c.loop-instruction.place
    c.loop-instruction.operands c.bytes.ensures.valid c.loop-instruction.invariant.state
    c.requires.sort c.in-Some.instruction c.in-Some.next at).full

pub perform-requires-clause-room : goal.perform-requires-clause-room
perform-requires-clause-room c =
    let same : c.code_of-code.result.now ≡ code_at c.args.image.now c.args.unit =
    c.code_of-code.ensures ∙ ap (λ (b : List ℕ). code_at b c.args.unit) c.bytes.ensures.sound in
    let at : instruction_at (code_at c.args.image.now c.args.unit) c.loop-instruction.place
    ≡ Some (c.in-Some.instruction, c.in-Some.next) =
    ap (λ (code : List ℕ). instruction_at code c.loop-instruction.place) (sym same)
    ∙ sym c.decode.ensures.value ∙ c.in-Some.is in
    (acts_there c.args.image.now c.args.unit c.args.values.now c.loop-instruction.place
    c.loop-instruction.operands c.bytes.ensures.valid c.loop-instruction.invariant.state
    c.requires.sort c.in-Some.instruction c.in-Some.next at).room

pub perform-requires-clause-shared : goal.perform-requires-clause-shared
perform-requires-clause-shared c =
    let same : c.code_of-code.result.now ≡ code_at c.args.image.now c.args.unit =
    c.code_of-code.ensures ∙ ap (λ (b : List ℕ). code_at b c.args.unit) c.bytes.ensures.sound in
    let at : instruction_at (code_at c.args.image.now c.args.unit) c.loop-instruction.place
    ≡ Some (c.in-Some.instruction, c.in-Some.next) =
    ap (λ (code : List ℕ). instruction_at code c.loop-instruction.place) (sym same)
    ∙ sym c.decode.ensures.value ∙ c.in-Some.is in
    is_shared c.args.image.now c.args.unit c.args.values.now c.loop-instruction.place
    c.loop-instruction.operands c.bytes.ensures.valid c.loop-instruction.invariant.state
    c.requires.sort c.in-Some.instruction c.in-Some.next at

pub perform-requires-clause-exists : goal.perform-requires-clause-exists
perform-requires-clause-exists c =
    let same : c.code_of-code.result.now ≡ code_at c.args.image.now c.args.unit =
    c.code_of-code.ensures ∙ ap (λ (b : List ℕ). code_at b c.args.unit) c.bytes.ensures.sound in
    let at : instruction_at (code_at c.args.image.now c.args.unit) c.loop-instruction.place
    ≡ Some (c.in-Some.instruction, c.in-Some.next) =
    ap (λ (code : List ℕ). instruction_at code c.loop-instruction.place) (sym same)
    ∙ sym c.decode.ensures.value ∙ c.in-Some.is in
    λ v e. variable_there _ _ _ v (acts_there c.args.image.now c.args.unit c.args.values.now
    c.loop-instruction.place c.loop-instruction.operands c.bytes.ensures.valid
    c.loop-instruction.invariant.state c.requires.sort c.in-Some.instruction c.in-Some.next at)
    e

pub perform-requires-clause-counted : goal.perform-requires-clause-counted
perform-requires-clause-counted c = values_counted _ _ c.bytes.ensures.valid c.requires.values

pub loop-instruction-smaller-in-GoesOn : goal.loop-instruction-smaller-in-GoesOn
loop-instruction-smaller-in-GoesOn c =
    let same : c.code_of-code.result.now ≡ code_at c.args.image.now c.args.unit =
    c.code_of-code.ensures ∙ ap (λ (b : List ℕ). code_at b c.args.unit) c.bytes.ensures.sound in
    let at : instruction_at (code_at c.args.image.now c.args.unit) c.loop-instruction.place
    ≡ Some (c.in-Some.instruction, c.in-Some.next) =
    ap (λ (code : List ℕ). instruction_at code c.loop-instruction.place) (sym same)
    ∙ sym c.decode.ensures.value ∙ c.in-Some.is in
    let more = ahead c.args.image.now c.args.unit c.args.values.now c.loop-instruction.place
    c.loop-instruction.operands c.bytes.ensures.valid c.loop-instruction.invariant.state
    c.requires.sort c.in-Some.instruction c.in-Some.next at c.in-GoesOn.to
    c.perform.new.operands c.in-GoesOn.ensures in
    let some = next_ahead c.args.image.now c.args.unit c.args.values.now c.loop-instruction.place
    c.loop-instruction.operands c.bytes.ensures.valid c.loop-instruction.invariant.state
    c.requires.sort c.in-Some.instruction c.in-Some.next at in
    let end = next_inside c.args.image.now c.args.unit c.args.values.now c.loop-instruction.place
    c.loop-instruction.operands c.bytes.ensures.valid c.loop-instruction.invariant.state
    c.requires.sort c.in-Some.instruction c.in-Some.next at in
    let long : length c.code_of-code.result.now ≡ length (code_at c.args.image.now c.args.unit) =
    ap length same in
    omega (arith, more, some, end, long)

pub loop-instruction-smaller : goal.loop-instruction-smaller
loop-instruction-smaller c =
    let same : c.code_of-code.result.now ≡ code_at c.args.image.now c.args.unit =
    c.code_of-code.ensures ∙ ap (λ (b : List ℕ). code_at b c.args.unit) c.bytes.ensures.sound in
    let at : instruction_at (code_at c.args.image.now c.args.unit) c.loop-instruction.place
    ≡ Some (c.in-Some.instruction, c.in-Some.next) =
    ap (λ (code : List ℕ). instruction_at code c.loop-instruction.place) (sym same)
    ∙ sym c.decode.ensures.value ∙ c.in-Some.is in
    let more = ahead_behind c.args.image.now c.args.unit c.args.values.now c.loop-instruction.place
    c.loop-instruction.operands c.bytes.ensures.valid c.loop-instruction.invariant.state
    c.requires.sort c.in-Some.instruction c.in-Some.next at c.in-Gives.to c.in-Gives.record
    c.perform.new.operands c.in-Gives.ensures in
    let some = next_ahead c.args.image.now c.args.unit c.args.values.now c.loop-instruction.place
    c.loop-instruction.operands c.bytes.ensures.valid c.loop-instruction.invariant.state
    c.requires.sort c.in-Some.instruction c.in-Some.next at in
    let end = next_inside c.args.image.now c.args.unit c.args.values.now c.loop-instruction.place
    c.loop-instruction.operands c.bytes.ensures.valid c.loop-instruction.invariant.state
    c.requires.sort c.in-Some.instruction c.in-Some.next at in
    let long : length c.code_of-code.result.now ≡ length (code_at c.args.image.now c.args.unit) =
    ap length same in
    omega (arith, more, some, end, long)

pub loop-instruction-preserved-in-GoesOn : goal.loop-instruction-preserved-in-GoesOn
loop-instruction-preserved-in-GoesOn c =
    let same : c.code_of-code.result.now ≡ code_at c.args.image.now c.args.unit =
    c.code_of-code.ensures ∙ ap (λ (b : List ℕ). code_at b c.args.unit) c.bytes.ensures.sound in
    let at : instruction_at (code_at c.args.image.now c.args.unit) c.loop-instruction.place
    ≡ Some (c.in-Some.instruction, c.in-Some.next) =
    ap (λ (code : List ℕ). instruction_at code c.loop-instruction.place) (sym same)
    ∙ sym c.decode.ensures.value ∙ c.in-Some.is in
    record {
      state = state_on c.args.image.now c.args.unit c.args.values.now c.loop-instruction.place
          c.loop-instruction.operands c.bytes.ensures.valid c.loop-instruction.invariant.state
          c.requires.sort c.in-Some.instruction c.in-Some.next at c.in-GoesOn.to
          c.perform.new.operands c.in-GoesOn.ensures;
      gives = λ r g. c.loop-instruction.invariant.gives r
          (given_on c.args.image.now c.args.unit c.args.values.now c.loop-instruction.place
          c.loop-instruction.operands c.bytes.ensures.valid c.loop-instruction.invariant.state
          c.requires.sort c.in-Some.instruction c.in-Some.next at (GoesOn c.in-GoesOn.to)
          c.perform.new.operands c.in-GoesOn.ensures r g);
    }

pub loop-instruction-preserved : goal.loop-instruction-preserved
loop-instruction-preserved c =
    let same : c.code_of-code.result.now ≡ code_at c.args.image.now c.args.unit =
    c.code_of-code.ensures ∙ ap (λ (b : List ℕ). code_at b c.args.unit) c.bytes.ensures.sound in
    let at : instruction_at (code_at c.args.image.now c.args.unit) c.loop-instruction.place
    ≡ Some (c.in-Some.instruction, c.in-Some.next) =
    ap (λ (code : List ℕ). instruction_at code c.loop-instruction.place) (sym same)
    ∙ sym c.decode.ensures.value ∙ c.in-Some.is in
    record {
      state = state_behind c.args.image.now c.args.unit c.args.values.now c.loop-instruction.place
          c.loop-instruction.operands c.bytes.ensures.valid c.loop-instruction.invariant.state
          c.requires.sort c.in-Some.instruction c.in-Some.next at c.in-Gives.to c.in-Gives.record
          c.perform.new.operands c.in-Gives.ensures;
      gives = λ r g. subst (λ (x : Given). Gives (environment_of (contents_in c.args.image.now))
          (opening (running_unit c.args.image.now c.args.unit) c.args.unit.slots c.args.values.now)
          x)
          (after_more c.loop-instruction.records.items c.in-Gives.record r
          ∙ ap (λ (records : List Record). after records r)
          (sym c.in_ok-push-in-Gives.ensures.items))
          (c.loop-instruction.invariant.gives (with_record (emitted.Record c.in-Gives.record) r)
          (given_on c.args.image.now c.args.unit c.args.values.now c.loop-instruction.place
          c.loop-instruction.operands c.bytes.ensures.valid c.loop-instruction.invariant.state
          c.requires.sort c.in-Some.instruction c.in-Some.next at
          (GivesRecord c.in-Gives.to c.in-Gives.record) c.perform.new.operands
          c.in-Gives.ensures r g));
    }

pub returns-in-Ends-clause-sound : goal.returns-in-Ends-clause-sound
returns-in-Ends-clause-sound c =
    let same : c.code_of-code.result.now ≡ code_at c.args.image.now c.args.unit =
    c.code_of-code.ensures ∙ ap (λ (b : List ℕ). code_at b c.args.unit) c.bytes.ensures.sound in
    let at : instruction_at (code_at c.args.image.now c.args.unit) c.loop-instruction.place
    ≡ Some (c.in-Some.instruction, c.in-Some.next) =
    ap (λ (code : List ℕ). instruction_at code c.loop-instruction.place) (sym same)
    ∙ sym c.decode.ensures.value ∙ c.in-Some.is in
    let g = c.loop-instruction.invariant.gives (Ok [])
    (ends_there c.args.image.now c.args.unit c.args.values.now c.loop-instruction.place
    c.loop-instruction.operands c.bytes.ensures.valid c.loop-instruction.invariant.state
    c.requires.sort c.in-Some.instruction c.in-Some.next at c.perform.new.operands
    c.in-Ends.ensures) in
    subst (λ (records : List Record). Gives (environment_of (contents_in c.args.image.now))
    (opening (running_unit c.args.image.now c.args.unit) c.args.unit.slots c.args.values.now)
    (Ok records)) (append-nil c.loop-instruction.records.items) g

pub returns-in-Traps-clause-refused : goal.returns-in-Traps-clause-refused
returns-in-Traps-clause-refused c =
    let same : c.code_of-code.result.now ≡ code_at c.args.image.now c.args.unit =
    c.code_of-code.ensures ∙ ap (λ (b : List ℕ). code_at b c.args.unit) c.bytes.ensures.sound in
    let at : instruction_at (code_at c.args.image.now c.args.unit) c.loop-instruction.place
    ≡ Some (c.in-Some.instruction, c.in-Some.next) =
    ap (λ (code : List ℕ). instruction_at code c.loop-instruction.place) (sym same)
    ∙ sym c.decode.ensures.value ∙ c.in-Some.is in
    let g = c.loop-instruction.invariant.gives (Err c.in-Traps.why)
    (traps_there c.args.image.now c.args.unit c.args.values.now c.loop-instruction.place
    c.loop-instruction.operands c.bytes.ensures.valid c.loop-instruction.invariant.state
    c.requires.sort c.in-Some.instruction c.in-Some.next at c.in-Traps.why
    c.perform.new.operands c.in-Traps.ensures) in
    fault_given _ _ c.fault_of.result c.in-Traps.why c.fault_of.ensures g

pub unreachable-requires : goal.unreachable-requires
unreachable-requires c =
    let same : c.code_of-code.result.now ≡ code_at c.args.image.now c.args.unit =
    c.code_of-code.ensures ∙ ap (λ (b : List ℕ). code_at b c.args.unit) c.bytes.ensures.sound in
    let nothing : instruction_at (code_at c.args.image.now c.args.unit) c.loop-instruction.place
    ≡ None = ap (λ (code : List ℕ). instruction_at code c.loop-instruction.place) (sym same)
    ∙ sym c.decode.ensures.value ∙ c.in_default.is in
    never_past c.args.image.now c.args.unit c.args.values.now c.loop-instruction.place
    c.loop-instruction.operands c.bytes.ensures.valid c.loop-instruction.invariant.state
    c.requires.sort nothing
