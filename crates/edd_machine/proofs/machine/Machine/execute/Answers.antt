use Rattle.std.proofs.Common.{◌≡◌, Some, refl, ap, ◌∙◌}
use Rattle.edd_image.specs.Contents.{contents_in}
use Rattle.edd_instructions.specs.Reading.{environment_of}
use Rattle.edd_instructions.specs.Steps.{Effect, act}
use Rattle.edd_machine.specs.Outcomes.{comes_to}
use Rattle.edd_machine.specs.Running.{state_of}
use Rattle.edd_machine.proofs.Acting.{ask_acts, effect_same, shared, variable_there, values_counted, comes_over}
use Rattle.edd_machine.proofs.machine.Machine.execute.Goals as goal

pub perform-outcome-requires-clause-shared : goal.perform-outcome-requires-clause-shared
perform-outcome-requires-clause-shared c = shared c.args.instruction c.in_default.not-Store
    c.in_default.not-GetLocal c.in_default.not-SetLocal c.in_default.not-Ask c.in_default.not-Abort
    c.in_default.not-AddAbortMethod

pub perform-outcome-requires-clause-exists : goal.perform-outcome-requires-clause-exists
perform-outcome-requires-clause-exists c = λ v e. variable_there _ _ _ v c.requires.ready e

pub perform-outcome-requires-clause-counted : goal.perform-outcome-requires-clause-counted
perform-outcome-requires-clause-counted c = values_counted _ _ c.requires.valid c.requires.ready.is.values

pub returns-in-Ask-clause-acts : goal.returns-in-Ask-clause-acts
returns-in-Ask-clause-acts c = effect_same _ _ _ _ _ (ask_acts _ _ _ _ _ c.in-Ask.is)
    (c.ask.ensures.acts c.args.image.now c.args.values.now)

pub returns-in_default-clause-acts : goal.returns-in_default-clause-acts
returns-in_default-clause-acts c =
    let env = environment_of (contents_in c.args.image.now) in
    let s = state_of c.args.image.now c.args.self.now c.args.values.now in
    let acted : act env c.args.instruction c.args.next s
    ≡ Some (comes_to c.perform-outcome.result c.perform-outcome.new.operands s) =
    c.perform-outcome.ensures env s refl in
    let taken = comes_over c.perform-outcome.result c.perform-outcome.new.operands s
    ∙ c.take_on.ensures.value c.args.image.now c.args.values.now in
    record {
      effect = comes_to c.perform-outcome.result c.perform-outcome.new.operands s;
      is = acted;
      state = ap (λ (e : Effect). e.state) taken;
      emitted = ap (λ (e : Effect). e.emitted) taken;
    }
