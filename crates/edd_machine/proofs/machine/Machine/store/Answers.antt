use Rattle.std.proofs.Common.{arith, rules, refl, sym, ap, ◌∙◌, w64, FitsSigned, slice_set, to_z, of_z}
use Rattle.std.proofs.lemmas.Int.{to_z-of_z}
use Rattle.edd_syntax.specs.TwosComplement.{store}
use Rattle.edd_instructions.specs.Reading.{environment_of}
use Rattle.edd_image.specs.Contents.{contents_in}
use Rattle.edd_instructions.specs.Steps.{width_of}
use Rattle.edd_machine.specs.declared.machine.Machine.{Machine}
use Rattle.edd_machine.specs.Running.{state_of}
use Rattle.edd_machine.proofs.Acting.{store_acts, stored_state, type_there, values_counted}
use Rattle.edd_machine.proofs.VariableTypes.{kind_sized}
use Rattle.edd_machine.proofs.machine.Machine.store.Goals as goal

pub stored-kept-requires-clause-low : goal.stored-kept-requires-clause-low
stored-kept-requires-clause-low c = (kind_sized _ _ _ c.requires.valid c.in-Some.ensures.row).0

pub stored-kept-requires-clause-high : goal.stored-kept-requires-clause-high
stored-kept-requires-clause-high c = (kind_sized _ _ _ c.requires.valid c.in-Some.ensures.row).1

pub bounds-values-variable : goal.bounds-values-variable
bounds-values-variable c = omega (
  arith,
  values_counted _ _ c.requires.valid c.requires.values,
  c.requires.exists,
)

pub returns-clause-acts : goal.returns-clause-acts
returns-clause-acts c =
    let s = state_of c.args.image.now c.args.self.now c.args.values.now in
    let operand_fits : FitsSigned w64 c.top.result = search rules in
    let kept_fits : FitsSigned w64 c.stored-kept.result = search rules in
    let read_fits : FitsSigned w64 c.wrapped.result = search rules in
    let kept = to_z-of_z w64 c.stored-kept.result kept_fits ∙ c.stored-kept.ensures
    ∙ ap (store c.in-Some.kind.var_type c.in-Some.kind.size)
    (to_z-of_z w64 c.top.result operand_fits) in
    let read = to_z-of_z w64 c.wrapped.result read_fits ∙ c.wrapped.ensures in
    let values = slice_set c.args.values.now c.args.variable.0
    (to_z w64 (of_z w64 c.stored-kept.result)) in
    record {
      effect = _;
      is = store_acts (environment_of (contents_in c.args.image.now)) s c.args.variable c.args.next
          _ _ _ c.top.ensures (type_there _ _ _ c.requires.valid c.in-Some.ensures.row);
      state = stored_state s c.args.next c.args.variable.0 (width_of c.args.self.now.unit.sort) _ _
          _ _ _ kept read c.set_top.ensures _ refl
          ∙ ap (λ (m : Machine). state_of c.args.image.now m values)
          (sym c.emit_nothing.ensures);
      emitted = ap (λ (m : Machine). m.emitted) (sym c.emit_nothing.ensures);
    }
