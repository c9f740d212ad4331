use Rattle.std.proofs.Common.{◌≡◌, ℕ, List, arith, ap, sym, ◌∙◌}
use Rattle.edd_instructions.specs.declared.unit.Sort.TheVariants.{Method}
use Rattle.edd_instructions.specs.Steps.{Fits}
use Rattle.edd_machine.specs.Running.{code_at}
use Rattle.edd_machine.proofs.Stepping.{code_inside}
use Rattle.edd_port.proofs.RunTests.{all_reversed, code_valid, machine_is, reversed_all, same_slots, operands_fit, slots_fit}
use Rattle.edd_port.proofs.runs.is_run.Goals as goal

-- the operands are looked at from the lowest on
pub returns-then-not-all_fit : goal.returns-then-not-all_fit
returns-then-not-all_fit c = (
  (λ e. absurd cc),
  (λ is. sym c.if-not-all_fit.true ∙ c.all_fit.ensures.1
      (rw c.numbers.ensures.numbers (all_reversed (Fits Method) c.args.machine.now.operands
      (operands_fit c.args.image.now c.args.machine.now c.args.values.now is c.requires.sort)))),
)

pub returns-then-not-all_fit-2 : goal.returns-then-not-all_fit-2
returns-then-not-all_fit-2 c = (
  (λ e. absurd cc),
  (λ is. sym c.if-not-all_fit-2.true ∙ c.all_fit-2.ensures.1
      (rw c.as_slice.ensures.value (slots_fit c.args.image.now c.args.machine.now c.args.values.now
      is c.requires.sort))),
)

pub returns-then-len-from : goal.returns-then-len-from
returns-then-len-from c = (
  (λ e. absurd cc),
  (λ is.
      let same = same_slots c.args.image.now c.args.machine.now c.args.values.now is in
      absurd (omega (arith, same, c.if-len-from.true))),
)

pub code_of-requires : goal.code_of-requires
code_of-requires c =
    rw c.bytes.ensures.sound (code_inside _ _ c.bytes.ensures.valid c.requires.unit)

pub stands-requires : goal.stands-requires
stands-requires c =
    let same : c.code_of.result.now ≡ code_at c.args.image.now c.args.machine.now.unit =
    c.code_of.ensures ∙ ap (λ (b : List ℕ). code_at b c.args.machine.now.unit)
    c.bytes.ensures.sound in
    rw same (code_valid c.args.image.now c.args.machine.now.unit c.bytes.ensures.valid
    c.requires.unit)

pub returns-then-not-stands : goal.returns-then-not-stands
returns-then-not-stands c =
    let b = c.args.image.now in
    let same : code_at b c.args.machine.now.unit ≡ c.code_of.result.now =
    sym (c.code_of.ensures ∙ ap (λ (bytes : List ℕ). code_at bytes c.args.machine.now.unit)
    c.bytes.ensures.sound) in
    let test = c.stands.ensures b c.args.values.now same in (
      (λ e. absurd cc),
      (λ is. sym c.if-not-stands.true ∙ test.1 is.state.stands),
    )

pub returns : goal.returns
returns c =
    let b = c.args.image.now in
    let m = c.args.machine.now in
    let same : code_at b m.unit ≡ c.code_of.result.now =
    sym (c.code_of.ensures ∙ ap (λ (bytes : List ℕ). code_at bytes m.unit)
    c.bytes.ensures.sound) in
    let test = c.stands.ensures b c.args.values.now same in (
      (λ e. machine_is b m c.args.values.now c.bytes.ensures.valid c.requires.unit c.requires.sort
          (omega arith)
          (reversed_all (Fits Method) m.operands (rw c.numbers.ensures.numbers at
          (c.all_fit.ensures.0 c.if-not-all_fit.false)))
          (rw c.as_slice.ensures.value at (c.all_fit-2.ensures.0 c.if-not-all_fit-2.false)) (test.0 c.if-not-stands.false) (c.are_values.ensures.0 e)),
      (λ is. c.are_values.ensures.1 is.state.values),
    )
