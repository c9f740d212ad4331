use Rattle.std.proofs.Common.{◌≡◌, None, ℤ, arith, rules, sym, ap, ◌∙◌, w64, FitsSigned}
use Rattle.std.proofs.lemmas.Int.{to_z-of_z}
use Rattle.edd_syntax.specs.Answers.{Change, set_fault}
use Rattle.edd_machine.specs.Types.{types_in}
use Rattle.edd_machine.proofs.SetFaults.{no_fault_seen}
use Rattle.edd_device.proofs.Ranges.{inside, keeps}
use Rattle.edd_device.proofs.copying.take_entry.Goals as goal

-- the set that has no fault
abbrev set : goal.After-from → Change
set c = record { variable = c.in-Some.tie.theirs; value = c.number_at-number.result }

none : (c : goal.After-from) → set_fault (types_in c.args.device.now) (set c) ≡ None
none c =
    let fits : FitsSigned w64 c.number_at-number.result = search rules in
    ap (λ (z : ℤ). set_fault (types_in c.args.device.now)
    (record { variable = c.in-Some.tie.theirs; value = z }))
    (sym (to_z-of_z w64 c.number_at-number.result fits))
    ∙ sym c.set_fault.ensures
    ∙ no_fault_seen c.set_fault.result (sym c.is_some.ensures ∙ c.if-is_some.false)

pub bounds-numbers-from : goal.bounds-numbers-from
bounds-numbers-from c = omega (
  arith,
  c.from.ensures,
  inside (types_in c.args.device.now) (set c) c.args.numbers.now (none c) c.requires,
)

pub returns-clause-values : goal.returns-clause-values
returns-clause-values c =
    let fits : FitsSigned w64 c.number_at-number.result = search rules in
    let kept = keeps (types_in c.args.device.now) (set c) c.args.numbers.now (none c) c.requires in
    rw (to_z-of_z w64 c.number_at-number.result fits, c.from.ensures) kept
