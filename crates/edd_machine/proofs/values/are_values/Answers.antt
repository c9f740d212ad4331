use Rattle.std.proofs.Common.{◌≡◌, ◌<◌, ◌≤◌, length, get_or, pos, rules, arith, sym, ap, ◌∙◌, w64, ℤ, FitsSigned}
use Rattle.std.proofs.lemmas.Int.{to_z-of_z}
use Rattle.std.proofs.lemmas.Slice.Zip.{AllZip-long}
use Rattle.edd_image.specs.Fields.{counts_in}
use Rattle.edd_syntax.specs.Answers.{set_fault}
use Rattle.edd_loader.proofs.RuleOrder.{has_header}
use Rattle.edd_loader.proofs.VariableTypes.{types_counted}
use Rattle.edd_machine.specs.Types.{types_in}
use Rattle.edd_machine.proofs.SetFaults.{no_fault_seen, fault_seen, set_goes, set_fails}
use Rattle.edd_machine.proofs.VariableTypes.{values_done}
use Rattle.edd_machine.proofs.values.are_values.Goals as goal

pub variable_count-requires : goal.variable_count-requires
variable_count-requires c = has_header _ _ c.bytes-bytes.ensures.sound c.bytes-bytes.ensures.valid

pub returns-then-numbers-variable_count : goal.returns-then-numbers-variable_count
returns-then-numbers-variable_count c =
    let counted = types_counted c.args.image.now c.bytes-bytes.ensures.valid in
    let count : c.variable_count.result ≡ (counts_in c.args.image.now).variables =
    c.variable_count.ensures ∙ ap (λ b. (counts_in b).variables) c.bytes-bytes.ensures.sound in (
      (λ e. absurd cc),
      (λ all. absurd
          (c.if-numbers-variable_count.true
          (AllZip-long _ (types_in c.args.image.now) c.args.numbers.now all ∙ counted
          ∙ sym count))),
    )

pub returns-then-is_some : goal.returns-then-is_some
returns-then-is_some c =
    let number : ℤ = get_or c.args.numbers.now c.loop-index.index (pos 0) in
    let fits : FitsSigned w64 number = search rules in
    let counted = types_counted c.args.image.now c.bytes-bytes.ensures.valid in
    let count : c.variable_count.result ≡ (counts_in c.args.image.now).variables =
    c.variable_count.ensures ∙ ap (λ b. (counts_in b).variables) c.bytes-bytes.ensures.sound in
    let inside : c.loop-index.index < length c.args.numbers.now = omega arith in
    let typed : c.loop-index.index < length (types_in c.args.image.now) =
    omega (arith, counted, count, inside, c.if-numbers-variable_count.false) in
    let seen = fault_seen c.set_fault.result (sym c.is_some.ensures ∙ c.if-is_some.true) in
    let fault = ap (λ z. set_fault (types_in c.args.image.now)
    (record { variable = record { 0 = c.loop-index.index }; value = z }))
    (sym (to_z-of_z w64 number fits)) ∙ sym c.set_fault.ensures ∙ seen.1 in (
      (λ e. absurd cc),
      (λ all. absurd (set_fails (types_in c.args.image.now) c.args.numbers.now
          c.loop-index.index inside typed seen.0 fault (c.loop-index.invariant.back all))),
    )

pub loop-index-preserved : goal.loop-index-preserved
loop-index-preserved c =
    let number : ℤ = get_or c.args.numbers.now c.loop-index.index (pos 0) in
    let fits : FitsSigned w64 number = search rules in
    let inside : c.loop-index.index < length c.args.numbers.now = omega arith in
    let none = ap (λ z. set_fault (types_in c.args.image.now)
    (record { variable = record { 0 = c.loop-index.index }; value = z }))
    (sym (to_z-of_z w64 number fits)) ∙ sym c.set_fault.ensures
    ∙ no_fault_seen c.set_fault.result (sym c.is_some.ensures ∙ c.if-is_some.false) in
    let goes = set_goes (types_in c.args.image.now) c.args.numbers.now c.loop-index.index inside
    none in
    record {
      on = λ others. c.loop-index.invariant.on (goes.0 others);
      back = λ all. goes.1 (c.loop-index.invariant.back all);
    }

pub returns : goal.returns
returns c =
    let counted = types_counted c.args.image.now c.bytes-bytes.ensures.valid in
    let count : c.variable_count.result ≡ (counts_in c.args.image.now).variables =
    c.variable_count.ensures ∙ ap (λ b. (counts_in b).variables) c.bytes-bytes.ensures.sound in
    let done : length c.args.numbers.now ≤ c.loop-index.index = omega arith in
    let typed : length (types_in c.args.image.now) ≤ c.loop-index.index =
    omega (arith, counted, count) in (
      (λ e. c.loop-index.invariant.on (values_done (types_in c.args.image.now) c.args.numbers.now
          c.loop-index.index typed done)),
      (λ all. cc),
    )
