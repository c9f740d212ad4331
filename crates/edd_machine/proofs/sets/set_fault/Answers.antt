use Rattle.std.proofs.Common.{◌≡◌, ◌≤◌, length, true, false, nat_lt, arith, sym, ap, ◌∙◌, w64}
use Rattle.std.proofs.lemmas.Bool.Decides.{nat_tests}
use Rattle.std.proofs.lemmas.Int.{to_z-of_z}
use Rattle.edd_image.specs.Fields.{counts_in}
use Rattle.edd_syntax.specs.DeviceValues.{is_in_range}
use Rattle.edd_loader.specs.Lookups.{type_of_kind}
use Rattle.edd_machine.specs.Types.{types_in}
use Rattle.edd_machine.proofs.SetFaults.{bad_variable, no_set_fault, out_of_range}
use Rattle.edd_loader.proofs.VariableTypes.{types_counted, type_at_number}
use Rattle.edd_machine.proofs.VariableTypes.{kind_sized}
use Rattle.edd_machine.proofs.sets.set_fault.Goals as goal

pub is_in_range-requires-clause-low : goal.is_in_range-requires-clause-low
is_in_range-requires-clause-low c =
    (kind_sized _ _ _ c.bytes-bytes.ensures.valid c.in-Some.ensures.row).0

pub is_in_range-requires-clause-high : goal.is_in_range-requires-clause-high
is_in_range-requires-clause-high c =
    (kind_sized _ _ _ c.bytes-bytes.ensures.valid c.in-Some.ensures.row).1

pub returns-then-is_in_range : goal.returns-then-is_in_range
returns-then-is_in_range c =
    let within : is_in_range (type_of_kind c.in-Some.kind) c.args.value ≡ true =
    ap (is_in_range (type_of_kind c.in-Some.kind))
    (sym (to_z-of_z w64 c.args.value c.ranges.value)) ∙ sym c.is_in_range.ensures
    ∙ c.if-is_in_range.true in
    sym (no_set_fault (types_in c.args.image.now) _ (type_of_kind c.in-Some.kind)
    (type_at_number c.args.image.now c.args.variable.0 c.in-Some.kind
    c.bytes-bytes.ensures.valid c.in-Some.ensures.row) within)

pub returns-else-is_in_range : goal.returns-else-is_in_range
returns-else-is_in_range c =
    let out : is_in_range (type_of_kind c.in-Some.kind) c.args.value ≡ false =
    ap (is_in_range (type_of_kind c.in-Some.kind))
    (sym (to_z-of_z w64 c.args.value c.ranges.value)) ∙ sym c.is_in_range.ensures
    ∙ c.if-is_in_range.false in
    sym (out_of_range (types_in c.args.image.now) _ (type_of_kind c.in-Some.kind)
    (type_at_number c.args.image.now c.args.variable.0 c.in-Some.kind
    c.bytes-bytes.ensures.valid c.in-Some.ensures.row) out)

pub returns-in-None : goal.returns-in-None
returns-in-None c =
    let counted = types_counted c.args.image.now c.bytes-bytes.ensures.valid in
    let missing : nat_lt c.args.variable.0 (counts_in c.args.image.now).variables ≡ false =
    sym c.in-None.ensures.exists in
    let past : length (types_in c.args.image.now) ≤ c.args.variable.0 =
    grind (arith, nat_tests, counted, missing) in
    sym (bad_variable (types_in c.args.image.now) _ past)
