use Rattle.std.proofs.Common.{◌≡◌, ◌≤◌, length, false, nat_lt, arith, sym}
use Rattle.std.proofs.lemmas.Bool.Decides.{nat_tests}
use Rattle.std.proofs.lemmas.List.{get_or_past}
use Rattle.edd_image.specs.Fields.{counts_in}
use Rattle.edd_loader.proofs.VariableTypes.{types_counted}
use Rattle.edd_machine.proofs.VariableTypes.{kind_sized}
use Rattle.edd_machine.specs.Types.{types_in}
use Rattle.edd_octets.proofs.masks.kind_at.Goals as goal

pub returns-in-Some-clause-low : goal.returns-in-Some-clause-low
returns-in-Some-clause-low c =
    (kind_sized _ _ _ c.bytes-bytes.ensures.valid c.in-Some.ensures.row).0

pub returns-in-Some-clause-high : goal.returns-in-Some-clause-high
returns-in-Some-clause-high c =
    (kind_sized _ _ _ c.bytes-bytes.ensures.valid c.in-Some.ensures.row).1

pub returns-in-None-clause-sound : goal.returns-in-None-clause-sound
returns-in-None-clause-sound c =
    let counted = types_counted c.args.image.now c.bytes-bytes.ensures.valid in
    let missing : nat_lt c.args.variable.0 (counts_in c.args.image.now).variables ≡ false =
    sym c.in-None.ensures.exists in
    let past : length (types_in c.args.image.now) ≤ c.args.variable.0 =
    grind (arith, nat_tests, counted, missing) in
    sym (get_or_past (types_in c.args.image.now) c.args.variable.0 _ past)
