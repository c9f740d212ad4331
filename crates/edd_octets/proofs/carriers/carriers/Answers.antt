use Rattle.std.proofs.Common.{ℕ, ◌<◌, ◌≤◌, ap, arith}
use Rattle.edd_image.specs.Fields.{counts_in}
use Rattle.edd_octets.proofs.Carrying.{all_walked, one_command}
use Rattle.edd_octets.proofs.carriers.carriers.Goals as goal

pub loop-number-preserved : goal.loop-number-preserved
loop-number-preserved c =
    let count : ℕ = (counts_in c.args.image.now).commands in
    let within : c.loop-number.number < count = omega (
      arith,
      ap (λ counts. counts.commands) c.counts-number-end.ensures,
      c.loop-number-test.true,
    ) in
    one_command c.args.image.now c.args.values.now.numbers.items c.args.variable c.args.side
    c.args.operation count c.loop-number.all.items c.add_if_operation.new.all.items
    c.loop-number.number c.loop-number.invariant within c.in_ok-add_if_operation.ensures

pub returns : goal.returns
returns c =
    let count : ℕ = (counts_in c.args.image.now).commands in
    let past : count ≤ c.loop-number.number = omega (
      arith,
      ap (λ counts. counts.commands) c.counts-number-end.ensures,
      c.loop-number-test.false,
    ) in
    all_walked c.args.image.now c.args.values.now.numbers.items c.args.variable c.args.side
    c.args.operation count c.loop-number.all.items c.loop-number.number
    c.loop-number.invariant past
