use Rattle.std.proofs.Common.{arith, sym, ◌∙◌}
use Rattle.std.proofs.lemmas.Slice.Zip.{AllZip-long}
use Rattle.edd_loader.proofs.VariableTypes.{types_counted}
use Rattle.edd_machine.specs.Types.{types_in}
use Rattle.edd_device.proofs.Firsts.{variable_below}
use Rattle.edd_device.proofs.Ranges.{keeps_zero}
use Rattle.edd_device.proofs.copying.clear_code.Goals as goal

pub slice_set_of-numbers : goal.slice_set_of-numbers
slice_set_of-numbers c = omega (
  arith,
  c.from.ensures,
  variable_below c.args.device.now _ c.in-Some.variable
      (sym c.variable_named.ensures ∙ c.in-Some.is),
  types_counted c.args.device.now c.bytes-bytes.ensures.valid,
  AllZip-long _ (types_in c.args.device.now) c.args.numbers.now c.requires,
)

pub returns-in-Some-clause-values : goal.returns-in-Some-clause-values
returns-in-Some-clause-values c = keeps_zero (types_in c.args.device.now) c.from.result
    c.args.numbers.now c.requires
