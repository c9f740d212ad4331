use Rattle.std.proofs.Common.{◌≡◌, ℕ, ℤ, pos, List, length, arith, sym, ap, subst, ◌∙◌}
use Rattle.std.specs.Prelude.{replicate}
use Rattle.edd_syntax.specs.DeviceValues.{AreDeviceValues}
use Rattle.edd_loader.proofs.VariableTypes.{types_counted}
use Rattle.edd_machine.specs.Types.{types_in}
use Rattle.edd_device.specs.Starts.{zeros}
use Rattle.edd_device.proofs.Ranges.{zeros_are}
use Rattle.edd_device.proofs.starting.zeros.Goals as goal

pub returns-clause-sound : goal.returns-clause-sound
returns-clause-sound c =
    let end : c.loop-variable._variable ≡ length (types_in c.args.image.now) =
    omega (
      arith,
      c.loop-variable-test.false,
      ap (λ n. n.variables) c.counts-variable-end.ensures,
      types_counted c.args.image.now c.bytes-bytes.ensures.valid,
    ) in
    c.loop-variable.invariant ∙ ap (λ (n : ℕ). replicate n (pos 0)) end

pub returns-clause-values : goal.returns-clause-values
returns-clause-values c =
    let end : c.loop-variable._variable ≡ length (types_in c.args.image.now) =
    omega (
      arith,
      c.loop-variable-test.false,
      ap (λ n. n.variables) c.counts-variable-end.ensures,
      types_counted c.args.image.now c.bytes-bytes.ensures.valid,
    ) in
    let is : c.loop-variable.numbers.items ≡ zeros c.args.image.now =
    c.loop-variable.invariant ∙ ap (λ (n : ℕ). replicate n (pos 0)) end in
    subst (λ (ns : List ℤ). AreDeviceValues (types_in c.args.image.now) ns) (sym is)
    (zeros_are (types_in c.args.image.now))
