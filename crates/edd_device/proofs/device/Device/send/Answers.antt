use Rattle.std.proofs.Common.{rules, ◌≡◌, ◌≢◌, ℕ, ℤ, List, Err, refl, ap, subst, ◌∙◌, w32, to_z, of_z}
use Rattle.std.specs.Prelude.{is_some}
use Rattle.std.proofs.lemmas.Int.{to_z-of_z}
use Rattle.edd_device.specs.declared.fault.DeviceFault.{DeviceFault}
use Rattle.edd_device.specs.declared.fault.DeviceFault.TheVariants.{Memory}
use Rattle.edd_device.specs.Devices.{IsSent, method_for}
use Rattle.edd_device.specs.Messages.{IsMessage}
use Rattle.edd_device.proofs.Finding.{message_as}
use Rattle.edd_device.proofs.Passing.{passed}
use Rattle.edd_device.proofs.device.Device.send.Goals as goal

pub returns-in_err-message-clause-refused : goal.returns-in_err-message-clause-refused
returns-in_err-message-clause-refused c =
    let n : to_z w32 (of_z w32 c.args.number) ≡ c.args.number =
    to_z-of_z w32 c.args.number (search rules) in
    let t : to_z w32 (of_z w32 c.args.transaction) ≡ c.args.transaction =
    to_z-of_z w32 c.args.transaction (search rules) in
    let known : c.is_some.result
    ≡ is_some (method_for c.args.self.now c.args.number c.args.transaction) =
    c.is_some.ensures ∙ ap is_some c.in_ok-method.ensures
    ∙ ap (λ (z : ℤ). is_some (method_for c.args.self.now z
    (to_z w32 (of_z w32 c.args.transaction)))) n
    ∙ ap (λ (z : ℤ). is_some (method_for c.args.self.now c.args.number z)) t in
    let image : c.self.inside.instrument.now ≡ c.args.self.now.instrument = (cc) in
    passed {E = DeviceFault} c.from_residual-in_err-message.result c.in_err-message.field-0.0
    (λ fault. fault ≢ Memory → IsSent c.args.self.now c.args.values.now.numbers.items
    c.args.number c.args.transaction (Err fault)) c.from_residual-in_err-message.ensures.1
    (λ ne. (
      Err c.in_err-message.field-0.0,
      subst (λ (b : List ℕ). IsMessage b c.args.values.now.numbers.items c.args.number
          c.args.transaction (is_some (method_for c.args.self.now c.args.number
          c.args.transaction)) (Err c.in_err-message.field-0.0)) image (message_as
          c.self.inside.instrument.now c.args.values.now.numbers.items
          (to_z w32 (of_z w32 c.args.number)) c.args.number
          (to_z w32 (of_z w32 c.args.transaction)) c.args.transaction c.is_some.result
          (is_some (method_for c.args.self.now c.args.number c.args.transaction))
          (Err c.in_err-message.field-0.0) n t known (c.in_err-message.ensures.refused ne)),
      refl,
    ))
