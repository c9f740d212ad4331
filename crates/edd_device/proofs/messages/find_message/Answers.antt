use Rattle.std.proofs.Common.{rules, ◌≡◌, ℕ, ℤ, Option, None, Some, sym, ap, subst, ◌∙◌, w32, to_z, of_z}
use Rattle.std.proofs.lemmas.Int.{to_z-of_z}
use Rattle.std.proofs.lemmas.Result.{IfOk-weaker, IfErr-weaker}
use Rattle.edd_device.specs.declared.fault.DeviceFault.TheVariants.{NoCommand, NoTransaction}
use Rattle.edd_device.specs.Messages.{IsCommand, IsPosition, carried_if}
use Rattle.edd_device.proofs.messages.find_message.Goals as goal

pub returns-in_default-clause-sound : goal.returns-in_default-clause-sound
returns-in_default-clause-sound c =
    let same : to_z w32 (of_z w32 c.args.number) ≡ c.args.number =
    to_z-of_z w32 c.args.number (search rules) in
    let found = subst (λ (z : ℤ). IsCommand c.args.image.now c.args.values.now.numbers.items z
    c.in_ok-command.field-0) same c.in_ok-command.ensures in
    IfOk-weaker c.carried_if.result _ _ (λ m h. (
      None,
      subst (λ (o : Option ℕ). IsCommand c.args.image.now c.args.values.now.numbers.items
          c.args.number o) c.in_default.is found,
      sym h ∙ ap (λ (z : ℤ). carried_if c.args.is_known (NoCommand z)) same,
    )) c.carried_if.ensures.sound

pub returns-in_default-2-clause-sound : goal.returns-in_default-2-clause-sound
returns-in_default-2-clause-sound c =
    let same : to_z w32 (of_z w32 c.args.number) ≡ c.args.number =
    to_z-of_z w32 c.args.number (search rules) in
    let same' : to_z w32 (of_z w32 c.args.transaction) ≡ c.args.transaction =
    to_z-of_z w32 c.args.transaction (search rules) in
    let found = subst (λ (z : ℤ). IsCommand c.args.image.now c.args.values.now.numbers.items z
    c.in_ok-command.field-0) same c.in_ok-command.ensures in
    let placed = subst (λ (z : ℤ). IsPosition c.args.image.now c.args.values.now.numbers.items
    c.in-Some.command z c.in_ok-position.field-0) same' c.in_ok-position.ensures in
    IfOk-weaker c.carried_if-in_default-2.result _ _ (λ m h. (
      Some c.in-Some.command,
      subst (λ (o : Option ℕ). IsCommand c.args.image.now c.args.values.now.numbers.items
          c.args.number o) c.in-Some.is found,
      (
        None,
        subst (λ (o : Option ℕ). IsPosition c.args.image.now c.args.values.now.numbers.items
            c.in-Some.command c.args.transaction o) c.in_default-2.is placed,
        sym h ∙ ap (λ (z : ℤ). carried_if c.args.is_known
            (NoTransaction z (to_z w32 (of_z w32 c.args.transaction)))) same
            ∙ ap (λ (z : ℤ). carried_if c.args.is_known (NoTransaction c.args.number z)) same',
      ),
    )) c.carried_if-in_default-2.ensures.sound

pub returns-in_default-2-clause-refused : goal.returns-in_default-2-clause-refused
returns-in_default-2-clause-refused c =
    let same : to_z w32 (of_z w32 c.args.number) ≡ c.args.number =
    to_z-of_z w32 c.args.number (search rules) in
    let same' : to_z w32 (of_z w32 c.args.transaction) ≡ c.args.transaction =
    to_z-of_z w32 c.args.transaction (search rules) in
    let found = subst (λ (z : ℤ). IsCommand c.args.image.now c.args.values.now.numbers.items z
    c.in_ok-command.field-0) same c.in_ok-command.ensures in
    let placed = subst (λ (z : ℤ). IsPosition c.args.image.now c.args.values.now.numbers.items
    c.in-Some.command z c.in_ok-position.field-0) same' c.in_ok-position.ensures in
    IfErr-weaker c.carried_if-in_default-2.result _ _ (λ fault h ne. (
      Some c.in-Some.command,
      subst (λ (o : Option ℕ). IsCommand c.args.image.now c.args.values.now.numbers.items
          c.args.number o) c.in-Some.is found,
      (
        None,
        subst (λ (o : Option ℕ). IsPosition c.args.image.now c.args.values.now.numbers.items
            c.in-Some.command c.args.transaction o) c.in_default-2.is placed,
        sym h ∙ ap (λ (z : ℤ). carried_if c.args.is_known
            (NoTransaction z (to_z w32 (of_z w32 c.args.transaction)))) same
            ∙ ap (λ (z : ℤ). carried_if c.args.is_known (NoTransaction c.args.number z)) same',
      ),
    )) c.carried_if-in_default-2.ensures.refused
