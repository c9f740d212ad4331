use Rattle.std.proofs.Common.{rules, ◌≡◌, ℕ, ◌<◌, ℤ, below_more, arith, refl, subst, ◌∙◌, w32, to_z, of_z}
use Rattle.std.proofs.lemmas.Int.{to_z-of_z}
use Rattle.edd_device.specs.Messages.{IsOther, TransactionAt, transaction_number}
use Rattle.edd_device.specs.Taken.{reading_of}
use Rattle.edd_device.proofs.Finding.{numbered, this_one, another}
use Rattle.edd_device.proofs.messages.find_position.Goals as goal

pub returns-then-is_number : goal.returns-then-is_number
returns-then-is_number c =
    let same : to_z w32 (of_z w32 c.args.transaction) ≡ c.args.transaction =
    to_z-of_z w32 c.args.transaction (search rules) in
    record {
      within = omega (arith, c.loop-position-test.true);
      here = numbered c.args.image.now c.args.values.now.numbers.items _ c.of_command-attr.result
          (reading_of c.in_ok-taken.taken) transaction_number _ c.of_command-attr.ensures
          c.in_ok-taken.ensures
          (this_one c.transaction_number.result c.args.transaction _ same
          (c.is_number.ensures.0 c.if-is_number.true) ∙ c.transaction_number.ensures);
      before = subst (λ (z : ℤ). (k : ℕ) → k < c.loop-position.position
          → IsOther (TransactionAt c.args.image.now
          c.args.values.now.numbers.items c.args.command) z k) same
          c.loop-position.invariant;
    }

pub loop-position-preserved : goal.loop-position-preserved
loop-position-preserved c =
    below_more _ _ c.loop-position.invariant (
      c.transaction_number.result,
      numbered c.args.image.now c.args.values.now.numbers.items _ c.of_command-attr.result
          (reading_of c.in_ok-taken.taken) transaction_number _ c.of_command-attr.ensures
          c.in_ok-taken.ensures c.transaction_number.ensures,
      another c.transaction_number.result _ _ c.is_number.result refl c.is_number.ensures.1
          c.if-is_number.false,
    )

pub returns : goal.returns
returns c =
    let same : to_z w32 (of_z w32 c.args.transaction) ≡ c.args.transaction =
    to_z-of_z w32 c.args.transaction (search rules) in
    λ k h. subst (λ (z : ℤ). IsOther (TransactionAt c.args.image.now
    c.args.values.now.numbers.items c.args.command) z k) same
    (c.loop-position.invariant k (omega (arith, h, c.loop-position-test.false)))
