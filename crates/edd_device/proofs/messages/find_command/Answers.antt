use Rattle.std.proofs.Common.{rules, ◌≡◌, ℕ, ◌<◌, ℤ, below_more, arith, refl, ap, subst, ◌∙◌, w32, to_z, of_z}
use Rattle.std.proofs.lemmas.Int.{to_z-of_z}
use Rattle.edd_device.specs.Messages.{IsOther, NumberAt, number_read}
use Rattle.edd_device.specs.Taken.{reading_of}
use Rattle.edd_device.proofs.Finding.{numbered, this_one, another}
use Rattle.edd_device.proofs.messages.find_command.Goals as goal

pub returns-then-is_number : goal.returns-then-is_number
returns-then-is_number c =
    let same : to_z w32 (of_z w32 c.args.number) ≡ c.args.number =
    to_z-of_z w32 c.args.number (search rules) in
    record {
      within = omega (
        arith,
        c.loop-command-test.true,
        ap (λ n. n.commands) c.counts-command-end.ensures,
      );
      here = numbered c.args.image.now c.args.values.now.numbers.items _ c.of_command.result
          (reading_of c.in_ok-taken.taken) number_read _ c.of_command.ensures
          c.in_ok-taken.ensures
          (this_one c.number_read.result c.args.number _ same
          (c.is_number.ensures.0 c.if-is_number.true) ∙ c.number_read.ensures);
      before = subst (λ (z : ℤ). (k : ℕ) → k < c.loop-command.command
          → IsOther (NumberAt c.args.image.now c.args.values.now.numbers.items) z k) same
          c.loop-command.invariant;
    }

pub loop-command-preserved : goal.loop-command-preserved
loop-command-preserved c =
    below_more _ _ c.loop-command.invariant (
      c.number_read.result,
      numbered c.args.image.now c.args.values.now.numbers.items _ c.of_command.result
          (reading_of c.in_ok-taken.taken) number_read _ c.of_command.ensures
          c.in_ok-taken.ensures c.number_read.ensures,
      another c.number_read.result _ _ c.is_number.result refl c.is_number.ensures.1
          c.if-is_number.false,
    )

pub returns : goal.returns
returns c =
    let same : to_z w32 (of_z w32 c.args.number) ≡ c.args.number =
    to_z-of_z w32 c.args.number (search rules) in
    λ k h. subst (λ (z : ℤ). IsOther (NumberAt c.args.image.now
    c.args.values.now.numbers.items) z k) same
    (c.loop-command.invariant k (omega (
      arith,
      h,
      c.loop-command-test.false,
      ap (λ n. n.commands) c.counts-command-end.ensures,
    )))
