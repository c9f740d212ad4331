use Rattle.std.proofs.Common.{ℕ, ◌<◌}
use Rattle.edd_device.specs.Messages.{IsOther, TransactionAt}
use Rattle.edd_device.proofs.messages.find_position.Given as goal

-- no transaction before this one has the number
abbrev pub invariant-loop-position : goal.invariant-loop-position
invariant-loop-position l = (k : ℕ) → k < l.position
    → IsOther (TransactionAt l.image l.values.numbers.items l.command) l.transaction k
