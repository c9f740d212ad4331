use Rattle.std.proofs.Common.{ℕ, ◌<◌}
use Rattle.edd_device.specs.Messages.{IsOther, NumberAt}
use Rattle.edd_device.proofs.messages.find_command.Given as goal

-- no command before this one has the number
abbrev pub invariant-loop-command : goal.invariant-loop-command
invariant-loop-command l = (k : ℕ) → k < l.command
    → IsOther (NumberAt l.image l.values.numbers.items) l.number k
