use Rattle.std.proofs.Common.{◌≡◌, take}
use Rattle.edd_machine.specs.AbortLists.{methods_of}
use Rattle.edd_embed.proofs.sessions.push_methods.Given as goal

abbrev pub invariant-loop-number : goal.invariant-loop-number
invariant-loop-number l = l.methods ≡ methods_of (take l.number-index l.numbers)
