use Rattle.std.proofs.Common.{length}
use Rattle.edd_loader.proofs.TextTurns.{Left}
use Rattle.edd_loader.proofs.texts.text_in.Given as goal

abbrev pub invariant-loop-code : goal.invariant-loop-code
invariant-loop-code l = Left l.rest l.code l.bytes

abbrev pub decreases-loop-code : goal.decreases-loop-code
decreases-loop-code l = length l.rest
