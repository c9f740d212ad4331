use Rattle.std.proofs.Common.{length}
use Rattle.edd_instructions.proofs.unit.+has_named.Given as goal

abbrev pub decreases-has_named : goal.decreases-has_named
decreases-has_named l = length l.parameters.now
