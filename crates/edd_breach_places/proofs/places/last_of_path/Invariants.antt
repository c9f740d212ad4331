use Rattle.std.proofs.Common.{◌≡◌, length}
use Rattle.edd_breach_places.specs.Places.{last_of_path}
use Rattle.edd_breach_places.proofs.places.last_of_path.Given as goal

abbrev pub invariant-loop-path : goal.invariant-loop-path
invariant-loop-path l = last_of_path l.path ≡ last_of_path l.fn.tokens

abbrev pub decreases-loop-path : goal.decreases-loop-path
decreases-loop-path l = length l.path
