use Rattle.std.proofs.Common.{length}
use Rattle.edd_layout.specs.Comments.{SameComments}
use Rattle.edd_layout.proofs.comments.have_same_comments.Given as goal

abbrev pub invariant-loop-count : goal.invariant-loop-count
invariant-loop-count l = SameComments l.left l.right → SameComments l.fn.here l.fn.there

abbrev pub decreases-loop-count : goal.decreases-loop-count
decreases-loop-count l = length l.left
