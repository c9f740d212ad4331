use Rattle.std.proofs.Common.{ℕ, List, drop}
use Rattle.edd_layout.specs.Comments.{SameComments}
use Rattle.edd_layout.proofs.comments.count_blanks.Given as goal

-- all so far are blanks
abbrev pub invariant-loop-place : goal.invariant-loop-place
invariant-loop-place l =
    ((there : List ℕ) → SameComments (drop l.place l.text) there → SameComments l.text there)
    × ((here : List ℕ) → SameComments here (drop l.place l.text) → SameComments here l.text)
