use Rattle.std.proofs.Common.{◌≡◌, drop}
use Rattle.edd_lexer.specs.Gaps.{behind_close}
use Rattle.edd_layout.proofs.comments.close_end.Given as goal

abbrev pub invariant-loop-place : goal.invariant-loop-place
invariant-loop-place l = behind_close (drop l.place l.body) ≡ behind_close l.body
