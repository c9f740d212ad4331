use Rattle.std.proofs.Common.{◌≡◌, drop}
use Rattle.edd_lexer.specs.Bytes.{behind, in_line}
use Rattle.edd_layout.proofs.comments.line_end.Given as goal

abbrev pub invariant-loop-place : goal.invariant-loop-place
invariant-loop-place l = behind in_line (drop l.place l.text) ≡ behind in_line l.text
