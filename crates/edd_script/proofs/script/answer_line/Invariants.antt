use Rattle.std.proofs.Common.{◌≡◌, ◌+◌, ◌≤◌, length}
use Rattle.std.specs.List.{slice_get}
use Rattle.edd_image.specs.Contents.{contents_in}
use Rattle.edd_script.specs.Named.{variables_in}
use Rattle.edd_script.specs.Lines.{lines}
use Rattle.edd_script.specs.Scripts.{answering}
use Rattle.edd_script.proofs.script.answer_line.Given as goal

-- the answer is that of the rest whose number is what is left of it
abbrev pub invariant-loop-bytes : goal.invariant-loop-bytes
invariant-loop-bytes l = (l.before + length l.rest ≤ length l.script)
    × (slice_get (answering (variables_in (contents_in l.image)) (l.before + 1) (lines l.rest)) l.left
    ≡ slice_get (answering (variables_in (contents_in l.image)) 1 (lines l.script)) l.number)

abbrev pub decreases-loop-bytes : goal.decreases-loop-bytes
decreases-loop-bytes l = length l.rest
