use Rattle.std.proofs.Common.{◌≡◌, ◌+◌, ◌≤◌, map, length}
use Rattle.edd_syntax.specs.Answers.{answer_of}
use Rattle.edd_image.specs.Contents.{contents_in}
use Rattle.edd_script.specs.Named.{variables_in}
use Rattle.edd_script.specs.Lines.{lines}
use Rattle.edd_script.specs.Scripts.{mapped, read_from, script_of}
use Rattle.edd_script.proofs.Turns.{onward}
use Rattle.edd_script.proofs.script.parse.Given as goal

-- what was said so far and what the rest says is what the script says
abbrev pub invariant-loop-bytes : goal.invariant-loop-bytes
invariant-loop-bytes l = (l.before + length l.rest ≤ length l.script)
    × (mapped (onward l.made.values.items (map answer_of l.made.answers.items))
    (read_from (variables_in (contents_in l.image)) (l.before + 1) (lines l.rest))
    ≡ script_of (variables_in (contents_in l.image)) l.script)

abbrev pub decreases-loop-bytes : goal.decreases-loop-bytes
decreases-loop-bytes l = length l.rest
