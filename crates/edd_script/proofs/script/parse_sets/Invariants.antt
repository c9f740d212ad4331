use Rattle.std.proofs.Common.{◌≡◌, ◌+◌, ◌≤◌, length}
use Rattle.edd_image.specs.Contents.{contents_in}
use Rattle.edd_script.specs.Named.{variables_in}
use Rattle.edd_script.specs.Lines.{lines}
use Rattle.edd_script.specs.Scripts.{mapped, read_from, given_set, sets_in, given_by}
use Rattle.edd_script.proofs.script.parse_sets.Given as goal

-- what was set so far and what the rest sets is what the script sets
abbrev pub invariant-loop-bytes : goal.invariant-loop-bytes
invariant-loop-bytes l = (l.before + length l.rest ≤ length l.script)
    × (mapped (λ said. given_set l.given.items (sets_in said))
    (read_from (variables_in (contents_in l.image)) (l.before + 1) (lines l.rest))
    ≡ given_by (variables_in (contents_in l.image)) l.script)

abbrev pub decreases-loop-bytes : goal.decreases-loop-bytes
decreases-loop-bytes l = length l.rest
