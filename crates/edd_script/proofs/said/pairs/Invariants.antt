use Rattle.std.proofs.Common.{◌≡◌, ◌++◌, map, length}
use Rattle.std.specs.Prelude.{option_map}
use denote.Text.{Utf8}
use denote.Shadow.{shadow}
use Rattle.edd_image.specs.Contents.{contents_in}
use Rattle.edd_script.specs.Named.{variables_in}
use Rattle.edd_script.specs.Words.{words}
use Rattle.edd_script.specs.Said.{change_of, pairs_of}
use Rattle.edd_script.proofs.said.pairs.Given as goal

-- the settings so far and those of the rest are those of the text
abbrev pub invariant-loop-word : goal.invariant-loop-word
invariant-loop-word l = shadow (Utf8 l.rest)
    × (option_map (λ more. map change_of l.sets.items ++ more) (pairs_of (variables_in (contents_in l.image)) (words l.rest))
    ≡ pairs_of (variables_in (contents_in l.image)) (words l.text))

abbrev pub decreases-loop-word : goal.decreases-loop-word
decreases-loop-word l = length l.rest
