use Rattle.std.proofs.Common.{◌≡◌, ◌∷◌, map, drop}
use Rattle.edd_syntax.specs.Words.{text_in}
use Rattle.edd_syntax.specs.WordsView.{variant_of}
use Rattle.edd_strings.proofs.choice.text_in.Given as goal

-- the variants passed so far have another code
abbrev pub invariant-loop-variant : goal.invariant-loop-variant
invariant-loop-variant l =
    text_in l.code (map variant_of (l.first ∷ l.rest))
    ≡ text_in l.code (map variant_of (drop l.variant-index l.rest))
