use Rattle.std.proofs.Common.{◌≡◌, ◌++◌, map}
use Rattle.edd_syntax.specs.Words.{unescaped}
use Rattle.edd_syntax.specs.WordsView.{variant_of}
use Rattle.edd_strings.specs.Parts.{left_len, variants_from}
use Rattle.edd_strings.proofs.source.variants.Given as goal

-- the variants so far, and those from the next code on, are all of them
abbrev pub invariant-loop-next : goal.invariant-loop-next
invariant-loop-next l =
    map unescaped (variants_from l.fn.next) ≡ map variant_of l.all.items
    ++ map unescaped (variants_from l.next)

abbrev pub decreases-loop-next : goal.decreases-loop-next
decreases-loop-next l = left_len l.next
