use Rattle.std.proofs.Common.{◌≡◌}
use Rattle.edd_syntax.specs.WordsView.{variant_of}
use Rattle.edd_image.specs.Strings.{variant_bytes}
use Rattle.edd_assembly.proofs.Appending.{and_rest}
use Rattle.edd_assembly.proofs.strings.put_variants.Given as goal

-- what is there and the variants to come are all bytes
abbrev pub invariant-loop-variant : goal.invariant-loop-variant
invariant-loop-variant l = and_rest variant_bytes variant_of l.out.items l.variant-index l.variants
    ≡ and_rest variant_bytes variant_of l.initial.out.items 0 l.variants
