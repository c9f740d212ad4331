use Rattle.std.proofs.Common.{arith}
use Rattle.edd_syntax.specs.WordsView.{variant_of}
use Rattle.edd_image.specs.Strings.{variant_bytes}
use Rattle.edd_assembly.proofs.Appending.{each_appended, each_done}
use Rattle.edd_assembly.proofs.strings.put_variants.Goals as goal

pub loop-variant-preserved : goal.loop-variant-preserved
loop-variant-preserved c =
    each_appended variant_bytes variant_of c.loop-variant.out.items c.loop-variant.variant-index
    c.args.variants.now (omega arith) c.variant-item.is c.in_ok-put_variant.ensures
    c.loop-variant.invariant

pub returns : goal.returns
returns c = each_done variant_bytes variant_of c.loop-variant.out.items c.loop-variant.variant-index
    c.args.variants.now (omega arith) c.loop-variant.invariant
