-- The parts of a type, of which the elements give something.
use Rattle.std.proofs.Common.{refl, ℕ, List}
use Rattle.std.specs.Prelude.{Option}
use Rattle.edd_syntax.specs.declared.numbers.StrNo.{StrNo}
use Rattle.edd_syntax.specs.declared.reference.Target.{Target}
use Rattle.edd_syntax.specs.Attributes.{enumerator}
use Rattle.edd_syntax.specs.Item as item
use Rattle.edd_syntax.specs.Item.{TypePart}
use Rattle.edd_syntax.specs.Words.{Words}
use Rattle.edd_code.specs.Blocks.{Block}
use Rattle.edd_attrs.specs.TreeBlocks.{Giving, IsCondBlock, IsCondsBlock, elements}
use Rattle.edd_attrs.specs.Writing.{WritesPart, element_strings}
use Rattle.edd_attrs.proofs.Loops.{Step, block_step, no_step}

-- the blocks of the elements among parts
abbrev pub IsPartsBlock : (StrNo → Option Words) → List (TypePart Target) → Block → Type 0
IsPartsBlock numbered parts b = IsCondsBlock (Giving numbered enumerator) (elements parts) b

pub part_step : (p : TypePart Target) (b c : List Words) (between after : List ℕ)
    → WritesPart b between p c after → Step element_strings IsPartsBlock p b between c after
part_step (item.Element v) b c between after w =
    block_step element_strings IsPartsBlock (item.Element v) w
    (λ numbered rest p q one more. (p, q, refl, one, more))
part_step x b c between after w =
    no_step element_strings IsPartsBlock x b c w.0 w.1 refl (λ numbered rest q h. h)
