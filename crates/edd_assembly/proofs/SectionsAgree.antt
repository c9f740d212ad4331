-- The sections say of data what the description says.
use Rattle.std.proofs.Common.{◌≡◌, refl, ◌<◌, ◌^◌, List, length, map, arith}
use Rattle.std.specs.List.{flat_map}
use Rattle.edd_syntax.specs.declared.numbers.Kind.{Kind}
use Rattle.edd_syntax.specs.declared.numbers.Kind.TheVariants as kind
use Rattle.edd_syntax.specs.declared.reference.Target.{Target}
use Rattle.edd_syntax.specs.declared.words.Words as code_words
use Rattle.edd_syntax.specs.Item.{Description}
use Rattle.edd_syntax.specs.Words.{Words}
use Rattle.edd_syntax.specs.WordsView.{string_of}
use Rattle.edd_syntax.specs.Device.{environment}
use Rattle.edd_syntax.specs.Resolution.{count_of}
use Rattle.edd_image.specs.Contents.{contents_of}
use Rattle.edd_image.specs.Layout.{AreSections}
use Rattle.edd_instructions.specs.Reading.{environment_of}
use Rattle.edd_image.specs.Strings.{string_bytes}
use Rattle.edd_instructions.specs.Agreement.{identification_in, count_in, version_for, AgreesOnData}
use Rattle.edd_assembly.specs.Assembly.{Lowered, assembled}
use Rattle.edd_assembly.specs.LoweredUnits.{AreUnitsOf}
use Rattle.edd_assembly.proofs.AttributesAgree.{attribute_agrees}
use Rattle.edd_assembly.proofs.NamesAgree.{names_agree}
use Rattle.edd_assembly.proofs.SoundStrings.{strings_valid}
use Rattle.edd_assembly.proofs.TypesRead.{types_read}

module _ (unit : Description Target) (lowered : List Lowered) (strings : List Words) where
  identification_agrees : identification_in (contents_of (assembled unit lowered strings))
      ≡ unit.identification
  unfolding assembled
  identification_agrees = refl

  counts_agree : (k : Kind) → count_in (contents_of (assembled unit lowered strings)).counts k
      ≡ count_of k unit.items
  unfolding assembled
  counts_agree kind.Variable = refl
  counts_agree _ = refl

  types_agree : (environment_of (contents_of (assembled unit lowered strings))).types
      ≡ (environment unit).variables
  unfolding assembled
  types_agree = types_read unit.items

  version_agrees : (contents_of (assembled unit lowered strings)).version ≡ version_for unit
  unfolding assembled
  version_agrees = refl

  elements_agree : (contents_of (assembled unit lowered strings)).elements
      ≡ (environment unit).elements
  unfolding assembled
  elements_agree = refl

  pub short : AreSections (assembled unit lowered strings) → length (flat_map string_bytes strings)
      < 2 ^ 32
  unfolding assembled
  short sections = omega (arith, sections.total_fits)

pub sections_agree_on_data : (unit : Description Target) (lowered : List Lowered)
    (words : List code_words.Words) → AreUnitsOf unit (map string_of words) lowered
    → AreSections (assembled unit lowered (map string_of words))
    → AgreesOnData unit (contents_of (assembled unit lowered (map string_of words)))
sections_agree_on_data unit lowered words units sections = record {
  version = version_agrees unit lowered (map string_of words);
  identification = identification_agrees unit lowered (map string_of words);
  counts = counts_agree unit lowered (map string_of words);
  names = names_agree unit lowered (map string_of words);
  types = types_agree unit lowered (map string_of words);
  elements = elements_agree unit lowered (map string_of words);
  attributes = attribute_agrees unit lowered (map string_of words) units (strings_valid words)
      (short unit lowered (map string_of words) sections);
}
