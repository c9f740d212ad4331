use Rattle.edd_attrs.proofs.UnitStrings.{strings_in_unit}
use Rattle.edd_attrs.proofs.laws.strings_are_the_descriptions.Goals as goal

pub returns : goal.returns
returns c = strings_in_unit
