use Rattle.edd_code.proofs.AttributeEffects.{same_in_attributes}
use Rattle.edd_code.proofs.laws.attributes_are_a_case.Goals as goal

pub returns : goal.returns
returns c = same_in_attributes
