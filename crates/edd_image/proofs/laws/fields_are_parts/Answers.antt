use Rattle.edd_image.proofs.LayoutFields.{contents_are}
use Rattle.edd_image.proofs.laws.fields_are_parts.Goals as goal

pub returns : goal.returns
returns c = λ s are. contents_are s are
