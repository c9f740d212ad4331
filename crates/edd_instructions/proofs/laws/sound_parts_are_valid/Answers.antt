use Rattle.edd_instructions.proofs.LayoutValid.{is_valid}
use Rattle.edd_instructions.proofs.laws.sound_parts_are_valid.Goals as goal

pub returns : goal.returns
returns c = λ s are short sound. is_valid s are short sound
