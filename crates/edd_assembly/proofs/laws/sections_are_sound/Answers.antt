use Rattle.edd_assembly.proofs.SoundSections.{sections_sound}
use Rattle.edd_assembly.proofs.laws.sections_are_sound.Goals as goal

pub returns : goal.returns
returns c unit lowered words checked units sections = sections_sound unit lowered words checked
    units sections
