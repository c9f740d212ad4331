use Rattle.edd_assembly.proofs.SectionsAgree.{sections_agree_on_data}
use Rattle.edd_assembly.proofs.laws.sections_agree.Goals as goal

pub returns : goal.returns
returns c unit lowered words units sections = sections_agree_on_data unit lowered words units
    sections
