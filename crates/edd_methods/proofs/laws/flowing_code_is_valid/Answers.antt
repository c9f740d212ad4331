use Rattle.edd_methods.proofs.CodeUnits.{unit_is_valid}
use Rattle.edd_methods.proofs.laws.flowing_code_is_valid.Goals as goal

pub returns : goal.returns
returns c = λ context code sort spelled small fits stands.
    unit_is_valid code small context sort spelled fits stands
