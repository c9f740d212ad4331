use Rattle.edd_assembly.proofs.FewSlots.{body_code}
use Rattle.edd_assembly.proofs.laws.method_code_is_body_code.Goals as goal

pub returns : goal.returns
returns c unit strings m slots code checked is = body_code unit m code checked is
