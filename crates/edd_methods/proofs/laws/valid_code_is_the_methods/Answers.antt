use Rattle.edd_methods.proofs.MethodAgreement.{is_method_code}
use Rattle.edd_methods.proofs.laws.valid_code_is_the_methods.Goals as goal

pub returns : goal.returns
returns c = is_method_code
