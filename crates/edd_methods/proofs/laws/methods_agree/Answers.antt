use Rattle.edd_methods.proofs.MethodAgreement.{method_agrees}
use Rattle.edd_methods.proofs.laws.methods_agree.Goals as goal

pub returns : goal.returns
returns c = λ unit m text number slots few has small. method_agrees unit m text number slots few has
    small
