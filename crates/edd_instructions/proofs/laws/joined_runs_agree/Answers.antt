use Rattle.edd_instructions.proofs.JoinedAgreement.{joined_agree}
use Rattle.edd_instructions.proofs.laws.joined_runs_agree.Goals as goal

pub returns : goal.returns
returns c = joined_agree
