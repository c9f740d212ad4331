use Rattle.edd_assembly.proofs.ShortCode.{short_code}
use Rattle.edd_assembly.proofs.bounds.code_is_short.Goals as goal

pub returns : goal.returns
returns c unit checked = short_code unit checked
