use Rattle.edd_embed.proofs.OtherValues.{under_others}
use Rattle.edd_embed.proofs.laws.sessions_are_of_any_values.Goals as goal

pub returns : goal.returns
returns c = λ b p values other is are. under_others b p values other is are
