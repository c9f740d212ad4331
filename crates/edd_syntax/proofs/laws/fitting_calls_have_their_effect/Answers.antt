use Rattle.edd_syntax.proofs.Effects.{effects}
use Rattle.edd_syntax.proofs.laws.fitting_calls_have_their_effect.Goals as goal

pub returns : goal.returns
returns c = effects
