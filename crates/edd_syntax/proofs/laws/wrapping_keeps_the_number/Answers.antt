use Rattle.edd_syntax.proofs.WrappedNumbers as numbers
use Rattle.edd_syntax.proofs.laws.wrapping_keeps_the_number.Goals as goal

pub returns : goal.returns
returns c = numbers.wrapping
