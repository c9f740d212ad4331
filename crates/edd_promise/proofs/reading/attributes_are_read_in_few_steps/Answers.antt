use Rattle.edd_promise.proofs.FewSteps.{few_steps}
use Rattle.edd_promise.proofs.reading.attributes_are_read_in_few_steps.Goals as goal

pub returns : goal.returns
returns c = λ b ref device r valid are reading.
    few_steps b ref device valid are reading.0 r reading.1
