use Rattle.edd_promise.proofs.SameSources.{same_images, same_refusals}
use Rattle.edd_promise.proofs.sources.tokens_say_the_images.Goals as goal

pub returns-clause-images : goal.returns-clause-images
returns-clause-images c = same_images

pub returns-clause-refused : goal.returns-clause-refused
returns-clause-refused c = same_refusals
