use Rattle.edd_promise.proofs.SameSources.{laid_tokens, same_images, same_refusals}
use Rattle.edd_promise.proofs.sources.layouts_keep_the_images.Goals as goal

pub returns-clause-images : goal.returns-clause-images
returns-clause-images c = λ text laid is.
    same_images text laid is.lexemes is.others is.of_text is.of_other (laid_tokens text laid is)

pub returns-clause-refused : goal.returns-clause-refused
returns-clause-refused c = λ text laid is.
    same_refusals text laid is.lexemes is.others is.of_text is.of_other (laid_tokens text laid is)
