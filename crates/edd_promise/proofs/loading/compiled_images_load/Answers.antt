use Rattle.edd_promise.proofs.Loaded.{never_broken, only_memory}
use Rattle.edd_promise.proofs.loading.compiled_images_load.Goals as goal

pub returns-clause-unbroken : goal.returns-clause-unbroken
returns-clause-unbroken c = λ text b is rule breaks. never_broken b is.valid rule breaks

pub returns-clause-refused : goal.returns-clause-refused
returns-clause-refused c = λ text b is fault breaks. only_memory b is.valid fault breaks
