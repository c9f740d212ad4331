-- What the words of a command line ask for.
use Rattle.std.specs.Prelude.{ℕ, List, ⊤}
use Rattle.edd_files.specs.Saves.{AreInOrder}
use Rattle.edd_program.specs.declared.request.Request.{Request}
use Rattle.edd_program.specs.declared.request.Request.TheVariants.{Compile}

-- where an image is to be saved, the words name its source and behind that the image
abbrev pub IsAsked : (words : List (List ℕ)) → Request → Type 0
IsAsked words (Compile source image) = AreInOrder words source.now image.now
IsAsked words _ = ⊤
