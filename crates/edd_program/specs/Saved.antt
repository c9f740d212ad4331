-- What a request may save.
use Rattle.std.specs.Prelude.{Option}
use Rattle.edd_files.specs.Saves.{Account, IsImageSaving, Saving}
use Rattle.edd_program.specs.declared.request.Request.{Request}
use Rattle.edd_program.specs.declared.request.Request.TheVariants.{Compile}

-- `compile` saves the image of its source under the name of its image, and no other request anything
abbrev pub MaySave : Request → Option Account → Saving → Type 0
MaySave (Compile source image) account s = IsImageSaving account source.now image.now s
MaySave _ account s = ⊥
