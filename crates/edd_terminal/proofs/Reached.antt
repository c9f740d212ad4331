-- What a request does, said of its source.
use Rattle.std.proofs.Common.{ℕ, List, Option}
use Rattle.edd_files.specs.Saves.{Account}
use Rattle.edd_program.specs.declared.request.Request.{Request}
use Rattle.edd_program.specs.declared.request.Request.TheVariants.{Compile, Play, Show, Try, View}
use Rattle.edd_program.specs.Done.{Does}
use Rattle.edd_terminal.specs.Terminal.{Prints}
use Rattle.edd_terminal.proofs.Tries.{plays_unit}
use Rattle.edd_terminal.proofs.Views.{shows_unit}

pub reached : (request : Request) (before after : Option Account) (old new : Option (List ℕ))
    → Does request before after old new → Prints request before old new
reached (View showing) before after old new is =
    let image = is.4 in (
      is.0,
      is.2,
      image.unit,
      image.accepted,
      is.3,
      image.spelled,
      is.5,
      shows_unit image.accepted.resolved is.1 image.agrees.on_data is.2 showing.language.now old new
          is.6,
    )
reached (Try source run) before after old new is =
    let image = is.4 in (
      is.0,
      is.2,
      image.unit,
      image.accepted,
      is.3,
      image.spelled,
      is.5,
      plays_unit image.accepted.resolved is.1 image.valid image.agrees is.2 run.method.now
          run.language.now run.steps old new is.6,
    )
reached (Compile source image) before after old new is = tt
reached (Show showing) before after old new is = tt
reached (Play image run) before after old new is = tt
