-- What a request does where nothing stops it.
use Rattle.std.specs.Prelude.{◌≡◌, ◌∷◌, [], ◌++◌, ℕ, List, Option, Some, codes, decimal, length, option_map}
use Rattle.std.specs.Io.KnownBytes.{Appends}
use Rattle.edd_compiler.specs.Images.{IsImageOf}
use Rattle.edd_files.specs.Names.{input_name}
use Rattle.edd_files.specs.Saves.{Account, Gave, image_saving, with_saving}
use Rattle.edd_program.specs.Runs.{IsPlayed, IsShown, OfImage, OfSource}
use Rattle.edd_program.specs.declared.request.Request.{Request}
use Rattle.edd_program.specs.declared.request.Request.TheVariants.{Compile, View, Show, Play, Try}

-- the line of an image of so many bytes
abbrev pub image_line : (count : ℕ) → List ℕ
image_line count = codes "image " ++ decimal count ++ 10 ∷ []

-- the image of what the source gave is saved under the name of the image, and its length is printed
abbrev pub IsCompiled : (source image : List ℕ) → (before after : Option Account)
    → (old new : Option (List ℕ)) → Type 0
IsCompiled source image before after old new = (text bytes : List ℕ)
    × Gave before (input_name source) text × IsImageOf text bytes
    × (after ≡ option_map (with_saving (image_saving image bytes)) before)
    × Appends old new (image_line (length bytes))

-- What the files hold before and after it, and what was written before it and after it, are as the
-- request asks.
abbrev pub Does : Request → (before after : Option Account) → (old new : Option (List ℕ)) → Type 0
Does (Compile source image) before after old new =
    IsCompiled source.now image.now before after old new
Does (View showing) before after old new =
    OfSource before showing.file.now (option_map (λ name. name.now) showing.script)
    (λ bytes script. IsShown bytes script showing.language.now old new)
Does (Show showing) before after old new =
    OfImage before showing.file.now (option_map (λ name. name.now) showing.script)
    (λ bytes script. IsShown bytes script showing.language.now old new)
Does (Play image run) before after old new =
    OfImage before image.now (Some run.script.now)
    (λ bytes script. IsPlayed bytes script run.method.now run.language.now run.steps old new)
Does (Try source run) before after old new =
    OfSource before source.now (Some run.script.now)
    (λ bytes script. IsPlayed bytes script run.method.now run.language.now run.steps old new)
