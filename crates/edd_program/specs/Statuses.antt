-- What the exit statuses 1 and 3 say: something is refused, or a file fails.
use Rattle.std.specs.Prelude.{◌≡◌, ◌⊎◌, ◌∷◌, [], ◌++◌, ℕ, Bool, true, false, List, Option, Some, None, codes, option_map, string_bytes, ⊤}
use Rattle.std.specs.Io.KnownBytes.{Appends}
use Rattle.edd_compiler.specs.declared.fault.Fault.{Fault}
use Rattle.edd_compiler.specs.Faults.{Explains}
use Rattle.edd_compiler.specs.Words.{IsRefusalOf}
use Rattle.edd_files.specs.Names.{input_name}
use Rattle.edd_files.specs.Saves.{Account, Gave}
use Rattle.edd_program.specs.Reasons.{Blames, BlamesNoRun, BlamesRun}
use Rattle.edd_program.specs.Refusals.{refusal_in}
use Rattle.edd_program.specs.Runs.{OfImage, OfSource}
use Rattle.edd_program.specs.declared.request.Request.{Request}
use Rattle.edd_program.specs.declared.request.Request.TheVariants.{Compile, View, Show, Play, Try}
use Rattle.edd_program.specs.declared.request.Showing.{Showing}
use Rattle.edd_program.specs.declared.stop.Stop.{Stop}
use Rattle.edd_program.specs.declared.stop.Stop.TheVariants.{File, NotCompiled, Output, Memory}

-- the line of a refusal
abbrev pub refusal_line : (words : List ℕ) → List ℕ
refusal_line words = codes "refused " ++ words ++ 10 ∷ []

-- what the file of a source gave is refused with these words
abbrev pub IsRefusedWith : Option Account → (source words : List ℕ) → Type 0
IsRefusedWith account source words = (text : List ℕ) × Gave account (input_name source) text
    × (fault : Fault) × Explains text fault × IsRefusalOf text fault words

-- the name of the script of what is shown, where there is one
abbrev pub script_named : Showing → Option (List ℕ)
script_named showing = option_map (λ name. name.now) showing.script

-- ---- why the program stops

-- something is refused: neither a file nor the output fails, and there is memory
abbrev pub is_refusal : Stop → Bool
is_refusal (File name) = false
is_refusal Output = false
is_refusal Memory = false
is_refusal _ = true

-- a file fails, of which this holds, or there is no memory
abbrev pub IsFailure : (named : (file : List ℕ) → Type 0) → Stop → Type 0
IsFailure named (File name) = named name.now
IsFailure named Memory = ⊤
IsFailure named _ = ⊥

-- Where a source is refused, this holds of the words; where something else is, this holds of it; and
-- where a file fails, this holds of its name. Before the first and the last nothing was printed.
abbrev pub StopsBy : (compiled : (words : List ℕ) → Type 0) → (behind : Stop → Type 0)
    → (named : (file : List ℕ) → Type 0) → (old new : Option (List ℕ)) → Stop → Type 0
StopsBy compiled behind named old new (NotCompiled words) = compiled (string_bytes words)
    × (new ≡ old)
StopsBy compiled behind named old new (File name) = named name.now × (new ≡ old)
StopsBy compiled behind named old new Output = ⊤
StopsBy compiled behind named old new Memory = ⊤
StopsBy compiled behind named old new other = behind other

-- ---- requests

-- it is the file of a description or that of a script
abbrev pub IsEither : (description : List ℕ) → (script : Option (List ℕ)) → (file : List ℕ) → Type 0
IsEither description script file = (file ≡ description) ⊎ (script ≡ Some file)

-- the request names this file
abbrev pub Names : Request → (file : List ℕ) → Type 0
Names (Compile source image) file = (file ≡ source.now) ⊎ (file ≡ image.now)
Names (View showing) file = IsEither showing.file.now (script_named showing) file
Names (Show showing) file = IsEither showing.file.now (script_named showing) file
Names (Play image run) file = IsEither image.now (Some run.script.now) file
Names (Try source run) file = IsEither source.now (Some run.script.now) file

-- something is refused of the image of what the file of a source gave
abbrev pub BehindSource : Option Account → (source : List ℕ) → (script : Option (List ℕ))
    → (of_run : (bytes script : List ℕ) → Stop → Type 0) → Stop → Type 0
BehindSource account source script of_run stop = OfSource account source script
    (λ bytes read. Blames bytes read (of_run bytes read) stop)

-- something is refused of what the file of an image gave
abbrev pub BehindImage : Option Account → (image : List ℕ) → (script : Option (List ℕ))
    → (of_run : (bytes script : List ℕ) → Stop → Type 0) → Stop → Type 0
BehindImage account image script of_run stop = OfImage account image script
    (λ bytes read. Blames bytes read (of_run bytes read) stop)

-- what is refused behind the text of a source: nothing where it is only compiled
abbrev pub Behind : Request → Option Account → Stop → Type 0
Behind (Compile source image) account stop = ⊥
Behind (View showing) account stop =
    BehindSource account showing.file.now (script_named showing) (λ bytes script. BlamesNoRun) stop
Behind (Show showing) account stop =
    BehindImage account showing.file.now (script_named showing) (λ bytes script. BlamesNoRun) stop
Behind (Play image run) account stop =
    BehindImage account image.now (Some run.script.now)
    (λ bytes script. BlamesRun bytes script run.method.now run.steps) stop
Behind (Try source run) account stop =
    BehindSource account source.now (Some run.script.now)
    (λ bytes script. BlamesRun bytes script run.method.now run.steps) stop

-- the text of a source is refused with these words; an image has none
abbrev pub IsRefusedText : Request → Option Account → (words : List ℕ) → Type 0
IsRefusedText (Compile source image) account words = IsRefusedWith account source.now words
IsRefusedText (View showing) account words = IsRefusedWith account showing.file.now words
IsRefusedText (Show showing) account words = ⊥
IsRefusedText (Play image run) account words = ⊥
IsRefusedText (Try source run) account words = IsRefusedWith account source.now words

-- where a request stops
abbrev pub Stops : Request → Option Account → (old new : Option (List ℕ)) → Stop → Type 0
Stops request account old new stop =
    StopsBy (IsRefusedText request account) (Behind request account) (Names request) old new stop

-- ---- what a status says

-- 1: the text of the source is refused, and the one line that is printed says with what; or something
-- behind it is
abbrev pub Refuses : Request → Option Account → (old new : Option (List ℕ)) → Type 0
Refuses request account old new =
    ((words : List ℕ) × IsRefusedText request account words × Appends old new (refusal_line words))
    ⊎ ((stop : Stop) × (is_refusal stop ≡ true) × (refusal_in stop ≡ None)
    × Behind request account stop)

-- the line of a file that failed
abbrev pub file_line : (file : List ℕ) → List ℕ
file_line file = codes "file " ++ file ++ 10 ∷ []

-- 3, where all lines were taken: a file of the request failed, and the one line that is printed says
-- which
abbrev pub Fails : Request → (old new : Option (List ℕ)) → Type 0
Fails request old new = (file : List ℕ) × Names request file × Appends old new (file_line file)
