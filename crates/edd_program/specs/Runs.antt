-- What the commands print of a description.
use Rattle.std.specs.Prelude.{◌≡◌, ℕ, List, Option, Some, Ok, option_map}
use Rattle.std.specs.Io.KnownBytes.{Appends}
use Rattle.edd_syntax.specs.declared.numbers.ItemNo.TheVariants.{Method}
use Rattle.edd_syntax.specs.declared.numbers.MethNo.{MethNo}
use Rattle.edd_syntax.specs.DeviceValues.{AreDeviceValues}
use Rattle.edd_image.specs.Contents.{contents_in}
use Rattle.edd_instructions.specs.Agreement.{name_numbered}
use Rattle.edd_loader.specs.Lookups.{IsFirstNamed}
use Rattle.edd_machine.specs.Types.{types_in}
use Rattle.edd_port.specs.declared.playing.Transcript.{Transcript}
use Rattle.edd_port.specs.Plays.{ending_shown, played}
use Rattle.edd_compiler.specs.Images.{IsImageOf}
use Rattle.edd_display.specs.Played.{played_text}
use Rattle.edd_display.specs.Shown.{Prints, entries_of}
use Rattle.edd_script.specs.Named.{variables_in}
use Rattle.edd_script.specs.Scripts.{Said, script_of}
use Rattle.edd_files.specs.Names.{input_name}
use Rattle.edd_files.specs.Saves.{Account, Gave, GaveScript}

-- ---- of an image

-- the script says this of the image's variables, and its values are those of a device
abbrev pub IsSaid : (bytes script : List ℕ) → Said → Type 0
IsSaid bytes script said = (script_of (variables_in (contents_in bytes)) script ≡ Ok said)
    × AreDeviceValues (types_in bytes) said.values

-- the lines of an image under what the script sets
abbrev pub IsShown : (bytes script language : List ℕ) → (before after : Option (List ℕ)) → Type 0
IsShown bytes script language before after = (said : Said) × IsSaid bytes script said
    × Prints bytes said.values language (entries_of (contents_in bytes)) before after

-- the first item of the name is this method
abbrev pub IsMethodNamed : (bytes name : List ℕ) → MethNo → Type 0
IsMethodNamed bytes name number =
    (name_numbered (contents_in bytes) (Method number) ≡ Some name)
    × IsFirstNamed (contents_in bytes) name (Method number)

-- what the method does under the values and answers of a script, within so many steps
abbrev pub IsTranscript : (bytes : List ℕ) → MethNo → Said → (steps : ℕ) → Transcript → Type 0
IsTranscript bytes number said steps t =
    (option_map (λ o. o.requests) (played bytes number said.values steps said.answers)
    ≡ Some t.requests.items)
    × (option_map (λ o. o.state.values) (played bytes number said.values steps said.answers)
    ≡ Some t.values.numbers.items)
    × (option_map (λ o. o.ending) (played bytes number said.values steps said.answers)
    ≡ Some (ending_shown t.ending))

-- what the method of the name does under the script
unfoldable pub IsRun : (bytes script method : List ℕ) → (steps : ℕ) → Transcript → Type 0
IsRun bytes script method steps t = (said : Said) × (number : MethNo)
    × IsSaid bytes script said × IsMethodNamed bytes method number
    × IsTranscript bytes number said steps t

-- the lines of what the method of the name does under the script
unfoldable pub IsPlayed : (bytes script method language : List ℕ) → (steps : ℕ)
    → (before after : Option (List ℕ)) → Type 0
IsPlayed bytes script method language steps before after = (t : Transcript)
    × IsRun bytes script method steps t
    × Appends before after (played_text (contents_in bytes) language t)

-- ---- of files

-- P of what the file of an image and that of a script gave
abbrev pub OfImage : Option Account → (image : List ℕ) → (script : Option (List ℕ))
    → (P : (bytes script : List ℕ) → Type 0) → Type 0
OfImage account image name P = (bytes script : List ℕ) × Gave account (input_name image) bytes
    × GaveScript account name script × P bytes script

-- P of an image of what the file of a source gave, and of what that of a script gave
abbrev pub OfSource : Option Account → (source : List ℕ) → (script : Option (List ℕ))
    → (P : (bytes script : List ℕ) → Type 0) → Type 0
OfSource account source name P = (text bytes script : List ℕ)
    × Gave account (input_name source) text × IsImageOf text bytes
    × GaveScript account name script × P bytes script
