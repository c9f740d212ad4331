-- What the program prints of a source, said of the source alone.
use Rattle.std.specs.Prelude.{⊤, ◌⊎◌, ℕ, List, Option, Some, option_map}
use Rattle.std.specs.Io.KnownBytes.{Appends}
use Rattle.std.specs.List.{AllByRecursion}
use Rattle.edd_syntax.specs.declared.numbers.MethNo.{MethNo}
use Rattle.edd_syntax.specs.declared.reference.Target.{Target}
use Rattle.edd_syntax.specs.Accepted.{IsAccepted}
use Rattle.edd_syntax.specs.Answers.{IsValidAnswer}
use Rattle.edd_syntax.specs.Device.{environment}
use Rattle.edd_syntax.specs.Item.{Description}
use Rattle.edd_syntax.specs.Reference.{Path}
use Rattle.edd_compiler.specs.Sources.{IsUnitOf}
use Rattle.edd_files.specs.Names.{input_name}
use Rattle.edd_files.specs.Saves.{Account, Gave, GaveScript}
use Rattle.edd_program.specs.declared.request.Request.{Request}
use Rattle.edd_program.specs.declared.request.Request.TheVariants.{Try, View}
use Rattle.edd_script.specs.Scripts.{Said}
use Rattle.edd_terminal.specs.Lines.{unit_shown}
use Rattle.edd_terminal.specs.Runs.{IsBegunRun, IsMethodOf, IsWholeRun}
use Rattle.edd_terminal.specs.Scripts.{IsSaidOf}

-- the output grows by the lines of the description under what the script sets
abbrev pub ShowsUnit : Description Target → (script code : List ℕ) → (old new : Option (List ℕ))
    → Type 0
ShowsUnit unit script code old new = (said : Said) × IsSaidOf unit script said
    × Appends old new (unit_shown unit code said.values)

-- The output grows by the lines of the run of the method of this name under the script, whose answers
-- are valid: of the whole run, or of its beginning where the steps are used up.
abbrev pub PlaysUnit : Description Target → (script name code : List ℕ)
    → (old new : Option (List ℕ)) → Type 0
PlaysUnit unit script name code old new = (said : Said) × (method : MethNo) × (text : List ℕ)
    × IsSaidOf unit script said × IsMethodOf unit name method × Appends old new text
    × (AllByRecursion (IsValidAnswer (environment unit).variables) said.answers
    → IsWholeRun unit code method said text ⊎ IsBegunRun unit code method said text)

-- P of the description that the file of a source spells, and of what the file of a script gave
abbrev pub OfUnit : Option Account → (source : List ℕ) → (script : Option (List ℕ))
    → (P : Description Target → (script : List ℕ) → Type 0) → Type 0
OfUnit account source name P = (text script : List ℕ) × (unit : Description Path)
    × (accepted : IsAccepted unit) × Gave account (input_name source) text × IsUnitOf text unit
    × GaveScript account name script × P accepted.resolved script

-- what `view` and `try` print of a source
abbrev pub Prints : Request → Option Account → (old new : Option (List ℕ)) → Type 0
Prints (View showing) account old new =
    OfUnit account showing.file.now (option_map (λ name. name.now) showing.script)
    (λ unit script. ShowsUnit unit script showing.language.now old new)
Prints (Try source run) account old new =
    OfUnit account source.now (Some run.script.now)
    (λ unit script. PlaysUnit unit script run.method.now run.language.now old new)
Prints _ account old new = ⊤
