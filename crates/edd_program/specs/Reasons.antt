-- Why a description that is an image, or has one, is refused.
use Rattle.std.specs.Prelude.{◌≡◌, ◌≢◌, ◌⊎◌, ⊤, ℕ, List, Option, Some, Ok, Err}
use Rattle.edd_syntax.specs.declared.numbers.ItemNo.{ItemNo}
use Rattle.edd_syntax.specs.declared.numbers.ItemNo.TheVariants.{Method}
use Rattle.edd_syntax.specs.declared.numbers.MethNo.{MethNo}
use Rattle.edd_syntax.specs.DeviceValues.{AreDeviceValues}
use Rattle.edd_image.specs.Contents.{contents_in}
use Rattle.edd_instructions.specs.declared.rules.Rule.{Rule}
use Rattle.edd_instructions.specs.declared.rules.Rule.TheVariants.{Magic}
use Rattle.edd_instructions.specs.Agreement.{name_numbered}
use Rattle.edd_instructions.specs.Validity.{BreaksFirst, IsValid}
use Rattle.edd_loader.specs.declared.fault.LoadFault.{LoadFault}
use Rattle.edd_loader.specs.declared.fault.LoadFault.TheVariants as load_fault
use Rattle.edd_loader.specs.Faults.{rule_of}
use Rattle.edd_loader.specs.Lookups.{IsFirstNamed}
use Rattle.edd_machine.specs.declared.fault.ValuesFault.{ValuesFault}
use Rattle.edd_machine.specs.declared.fault.ValuesFault.TheVariants as values_fault
use Rattle.edd_machine.specs.Faults.{IsValuesFault}
use Rattle.edd_machine.specs.Types.{types_in}
use Rattle.edd_port.specs.declared.fault.PlayFault.{PlayFault}
use Rattle.edd_port.specs.declared.fault.PlayFault.TheVariants as play_fault
use Rattle.edd_port.specs.Plays.{IsPlayFault}
use Rattle.edd_display.specs.declared.fault.ShowFault.{ShowFault}
use Rattle.edd_display.specs.declared.fault.ShowFault.TheVariants as show_fault
use Rattle.edd_files.specs.declared.named.NamedFault.{NamedFault}
use Rattle.edd_files.specs.declared.named.NamedFault.TheVariants as named_fault
use Rattle.edd_script.specs.declared.script.ScriptFault.{ScriptFault}
use Rattle.edd_script.specs.declared.script.ScriptFault.TheVariants as script_fault
use Rattle.edd_script.specs.Named.{variables_in}
use Rattle.edd_script.specs.Scripts.{Said, line_in, script_of}
use Rattle.edd_program.specs.declared.stop.Stop.{Stop}
use Rattle.edd_program.specs.declared.stop.Stop.TheVariants as stop
use Rattle.edd_program.specs.Runs.{IsMethodNamed, IsSaid}

-- ---- where the program stops for a fault

-- a file that could not be read or written stops it by its name
abbrev pub of_named : NamedFault → Stop
of_named (named_fault.File name fault) = stop.File name
of_named named_fault.Memory = stop.Memory

-- out of memory stops it alike wherever it comes from
abbrev pub of_load : LoadFault → Stop
of_load load_fault.Memory = stop.Memory
of_load fault = stop.NotLoaded fault

abbrev pub of_script : ScriptFault → Stop
of_script script_fault.Memory = stop.Memory
of_script fault = stop.Script fault

abbrev pub of_values : ValuesFault → Stop
of_values values_fault.Memory = stop.Memory
of_values fault = stop.Values fault

abbrev pub of_play : PlayFault → Stop
of_play play_fault.Memory = stop.Memory
of_play fault = stop.Play fault

-- values that are none of a device are refused for their count
abbrev pub of_show : ShowFault → Stop
of_show show_fault.Memory = stop.Memory
of_show show_fault.Output = stop.Output
of_show show_fault.WrongValues = stop.Values values_fault.Count

-- ---- what a refusal says of an image and a script

-- this line of the script can't be read
abbrev pub IsWrongLine : (bytes script : List ℕ) → ScriptFault → Type 0
IsWrongLine bytes script fault = (line : ℕ) × (line_in fault ≡ Some line)
    × (script_of (variables_in (contents_in bytes)) script ≡ Err line)

-- there are too many values or too few, or one is out of its range
abbrev pub AreWrongValues : (bytes script : List ℕ) → ValuesFault → Type 0
AreWrongValues bytes script fault = (said : Said)
    × (script_of (variables_in (contents_in bytes)) script ≡ Ok said)
    × IsValuesFault fault (types_in bytes) said.values × (fault ≢ values_fault.Memory)

-- no item has the name, or the first that has it is no method
abbrev pub IsNoMethod : (bytes name : List ℕ) → Type 0
IsNoMethod bytes name =
    ((item : ItemNo) → name_numbered (contents_in bytes) item ≢ Some name)
    ⊎ ((item : ItemNo) × (name_numbered (contents_in bytes) item ≡ Some name)
    × IsFirstNamed (contents_in bytes) name item × ((number : MethNo) → item ≢ Method number))

-- a run was asked for: there is no such method, or it has this fault under the script
abbrev pub BlamesRun : (bytes script method : List ℕ) → (steps : ℕ) → Stop → Type 0
BlamesRun bytes script method steps (stop.NoMethod name) = IsNoMethod bytes method
BlamesRun bytes script method steps (stop.Play fault) = (said : Said) × (number : MethNo)
    × IsSaid bytes script said × IsMethodNamed bytes method number
    × IsPlayFault bytes number said.values steps said.answers fault × (fault ≢ play_fault.Memory)
BlamesRun bytes script method steps _ = ⊤

-- lines were asked for, and no run
abbrev pub BlamesNoRun : Stop → Type 0
BlamesNoRun _ = ⊥

-- what a refusal says of an image that was loaded, but of a run; for lack of memory, or of an output,
-- nothing is wrong with it
abbrev pub BlamesUnder : (bytes script : List ℕ) → (of_run : Stop → Type 0) → Stop → Type 0
BlamesUnder bytes script of_run (stop.Script fault) = IsWrongLine bytes script fault
BlamesUnder bytes script of_run (stop.Values fault) = AreWrongValues bytes script fault
BlamesUnder bytes script of_run (stop.NoMethod name) = of_run (stop.NoMethod name)
BlamesUnder bytes script of_run (stop.Play fault) = of_run (stop.Play fault)
BlamesUnder bytes script of_run stop.Output = ⊤
BlamesUnder bytes script of_run stop.Memory = ⊤
BlamesUnder bytes script of_run (stop.File name) = ⊥
BlamesUnder bytes script of_run (stop.NotCompiled words) = ⊥
BlamesUnder bytes script of_run (stop.NotLoaded fault) = ⊥
BlamesUnder bytes script of_run (stop.TextAsImage line) = ⊥

-- the same of bytes that may be an image: the first rule that they break, or what is said under the
-- script
abbrev pub Blames : (bytes script : List ℕ) → (of_run : Stop → Type 0) → Stop → Type 0
Blames bytes script of_run (stop.NotLoaded fault) =
    (rule : Rule) × (rule_of fault ≡ Some rule) × BreaksFirst bytes rule
Blames bytes script of_run (stop.TextAsImage line) = BreaksFirst bytes Magic
Blames bytes script of_run stop.Output = ⊤
Blames bytes script of_run stop.Memory = ⊤
Blames bytes script of_run other = IsValid bytes × BlamesUnder bytes script of_run other
