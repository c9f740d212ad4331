-- What stops the program behind a text, and what that says of the image.
use Rattle.std.proofs.Common.{◌≡◌, ◌≢◌, false, subst, refl, sym, ap, ◌∙◌, ℕ, ℤ, List, Option, Some, None}
use Rattle.std.specs.Prelude.{IfSome, IsTrue, Err, Ok, map}
use Rattle.edd_syntax.specs.declared.numbers.MethNo.{MethNo}
use Rattle.edd_syntax.specs.Answers.{answer_of}
use Rattle.edd_syntax.specs.DeviceValues.{AreDeviceValues}
use Rattle.edd_image.specs.Contents.{contents_in}
use Rattle.edd_instructions.specs.declared.rules.Rule.{Rule}
use Rattle.edd_instructions.specs.declared.rules.Rule.TheVariants.{Magic}
use Rattle.edd_instructions.specs.Validity.{BreaksFirst, IsValid}
use Rattle.edd_loader.specs.declared.fault.LoadFault.{LoadFault}
use Rattle.edd_loader.specs.declared.fault.LoadFault.TheVariants as load_fault
use Rattle.edd_loader.specs.Faults.{rule_of}
use Rattle.edd_machine.specs.declared.fault.ValuesFault.{ValuesFault}
use Rattle.edd_machine.specs.declared.fault.ValuesFault.TheVariants as values_fault
use Rattle.edd_machine.specs.Faults.{IsValuesFault}
use Rattle.edd_machine.specs.Types.{types_in}
use Rattle.edd_port.specs.declared.fault.PlayFault.{PlayFault}
use Rattle.edd_port.specs.declared.fault.PlayFault.TheVariants as play_fault
use Rattle.edd_port.specs.Plays.{IsPlayFault}
use Rattle.edd_display.specs.declared.fault.ShowFault.{ShowFault}
use Rattle.edd_display.specs.declared.fault.ShowFault.TheVariants as show_fault
use Rattle.edd_display.specs.Shown.{blames_values}
use Rattle.edd_script.specs.declared.script.Script.{Script}
use Rattle.edd_script.specs.declared.script.ScriptFault.{ScriptFault}
use Rattle.edd_script.specs.declared.script.ScriptFault.TheVariants as script_fault
use Rattle.edd_script.specs.Named.{variables_in}
use Rattle.edd_script.specs.Scripts.{line_in, said_in, script_of}
use Rattle.edd_program.specs.declared.stop.Stop.{Stop}
use Rattle.edd_program.specs.declared.stop.Stop.TheVariants as stop
use Rattle.edd_program.specs.Reasons.{Blames, BlamesNoRun, BlamesRun, BlamesUnder, IsNoMethod, of_load, of_play, of_script, of_show, of_values}
use Rattle.edd_program.specs.Runs.{IsMethodNamed}

module _ (bytes script : List ℕ) (of_run : Stop → Type 0) where
  -- ---- under a script

  pub script_blamed : (fault : ScriptFault)
      → IfSome (line_in fault) (λ line. script_of (variables_in (contents_in bytes)) script ≡ Err line)
      → BlamesUnder bytes script of_run (of_script fault)
  script_blamed (script_fault.Line line) is = (line, refl, is)
  script_blamed script_fault.Memory is = tt

  pub values_blamed : (read : Script) (fault : ValuesFault)
      → script_of (variables_in (contents_in bytes)) script ≡ Ok (said_in read)
      → IsValuesFault fault (types_in bytes) read.values.items
      → BlamesUnder bytes script of_run (of_values fault)
  values_blamed read values_fault.Memory says is = tt
  values_blamed read values_fault.Count says is = (said_in read, says, is, λ e. cc)
  values_blamed read values_fault.Range says is = (said_in read, says, is, λ e. cc)

  pub lines_blamed : (values : List ℤ) (fault : ShowFault)
      → (IsTrue (blames_values fault) → ¬ AreDeviceValues (types_in bytes) values)
      → AreDeviceValues (types_in bytes) values → BlamesUnder bytes script of_run (of_show fault)
  lines_blamed values show_fault.Memory only are = tt
  lines_blamed values show_fault.Output only are = tt
  lines_blamed values show_fault.WrongValues only are = absurd (only refl are)

  -- ---- of bytes that may be an image

  pub bytes_blamed : (fault : LoadFault) → IfSome (rule_of fault) (BreaksFirst bytes)
      → Blames bytes script of_run (of_load fault)
  bytes_blamed load_fault.Memory is = tt
  bytes_blamed load_fault.Short is = (_, refl, is)
  bytes_blamed load_fault.Magic is = (_, refl, is)
  bytes_blamed load_fault.Version is = (_, refl, is)
  bytes_blamed load_fault.Length is = (_, refl, is)
  bytes_blamed load_fault.Row is = (_, refl, is)
  bytes_blamed load_fault.Name is = (_, refl, is)
  bytes_blamed load_fault.Text is = (_, refl, is)
  bytes_blamed load_fault.Instruction is = (_, refl, is)
  bytes_blamed load_fault.Jump is = (_, refl, is)
  bytes_blamed load_fault.Depth is = (_, refl, is)
  bytes_blamed load_fault.Reference is = (_, refl, is)

  pub image_blamed : (s : Stop) → IsValid bytes → BlamesUnder bytes script of_run s
      → Blames bytes script of_run s
  image_blamed (stop.NotLoaded fault) valid is = absurd is
  image_blamed (stop.TextAsImage line) valid is = absurd is
  image_blamed stop.Output valid is = tt
  image_blamed stop.Memory valid is = tt
  image_blamed (stop.File name) valid is = absurd is
  image_blamed (stop.NotCompiled words) valid is = absurd is
  image_blamed (stop.Script fault) valid is = (valid, is)
  image_blamed (stop.Values fault) valid is = (valid, is)
  image_blamed (stop.NoMethod name) valid is = (valid, is)
  image_blamed (stop.Play fault) valid is = (valid, is)

  -- the lines of a run, which are printed after all else went well
  pub run_blamed : (fault : ShowFault) → blames_values fault ≡ false → IsValid bytes
      → Blames bytes script of_run (of_show fault)
  run_blamed show_fault.Memory is valid = tt
  run_blamed show_fault.Output is valid = tt
  run_blamed show_fault.WrongValues is valid = absurd cc

-- a text is shown as an image: its first fault was that it is none
pub magic_blamed : (bytes script : List ℕ) (line : _)
    → Blames bytes script BlamesNoRun (stop.NotLoaded load_fault.Magic)
    → Blames bytes script BlamesNoRun (stop.TextAsImage line)
magic_blamed bytes script line is =
    let one : Magic ≡ is.0 = cc in subst (BreaksFirst bytes) (sym one) is.2

module _ (bytes script method : List ℕ) (steps : ℕ) where
  pub method_blamed : (name : _) → IsNoMethod bytes method
      → BlamesUnder bytes script (BlamesRun bytes script method steps) (stop.NoMethod name)
  method_blamed name is = is

  pub play_blamed : (read : Script) (values : List ℤ) (number : MethNo) (fault : PlayFault)
      → script_of (variables_in (contents_in bytes)) script ≡ Ok (said_in read)
      → values ≡ read.values.items → AreDeviceValues (types_in bytes) read.values.items
      → IsMethodNamed bytes method number
      → IsPlayFault bytes number values steps (map answer_of read.answers.items) fault
      → BlamesUnder bytes script (BlamesRun bytes script method steps) (of_play fault)
  play_blamed read values number play_fault.Memory says same are named is = tt
  play_blamed read values number play_fault.NoItem says same are named is =
      (said_in read, number, (says, are), named, is, λ e. cc)
  play_blamed read values number play_fault.WrongValues says same are named is = (
    said_in read,
    number,
    (says, are),
    named,
    subst (λ (v : List ℤ). IsPlayFault bytes number v steps (map answer_of read.answers.items)
        play_fault.WrongValues) same is,
    λ e. cc,
  )
  play_blamed read values number play_fault.BadVariable says same are named is = (
    said_in read,
    number,
    (says, are),
    named,
    subst (λ (v : List ℤ). IsPlayFault bytes number v steps (map answer_of read.answers.items)
        play_fault.BadVariable) same is,
    λ e. cc,
  )
  play_blamed read values number play_fault.OutOfRange says same are named is = (
    said_in read,
    number,
    (says, are),
    named,
    subst (λ (v : List ℤ). IsPlayFault bytes number v steps (map answer_of read.answers.items)
        play_fault.OutOfRange) same is,
    λ e. cc,
  )
