-- What is read and printed, put together.
use Rattle.std.proofs.Common.{◌≡◌, ℕ, List, map, subst}
use Rattle.std.specs.Prelude.{ℤ, Option, Some, Ok, option_map}
use Rattle.std.specs.Io.KnownBytes.{Appends}
use Rattle.edd_syntax.specs.declared.numbers.MethNo.{MethNo}
use Rattle.edd_syntax.specs.Answers.{answer_of}
use Rattle.edd_syntax.specs.DeviceValues.{AreDeviceValues}
use Rattle.edd_image.specs.Contents.{contents_in}
use Rattle.edd_machine.specs.Types.{types_in}
use Rattle.edd_port.specs.declared.playing.Transcript.{Transcript}
use Rattle.edd_port.specs.Plays.{ending_shown, played}
use Rattle.edd_display.specs.Played.{played_text}
use Rattle.edd_display.specs.Shown.{Prints, entries_of}
use Rattle.edd_script.specs.declared.script.Script.{Script}
use Rattle.edd_script.specs.Named.{variables_in}
use Rattle.edd_script.specs.Scripts.{said_in, script_of}
use Rattle.edd_program.specs.Runs.{IsMethodNamed, IsPlayed, IsRun, IsShown}

-- the lines under the values of a script
pub shown_under : (bytes script language : List ℕ) (read : Script) (values : List ℤ)
    (before after : Option (List ℕ)) → script_of (variables_in (contents_in bytes)) script ≡ Ok (said_in read)
    → values ≡ read.values.items → AreDeviceValues (types_in bytes) read.values.items
    → Prints bytes values language (entries_of (contents_in bytes)) before after
    → IsShown bytes script language before after
shown_under bytes script language read values before after says same are prints = (
  said_in read,
  (says, are),
  subst (λ v. Prints bytes v language (entries_of (contents_in bytes)) before after) same prints,
)

-- a run under the values and answers of a script
pub run_under : (bytes script method : List ℕ) (steps : ℕ) (read : Script) (values : List ℤ)
    (number : MethNo) (t : Transcript) → script_of (variables_in (contents_in bytes)) script ≡ Ok (said_in read)
    → values ≡ read.values.items → AreDeviceValues (types_in bytes) values
    → IsMethodNamed bytes method number
    → option_map (λ o. o.requests) (played bytes number values steps
    (map answer_of read.answers.items)) ≡ Some t.requests.items
    → option_map (λ o. o.state.values) (played bytes number values steps
    (map answer_of read.answers.items)) ≡ Some t.values.numbers.items
    → option_map (λ o. o.ending) (played bytes number values steps
    (map answer_of read.answers.items)) ≡ Some (ending_shown t.ending)
    → IsRun bytes script method steps t
unfolding IsRun
run_under bytes script method steps read values number t says same are named requests left ending =
    let as_said = said_in read in (
      as_said,
      number,
      (says, subst (AreDeviceValues (types_in bytes)) same are),
      named,
      (
        subst (λ v. option_map (λ o. o.requests) (played bytes number v steps as_said.answers)
            ≡ Some t.requests.items) same requests,
        subst (λ v. option_map (λ o. o.state.values) (played bytes number v steps as_said.answers)
            ≡ Some t.values.numbers.items) same left,
        subst (λ v. option_map (λ o. o.ending) (played bytes number v steps as_said.answers)
            ≡ Some (ending_shown t.ending)) same ending,
      ),
    )

-- the lines of a run
pub played_under : (bytes script method language : List ℕ) (steps : ℕ) (t : Transcript)
    (before after : Option (List ℕ)) → IsRun bytes script method steps t
    → Appends before after (played_text (contents_in bytes) language t)
    → IsPlayed bytes script method language steps before after
unfolding IsPlayed
played_under bytes script method language steps t before after run appends = (t, run, appends)
