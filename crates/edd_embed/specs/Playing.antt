-- A method that is played under the answers of a program in C.
use Rattle.std.specs.Prelude.{◌≡◌, ◌≢◌, ◌==◌, ◌&&◌, Bool, true, false, ℕ, ℤ, nat_le, pos, if◌then◌else◌, List, [], ◌∷◌, length, map, option_map, take, drop, Some}
use Rattle.edd_syntax.specs.declared.answer.Trap.{Trap}
use Rattle.edd_syntax.specs.declared.answer.Trap.TheVariants as trap
use Rattle.edd_syntax.specs.Answers.{Answer, Go, Abort, Change}
use Rattle.edd_syntax.specs.DeviceValues.{AreDeviceValues}
use Rattle.edd_instructions.specs.declared.requests.Request.{Request}
use Rattle.edd_instructions.specs.declared.requests.RequestArgument.{RequestArgument}
use Rattle.edd_instructions.specs.declared.requests.RequestArgument.TheVariants as argument
use Rattle.edd_instructions.specs.declared.requests.Wanted.{Wanted}
use Rattle.edd_instructions.specs.declared.requests.Wanted.TheVariants as wanted
use Rattle.edd_instructions.specs.Requests.{arguments_asked, kind_asked, numbers_in, wanted_by}
use Rattle.edd_syntax.specs.Builtins.{request_number}
use Rattle.edd_syntax.specs.declared.numbers.MethNo.{MethNo}
use Rattle.edd_machine.specs.Types.{types_in}
use Rattle.edd_port.specs.declared.fault.PlayFault.TheVariants as play_fault
use Rattle.edd_port.specs.Plays.{IsPlayFault, ending_shown, played}
use Rattle.edd_port.specs.declared.playing.Ending.{Ending}
use Rattle.edd_port.specs.declared.playing.Ending.TheVariants as ending
use Rattle.edd_embed.specs.declared.answers.Setting.{Setting}
use Rattle.edd_embed.specs.declared.answers.Given.{Given}
use Rattle.edd_embed.specs.declared.requests.PlainRequest.{PlainRequest}
use Rattle.edd_embed.specs.declared.playing.PlainEnding.{PlainEnding}
use Rattle.edd_embed.specs.declared.playing.PlayRefusal.{PlayRefusal}
use Rattle.edd_embed.specs.declared.playing.PlayRefusal.TheVariants.{Play, Room, Settings}
use Rattle.edd_embed.specs.Records.{no_string, written_over}

-- ---- answers

-- the change that a setting of the program in C stands for
abbrev pub change_of : Setting → Change
change_of s = record { variable = record { 0 = s.variable }; value = s.value }

-- the answer with these settings: an abort sets nothing
abbrev pub answer_with : Given → List Setting → Answer
answer_with g settings = if g.aborts == 0 then Go g.code (map change_of settings) else Abort

-- each answer has as many settings as it says, one after the other
abbrev pub have_settings : List Given → List Setting → Bool
have_settings [] settings = true
have_settings (g ∷ gs) settings =
    nat_le g.settings (length settings) && have_settings gs (drop g.settings settings)

-- the answers, each with as many of the settings as it says, one after the other
abbrev pub answers_of : List Given → List Setting → List Answer
answers_of [] settings = []
answers_of (g ∷ gs) settings =
    answer_with g (take g.settings settings) ∷ answers_of gs (drop g.settings settings)

-- ---- requests

-- a request with this tag and nothing else
abbrev pub bare : (tag : ℕ) → PlainRequest
bare tag = record {
  first = pos 0;
  second = pos 0;
  text = no_string;
  choices = no_string;
  variable = 0;
  tag = tag;
}

-- the first text
abbrev pub first_text : List RequestArgument → ℕ
first_text [] = no_string
first_text (argument.Text t ∷ rest) = t.0
first_text (_ ∷ rest) = first_text rest

-- the choices among which one is wanted
abbrev pub choices_wanted : Wanted → ℕ
choices_wanted (wanted.Choice choices) = choices.0
choices_wanted _ = no_string

-- the variable for which a value is wanted
abbrev pub variable_wanted : Wanted → ℕ
variable_wanted (wanted.Value v) = v.0
variable_wanted _ = 0

-- what a request is in C: its tag, and what it has in the fields of its sort
abbrev pub plain_request : Request → PlainRequest
plain_request r = record {
  first = (numbers_in r).0;
  second = (numbers_in r).1;
  text = first_text (arguments_asked r);
  choices = choices_wanted (wanted_by r);
  variable = variable_wanted (wanted_by r);
  tag = request_number (kind_asked r);
}

-- ---- endings

-- the number of a trap
abbrev pub trap_number : Trap → ℕ
trap_number trap.DivZero = 210
trap_number trap.DivOverflow = 211
trap_number trap.BadShift = 212
trap_number trap.NoElement = 213

-- the number of an ending
abbrev pub ending_number : Ending → ℕ
ending_number ending.Ended = 0
ending_number ending.Aborted = 1
ending_number (ending.Trapped why) = 2
ending_number ending.Waiting = 3
ending_number ending.Spent = 4

-- the number of the trap that it ended with, or 0
abbrev pub trap_of : Ending → ℕ
trap_of (ending.Trapped why) = trap_number why
trap_of _ = 0

-- ---- plays

-- What the caller has after a play from values of a device: the ending and how many requests there were, of these as many
-- as there was room for, and the values as the method left them.
pub record Shows (b : List ℕ) (method : MethNo) (values : List ℤ) (steps : ℕ) (given : List Answer)
    (shown : PlainEnding) (room list : List PlainRequest) (after : List ℤ) : Type 0 where
  pub accepted : AreDeviceValues (types_in b) values
  pub ending : Ending
  pub made : List Request
  pub ends : option_map (λ o. o.ending) (played b method values steps given)
      ≡ Some (ending_shown ending)
  pub makes : option_map (λ o. o.requests) (played b method values steps given) ≡ Some made
  pub leaves : option_map (λ o. o.state.values) (played b method values steps given) ≡ Some after
  pub is : shown ≡ record {
    requests = length made;
    trap = trap_of ending;
    ending = ending_number ending;
  }
  pub listed : list ≡ written_over (take (length room) (map plain_request made)) room

-- What a refusal says: an answer has fewer settings than it says; or each has as many, and there is not
-- the room for as many values as the method left, or it is the fault of the play. Nothing is said of
-- memory.
abbrev pub IsPlayRefusal : List ℕ → MethNo → List ℤ → (steps : ℕ) → List Given → List Setting
    → (room : ℕ) → PlayRefusal → Type 0
IsPlayRefusal b method values steps givens settings room Settings =
    have_settings givens settings ≡ false
IsPlayRefusal b method values steps givens settings room Room =
    (have_settings givens settings ≡ true) × (after : List ℤ) × (option_map (λ o. o.state.values)
    (played b method values steps (answers_of givens settings)) ≡ Some after) × (length after ≢ room)
IsPlayRefusal b method values steps givens settings room (Play play_fault.Memory) =
    have_settings givens settings ≡ true
IsPlayRefusal b method values steps givens settings room (Play fault) =
    (have_settings givens settings ≡ true) × IsPlayFault b method values steps (answers_of givens settings) fault
