-- What the steps of a method and the answers of a device do to a panel.
use Rattle.std.specs.Prelude.{◌≡◌, ◌+◌, ℕ, Option, Some, None, option_map}
use Rattle.edd_syntax.specs.Answers.{Answer}
use Rattle.edd_machine.specs.Types.{types_in}
use Rattle.edd_port.specs.declared.turn.Turn.{Turn}
use Rattle.edd_port.specs.declared.turn.Turn.TheVariants as turn
use Rattle.edd_port.specs.Refusals.{Refusal, NotAsking, refusal}
use Rattle.edd_port.specs.Runs.{Run, advanced, counted}
use Rattle.edd_port.specs.Turns.{turn_of}
use Rattle.edd_panel.specs.Replies.{after_answer}
use Rattle.edd_panel.specs.Standing.{Standing}

-- a run after at most so many instructions
abbrev pub after_steps : Run → (budget : ℕ) → Run
after_steps r budget = record r {
  state = (advanced r budget).state;
  taken = counted (r.taken + (advanced r budget).steps);
}

-- the run goes on, or asks
abbrev pub with_run : Standing → Run → Standing
with_run s r = record s { run = Some r }

-- the run is over, and its values are those of the device
abbrev pub with_left : Standing → Run → Standing
with_left s r = record s { values = r.state.values; run = None }

-- what a panel is after a run that shows this turn
abbrev pub settled : Turn → Standing → Run → Standing
settled (turn.Asks q) s r = with_run s r
settled turn.Spent s r = with_run s r
settled turn.Ended s r = with_left s r
settled turn.Aborted s r = with_left s r
settled (turn.Trapped why) s r = with_left s r

-- what becomes of the method that runs, if one does
abbrev pub Advances : (budget : ℕ) → Standing → Option Turn → Standing → Type 0
Advances budget before shown after = elim before.run [
  | Some r ↦ (shown ≡ Some (turn_of (after_steps r budget).state.status))
      × (after ≡ settled (turn_of (after_steps r budget).state.status) before (after_steps r budget))
  | None ↦ (shown ≡ None) × (after ≡ before)
]

-- why an answer is not taken, if it isn't
abbrev pub answer_refusal : Standing → Answer → Option Refusal
answer_refusal s answer = elim s.run [
  | Some r ↦ refusal (types_in s.image) r.state.status answer
  | None ↦ Some NotAsking
]

-- the panel after an answer to the method that runs
abbrev pub answered_by : Standing → Answer → Standing
answered_by s answer = record s { run = option_map (λ r. after_answer r answer) s.run }
