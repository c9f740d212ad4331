-- States that ask, and their answers.
use Rattle.std.proofs.Common.{◌≡◌, ℕ, suc, ◌<◌, ◌≤◌, ℤ, List, length, refl, sym, ap, subst, ◌∙◌, arith}
use Rattle.edd_syntax.specs.Answers.{Answer, Go, Abort, IsValidAnswer}
use Rattle.edd_syntax.specs.DeviceValues.{AreDeviceValues}
use Rattle.edd_instructions.specs.declared.requests.Request.{Request}
use Rattle.edd_instructions.specs.declared.records.Status.{Status}
use Rattle.edd_instructions.specs.declared.records.Status.TheVariants.{Asking}
use Rattle.edd_instructions.specs.declared.unit.Context.{Context}
use Rattle.edd_image.specs.Contents.{contents_in}
use Rattle.edd_instructions.specs.Execution.{answered}
use Rattle.edd_instructions.specs.Reading.{environment_of}
use Rattle.edd_instructions.specs.Steps.{State, Environment, StandsWith, Stands, IsState}
use Rattle.edd_instructions.specs.Units.{instructions}
use Rattle.edd_instructions.specs.Validity.{placed_unit}
use Rattle.edd_instructions.proofs.AnsweredStates.{state_again}
use Rattle.edd_machine.specs.declared.code_unit.CodeUnit.{CodeUnit}
use Rattle.edd_machine.specs.Running.{IsStateIn}
use Rattle.edd_machine.specs.Types.{types_in}
use Rattle.edd_instructions.proofs.KnownInstructions.{pick}

pub asking_room : (context : Context) (env : Environment) (s : State) (r : Request)
    → IsState context env s → s.status ≡ Asking r → length s.operands < 128
asking_room context env s r is asks =
    let here : StandsWith s.unit.code s.place (suc (length s.operands)) =
    subst (λ (st : Status). Stands s st) asks is.stands in
    let there = pick (λ y. here.depth y.place ≤ 128) (instructions s.unit.code) s.place
    here.depths.bounded here.at_start in
    let count : suc (length s.operands) ≡ here.depth there.0.place = here.operands
    ∙ ap here.depth (sym there.1) in
    omega (arith, count, there.2)

pub set_there : (b : List ℕ) (u : CodeUnit) (s : State) (values : List ℤ) → IsStateIn b u s
    → AreDeviceValues (types_in b) values → IsStateIn b u (record s { values = values })
set_there b u s values is are = record {
  unit = is.unit;
  runs = is.runs;
  state = record {
    sort = is.state.sort;
    stands = is.state.stands;
    operands = is.state.operands;
    slot_count = is.state.slot_count;
    slots = is.state.slots;
    variable_count = is.state.variable_count;
    values = are;
  };
}

same_unit : (s : State) (answer : Answer) → (answered s answer).state.unit ≡ s.unit
same_unit s (Go code sets) = refl
same_unit s Abort = refl

pub answered_there : (b : List ℕ) (u : CodeUnit) (s : State) (r : Request) (answer : Answer)
    → IsStateIn b u s → s.status ≡ Asking r → IsValidAnswer (types_in b) answer
    → IsStateIn b u (answered s answer).state
answered_there b u s r answer is asks valid = record {
  unit = is.unit;
  runs = same_unit s answer ∙ is.runs;
  state = state_again (placed_unit (contents_in b) is.unit.row).context
      (environment_of (contents_in b))
      s r answer is.state asks valid;
}
