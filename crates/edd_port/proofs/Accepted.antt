-- Answers that are taken.
use Rattle.std.proofs.Common.{◌≡◌, ℕ, ◌<◌, ℤ, List, length, Option, Some, None, refl, sym, subst}
use Rattle.std.specs.Prelude.{option_map}
use Rattle.std.specs.List.{AllByRecursion}
use Rattle.std.proofs.lemmas.Slice.Zip.{AllZip-long}
use Rattle.edd_syntax.specs.Answers.{Answer, Go, Abort, SetFault, answer_fault, values_set, IsValidAnswer}
use Rattle.edd_syntax.specs.DeviceValues.{VariableType, AreDeviceValues}
use Rattle.edd_instructions.specs.declared.requests.Request.{Request}
use Rattle.edd_instructions.specs.declared.records.Status.{Status}
use Rattle.edd_instructions.specs.declared.records.Status.TheVariants as status
use Rattle.edd_image.specs.Contents.{Contents}
use Rattle.edd_instructions.specs.AbortMethods.{answered_in}
use Rattle.edd_instructions.specs.Execution.{answered}
use Rattle.edd_instructions.specs.Steps.{State}
use Rattle.edd_machine.specs.declared.code_unit.CodeUnit.{CodeUnit}
use Rattle.edd_machine.specs.declared.machine.Machine.{Machine}
use Rattle.edd_machine.specs.Running.{state_of, IsMachine, IsStateIn}
use Rattle.edd_machine.specs.Types.{types_in}
use Rattle.edd_machine.proofs.Answering.{asking_room, answered_there, set_there}
use Rattle.edd_port.specs.Refusals.{BadSet, CodeFits, code_of, refusal, sets_of, without_sets}
use Rattle.edd_port.proofs.Sets.{sets_exist}

no_fault : (o : Option SetFault) → option_map BadSet o ≡ None → o ≡ None
no_fault None e = refl
no_fault (Some f) e = absurd cc

-- an answer that is not refused meets a request, and its sets can be made
pub taken : (types : List VariableType) (st : Status) (a : Answer) → refusal types st a ≡ None
    → (r : Request) × (st ≡ status.Asking r) × (answer_fault types a ≡ None)
taken types (status.Asking r) a e = (r, refl, no_fault (answer_fault types a) e)
taken types _ a e = absurd cc

made : (types : List VariableType) (n : ℕ) (a : Answer) → length types ≡ n
    → answer_fault types a ≡ None → AllByRecursion (λ set. set.variable.0 < n) (sets_of a)
made types n (Go code sets) count none = sets_exist types sets n count none
made types n Abort count none = tt

is_valid : (types : List VariableType) (a : Answer) → CodeFits a → answer_fault types a ≡ None
    → IsValidAnswer types a
is_valid types (Go code sets) fits none = (fits, none)
is_valid types Abort fits none = tt

values_after : (s : State) (a : Answer) → (answered s a).state.values
    ≡ values_set s.values (sets_of a)
values_after s (Go code sets) = refl
values_after s Abort = refl

module _ (b : List ℕ) (m : Machine) (values : List ℤ) (a : Answer) (is : IsMachine b m values)
    (accepted : refusal (types_in b) m.status a ≡ None) where
  abbrev pub asks : (r : Request) × (m.status ≡ status.Asking r) × (answer_fault (types_in b) a ≡ None)
  asks = taken (types_in b) m.status a accepted

  pub room : length m.operands < 128
  room = asking_room _ _ (state_of b m values) asks.0 is.state asks.1

  pub exist : AllByRecursion (λ set. set.variable.0 < length values) (sets_of a)
  exist = made (types_in b) (length values) a
      (sym (AllZip-long _ (types_in b) values is.state.values)) asks.2

  next : CodeFits a → IsStateIn b m.unit (answered (state_of b m values) a).state
  next fits = answered_there b m.unit (state_of b m values) asks.0 a is asks.1
      (is_valid (types_in b) a fits asks.2)

  -- the machine over the values with the sets made, which still asks
  pub ready : CodeFits a → IsMachine b m (values_set values (sets_of a))
  ready fits = set_there b m.unit (state_of b m values) (values_set values (sets_of a)) is
      (subst (λ (v : List ℤ). AreDeviceValues (types_in b) v) (values_after (state_of b m values) a)
      (next fits).state.values)

-- ---- the code of an answer, once its sets are made

-- the code alone makes of a state that has the sets what the answer makes of the state
pub sets_first : (c : Contents) (s : State) (a : Answer)
    → (answered_in c (record s { values = values_set s.values (sets_of a) })
    (without_sets (code_of a))).state
    ≡ (answered_in c s a).state
sets_first c s (Go code sets) = refl
sets_first c s Abort = refl

code_valid : (types : List VariableType) (code : Option ℤ) → CodeFits (without_sets code)
    → IsValidAnswer types (without_sets code)
code_valid types (Some z) fits = (fits, refl)
code_valid types None fits = tt

-- a machine that is the state after the code on the same unit keeps what every state keeps
pub next_machine : (b : List ℕ) (m n : Machine) (values : List ℤ) (code : Option ℤ) (r : Request)
    → IsMachine b m values → m.status ≡ status.Asking r → CodeFits (without_sets code)
    → n.unit ≡ m.unit
    → state_of b n values ≡ (answered (state_of b m values) (without_sets code)).state
    → IsMachine b n values
next_machine b m n values code r is asks fits unit state =
    subst (λ (u : CodeUnit). IsStateIn b u (state_of b n values)) (sym unit)
    (subst (λ (s : State). IsStateIn b m.unit s) (sym state)
    (answered_there b m.unit (state_of b m values) r (without_sets code) is asks
    (code_valid (types_in b) code fits)))
