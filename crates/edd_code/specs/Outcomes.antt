-- What a block results in, in an attribute: the records that it gives and the operands that it
-- leaves, or a trap.
use Rattle.std.specs.Prelude.{ℕ, true, false, ℤ, List, [], ◌∷◌, ◌++◌, Option, Some, None}
use Rattle.std.specs.Ordering.{int_eq}
use Rattle.edd_syntax.specs.declared.answer.Trap.{Trap}
use Rattle.edd_syntax.specs.TwosComplement.{is_zero}
use Rattle.edd_instructions.specs.declared.records.Record.{Record}
use Rattle.edd_instructions.specs.declared.records.Status.{Status}
use Rattle.edd_instructions.specs.declared.records.Status.TheVariants.{Running, Asking, Ended, Aborted, Trapped}
use Rattle.edd_instructions.specs.declared.records.Emitted.{Emitted}
use Rattle.edd_instructions.specs.declared.records.Emitted.TheVariants as emitted
use Rattle.edd_instructions.specs.declared.instruction.Instruction.{Instruction}
use Rattle.edd_instructions.specs.declared.unit.Sort.TheVariants as sort
use Rattle.edd_instructions.specs.Steps.{State, Environment, Effect, act}
use Rattle.edd_code.specs.Blocks.{Block, Nothing, Straight, Then, WhenNotZero, WhenZero, Either, Match}

-- how a block ends: it goes on with the records given and the operands left, traps, or is stuck
pub data Outcome : Type 0 where
  Goes : (records : List Record) → (operands : List ℤ) → Outcome
  Traps : Trap → Outcome
  -- an operand is missing, or the instruction doesn't go on to the one after it
  Stuck : Outcome

-- with these records in front
abbrev pub after_records : List Record → Outcome → Outcome
after_records given (Goes records operands) = Goes (given ++ records) operands
after_records given (Traps why) = Traps why
after_records given Stuck = Stuck

-- goes on with the operands that are left, unless there was a trap or it is stuck
abbrev pub and_then : Outcome → (List ℤ → Outcome) → Outcome
and_then (Goes records operands) next = after_records records (next operands)
and_then (Traps why) next = Traps why
and_then Stuck next = Stuck

-- what is done with the topmost operand and those below it, where there is one
abbrev pub on_topmost : List ℤ → (ℤ → List ℤ → Outcome) → Outcome
on_topmost [] f = Stuck
on_topmost (a ∷ below) f = f a below

-- a running attribute, with its operands from the top
abbrev pub at : (code : List ℕ) (place : ℕ) (operands values : List ℤ) → State
at code place operands values = record {
  unit = record { sort = sort.Attribute; code = code };
  place = place;
  operands = operands;
  slots = [];
  values = values;
  status = Running;
  abort_methods = [];
  is_aborting = false;
}

-- the record that a step gives, if it gives one
abbrev pub records_of : Emitted → List Record
records_of emitted.Nothing = []
records_of (emitted.Record r) = r ∷ []
records_of (emitted.Request r) = []

-- the outcome of a step after which this is the status
abbrev pub outcome_in : Status → List Record → List ℤ → Outcome
outcome_in Running given operands = Goes given operands
outcome_in (Asking r) given operands = Stuck
outcome_in Ended given operands = Stuck
outcome_in Aborted given operands = Stuck
outcome_in (Trapped why) given operands = Traps why

-- the outcome of a step, which is stuck where there is none
abbrev pub outcome_of : Option Effect → Outcome
outcome_of None = Stuck
outcome_of (Some e) = outcome_in e.state.status (records_of e.emitted) e.state.operands

module _ (env : Environment) (values : List ℤ) where
  -- what a straight instruction results in does not depend on where it is
  abbrev pub does_one : Instruction → List ℤ → Outcome
  does_one i operands = outcome_of (act env i 0 (at [] 0 operands values))

  -- what a block results in with these operands in front of it
  unfoldable pub does : Block → List ℤ → Outcome
  does Nothing operands = Goes [] operands
  does (Straight i) operands = does_one i operands
  does (Then first second) operands = and_then (does first operands) (does second)
  does (WhenNotZero body) operands =
      on_topmost operands (λ a below. elim (is_zero a) [
        | true ↦ Goes [] below
        | false ↦ does body below
      ])
  does (WhenZero body) operands =
      on_topmost operands (λ a below. elim (is_zero a) [
        | true ↦ does body below
        | false ↦ Goes [] below
      ])
  does (Either first otherwise) operands =
      on_topmost operands (λ a below. elim (is_zero a) [
        | true ↦ does otherwise below
        | false ↦ does first below
      ])
  does (Match label body rest) operands =
      on_topmost operands (λ a below. elim (int_eq a label) [
        | true ↦ does body below
        | false ↦ does rest operands
      ])
