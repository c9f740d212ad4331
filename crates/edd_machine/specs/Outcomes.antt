-- What the instructions result in that units of both sorts have.
use Rattle.std.specs.Prelude.{◌≡◌, ℕ, ℤ, Bool, true, false, List, [], Some}
use Rattle.edd_syntax.specs.declared.numbers.Element.{Element}
use Rattle.edd_instructions.specs.declared.instruction.Instruction.{Instruction}
use Rattle.edd_instructions.specs.declared.instruction.Instruction.TheVariants as instructions
use Rattle.edd_instructions.specs.declared.records.Status.TheVariants as status
use Rattle.edd_instructions.specs.declared.records.Emitted.TheVariants as emitted
use Rattle.edd_instructions.specs.declared.unit.Sort.{Sort}
use Rattle.edd_instructions.specs.declared.unit.Sort.TheVariants.{Attribute}
use Rattle.edd_image.specs.declared.versions.Version.{Version}
use Rattle.edd_instructions.specs.Steps.{State, Environment, Effect, act}
use Rattle.edd_instructions.specs.Units.{is_allowed}
use Rattle.edd_machine.specs.declared.outcome.Outcome.{Outcome}
use Rattle.edd_machine.specs.declared.outcome.Outcome.TheVariants.{GoesOn, Gives, Ends, Traps}

-- attributes may have the instruction, in some version
abbrev pub IsShared : Instruction → Type 0
IsShared i = (version : Version) × (is_allowed version Attribute i ≡ true)

-- the instruction gives the record that it has with it, and does nothing else
abbrev pub gives_record : Instruction → Bool
gives_record (instructions.Text s) = true
gives_record (instructions.Item item quals) = true
gives_record (instructions.DataConst n) = true
gives_record (instructions.DataVar v mask quals) = true
gives_record (instructions.Enumerator n text help) = true
gives_record (instructions.Response n class text) = true
gives_record (instructions.Member name item label help) = true
gives_record (instructions.Element n v label help) = true
gives_record _ = false

-- a state in a unit of this sort with these operands and values
abbrev pub over : Sort → (operands values : List ℤ) → State → State
over sort operands values s = record s {
  unit = record { sort = sort; code = s.unit.code };
  operands = operands;
  values = values;
}

-- what an outcome makes of a state, with these operands
abbrev pub comes_to : Outcome → (operands : List ℤ) → State → Effect
comes_to (GoesOn place) operands s =
    record {
      state = record s { place = place; operands = operands };
      emitted = emitted.Nothing;
      changes = [];
    }
comes_to (Gives place r) operands s =
    record {
      state = record s { place = place; operands = operands };
      emitted = emitted.Record r;
      changes = [];
    }
comes_to Ends operands s = record {
  state = record s { operands = operands; status = status.Ended };
  emitted = emitted.Nothing;
  changes = [];
}
comes_to (Traps why) operands s =
    record {
      state = record s { operands = operands; status = status.Trapped why };
      emitted = emitted.Nothing;
      changes = [];
    }

-- the instruction takes each state with these operands and values to the outcome, with the operands
-- that it leaves
abbrev pub Performs : Sort → (values before after : List ℤ) → Instruction → (next : ℕ) → Outcome
    → Type 0
Performs sort values before after i next outcome =
    (env : Environment) (s : State) → act env i next (over sort before values s)
    ≡ Some (comes_to outcome after (over sort before values s))

-- the same where these are the elements of the arrays
abbrev pub PerformsWith : List Element → Sort → (values before after : List ℤ) → Instruction
    → (next : ℕ) → Outcome → Type 0
PerformsWith elements sort values before after i next outcome =
    (env : Environment) (s : State) → env.elements ≡ elements
    → act env i next (over sort before values s)
    ≡ Some (comes_to outcome after (over sort before values s))
