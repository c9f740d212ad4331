-- What a unit of an attribute gives, up to its end.
use Rattle.std.specs.Prelude.{◌≡◌, ℕ, List, Some, Result, Err}
use Rattle.edd_syntax.specs.declared.answer.Trap.{Trap}
use Rattle.edd_syntax.specs.declared.answer.Trap.TheVariants as trap
use Rattle.edd_instructions.specs.declared.records.Record.{Record}
use Rattle.edd_instructions.specs.Steps.{State, Environment}
use Rattle.edd_instructions.specs.Reading.{given_within}
use Rattle.edd_machine.specs.declared.fault.ReadFault.{ReadFault}
use Rattle.edd_machine.specs.declared.fault.ReadFault.TheVariants as read_fault

-- the steps from the state on give this
abbrev pub Gives : Environment → State → Result (List Record) Trap → Type 0
Gives env s r = (n : ℕ) × (given_within n env s ≡ Some r)

-- the fault is the trap that the steps from the state on end in, or out of memory
abbrev pub GivesFault : Environment → State → ReadFault → Type 0
GivesFault env s read_fault.NoItem = ⊥
GivesFault env s read_fault.WrongValues = ⊥
GivesFault env s read_fault.DivZero = Gives env s (Err trap.DivZero)
GivesFault env s read_fault.DivOverflow = Gives env s (Err trap.DivOverflow)
GivesFault env s read_fault.BadShift = Gives env s (Err trap.BadShift)
GivesFault env s read_fault.NoElement = Gives env s (Err trap.NoElement)
GivesFault env s read_fault.Memory = Unit {0}
