-- What a session is apart from its image, and when it can be resumed.
use Rattle.std.specs.Prelude.{◌≡◌, ℕ, List, Some, option_map}
use Rattle.edd_image.specs.Contents.{contents_in}
use Rattle.edd_instructions.specs.Reading.{body_of}
use Rattle.edd_machine.specs.declared.code_unit.CodeUnit.{CodeUnit}
use Rattle.edd_machine.specs.Running.{unit_at, state_of, IsMachine}
use Rattle.edd_port.specs.declared.suspension.Suspended.{Suspended}
use Rattle.edd_port.specs.Runs.{Run}

-- it is the unit of the body of the method whose number it has
abbrev pub IsBodyIn : List ℕ → CodeUnit → Type 0
IsBodyIn b u = option_map (unit_at b) (body_of (contents_in b) (record { 0 = u.item })) ≡ Some u

-- the run that it is over these bytes of an image
abbrev pub run_of : List ℕ → Suspended → Run
run_of b s = record {
  image = b;
  state = state_of b s.machine s.values.numbers.items;
  taken = s.taken;
}

-- it is at a state of a method of the image
pub record IsSuspendedIn (b : List ℕ) (s : Suspended) : Type 0 where
  pub body : IsBodyIn b s.machine.unit
  pub machine : IsMachine b s.machine s.values.numbers.items
