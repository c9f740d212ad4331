-- A panel, as its callers see it.
use Rattle.std.specs.Prelude.{ℕ, ℤ, List, [], Option, Some, None}
use Rattle.edd_port.specs.Runs.{Run}
use Rattle.edd_panel.specs.declared.place.Field.{Field}
use Rattle.edd_panel.specs.declared.place.Level.{Level}

-- The bytes of the image, the values of the device, the levels below the top one that the user has
-- entered, the variable that is edited, and the method that runs. While one runs, the values are
-- those with which it was started.
pub record Standing : Type 0 where
  pub image : List ℕ
  pub values : List ℤ
  pub path : List Level
  pub field : Option Field
  pub run : Option Run

-- a panel at its top screen
abbrev pub opened : List ℕ → List ℤ → Standing
opened b values = record {
  image = b;
  values = values;
  path = [];
  field = None;
  run = None;
}

-- the values as the user sees them: those of the method that runs
abbrev pub current : Standing → List ℤ
current s = elim s.run [
  | Some r ↦ r.state.values
  | None ↦ s.values
]
