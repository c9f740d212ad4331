-- What a script says of the device of a description.
use Rattle.std.specs.Prelude.{◌≡◌, ℕ, List, Ok, option_map}
use Rattle.edd_syntax.specs.declared.numbers.ItemNo.TheVariants as items
use Rattle.edd_syntax.specs.declared.numbers.Kind.TheVariants as kind
use Rattle.edd_syntax.specs.declared.reference.Target.{Target}
use Rattle.edd_syntax.specs.Item.{Description}
use Rattle.edd_syntax.specs.Resolution.{count_of}
use Rattle.edd_syntax.specs.Device.{environment, item_at}
use Rattle.edd_syntax.specs.DeviceValues.{AreDeviceValues}
use Rattle.edd_script.specs.Named.{VariableNames}
use Rattle.edd_script.specs.Scripts.{Said, script_of}

-- the names of a description's variables
abbrev pub variables_of : Description Target → VariableNames
variables_of unit = record {
  count = count_of kind.Variable unit.items;
  name = λ number. option_map (λ i. i.name) (item_at unit (items.Variable (record { 0 = number })));
}

-- the script says this, and its values are those of a device
abbrev pub IsSaidOf : Description Target → (script : List ℕ) → Said → Type 0
IsSaidOf unit script said = (script_of (variables_of unit) script ≡ Ok said)
    × AreDeviceValues (environment unit).variables said.values
