-- What was read of attributes, as the definitions have it.
use Rattle.std.specs.Prelude.{option_map}
use Rattle.edd_instructions.specs.Reading.{Reading, NoItem, Records, Fault}
use Rattle.edd_loader.specs.Lookups.{type_of_kind}
use Rattle.edd_panel.specs.declared.found.Found as code
use Rattle.edd_panel.specs.declared.found.Found.TheVariants as found
use Rattle.edd_panel.specs.declared.rules.EditRules.{EditRules}
use Rattle.edd_panel.specs.Edits.{Rules}

-- what a read found
abbrev pub reading_of : code.Found → Reading
reading_of found.Nothing = NoItem
reading_of (found.Records rs) = Records rs.items
reading_of (found.Trap why) = Fault why

-- the rules of a variable in the code
abbrev pub rules_of : EditRules → Rules
rules_of r = record {
  type = option_map type_of_kind r.kind;
  handling = reading_of r.handling;
  lowest = reading_of r.lowest;
  highest = reading_of r.highest;
  enumerators = reading_of r.enumerators;
}
