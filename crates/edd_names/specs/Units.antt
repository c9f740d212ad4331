-- What a unit and its names stand for.
use Rattle.edd_syntax.specs.declared.unit.Unit.{Unit}
use Rattle.edd_syntax.specs.Reference.{Path}
use Rattle.edd_syntax.specs.Item.{Description}
use Rattle.edd_syntax.specs.ItemView.{identification_of, named_items}

-- the description that a unit holds
abbrev pub unit_view : Unit → Description Path
unit_view u = record {
  identification = identification_of u.identification;
  items = named_items u.items.items;
}
