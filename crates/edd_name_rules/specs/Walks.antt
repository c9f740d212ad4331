-- The description whose items are walked over.
use Rattle.std.specs.Prelude.{List}
use Rattle.edd_syntax.specs.Reference.{Path}
use Rattle.edd_syntax.specs.Item.{Item, Description}

-- a description of these items, of whatever device
abbrev pub described : List (Item Path) → Description Path
described items = record {
  identification = record {
    manufacturer = 0;
    device_type = 0;
    device_revision = 0;
    dd_revision = 0;
  };
  items = items;
}
