-- The names of a unit as the code looks them up.
use Rattle.edd_name_meanings.specs.declared.directory.Names.{Names}
use Rattle.edd_syntax.specs.Reference.{Path}
use Rattle.edd_syntax.specs.Item.{Description}
use Rattle.edd_name_meanings.specs.StandIns.{read_in}
use Rattle.edd_syntax.specs.ItemView.{identification_of, named_items}
use Rattle.edd_syntax.specs.ResolvedTrees.{Reading}

-- the unit whose names they are
abbrev pub description_of : Names → Description Path
description_of n = record {
  identification = identification_of n.identification;
  items = named_items n.items.now;
}

-- what names are read as by them
abbrev pub read_by : Names → Reading
read_by n = read_in (description_of n)
