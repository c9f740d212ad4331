-- The description that a checked one holds.
use Rattle.edd_syntax.specs.declared.checked.Checked.{Checked}
use Rattle.edd_syntax.specs.declared.reference.Target.{Target}
use Rattle.edd_syntax.specs.Item.{Description}
use Rattle.edd_syntax.specs.ItemView.{identification_of, numbered_items}
use Rattle.edd_syntax.specs.Resolved.{description}

-- its items are those that the rules were checked on
abbrev pub description_of : Checked → Description Target
description_of checked = description (identification_of checked.identification)
    (numbered_items checked.items.value.items)
