use Rattle.std.proofs.Common.{◌≡◌, ◌++◌, drop, map}
use Rattle.edd_machine.specs.Types.{types_in}
use Rattle.edd_octets.specs.Fields.{AreItems, fields_after, fields_of}
use Rattle.edd_octets.specs.Messages.{field_of}
use Rattle.edd_octets.proofs.fields.fields_of.Given as goal

-- the fields so far and those of the items that are left are those of all
abbrev pub invariant-loop-item : goal.invariant-loop-item
invariant-loop-item l = record {
  fields : map field_of l.division.fields.items
      ++ fields_after (types_in l.image) l.division.begun.items (drop l.item-index l.items)
      ≡ fields_of (types_in l.image) l.items;
  items : AreItems (drop l.item-index l.items) → AreItems l.items;
}
