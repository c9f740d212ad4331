use Rattle.std.proofs.Common.{◌≡◌, map, drop}
use Rattle.edd_syntax.specs.ItemView.{numbered_attribute}
use Rattle.edd_syntax.specs.Device.{written_type}
use Rattle.edd_assembly.proofs.counts.written_type.Given as goal

-- there is no type among the attributes so far
abbrev pub invariant-loop-attribute : goal.invariant-loop-attribute
invariant-loop-attribute l =
    written_type (map numbered_attribute (drop l.attribute-index l.attributes))
    ≡ written_type (map numbered_attribute l.attributes)
