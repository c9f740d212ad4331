use Rattle.std.proofs.Common.{[]}
use Rattle.edd_name_rules.specs.WordsTold.{attribute_told, with_attribute}
use Rattle.edd_name_rules.proofs.Walking.{Walking}
use Rattle.edd_name_rules.proofs.repeats.tell_attributes.Given as goal

-- what is there twice so far is told
abbrev pub invariant-loop-attribute : goal.invariant-loop-attribute
invariant-loop-attribute l = Walking attribute_told with_attribute [] l.seen l.fn.told.items l.told.items
    l.attribute-index l.attributes
