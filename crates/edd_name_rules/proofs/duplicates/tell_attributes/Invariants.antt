use Rattle.std.proofs.Common.{[]}
use Rattle.edd_name_rules.specs.NamesTold.{members_told, with_members}
use Rattle.edd_name_rules.proofs.Walking.{Walking}
use Rattle.edd_name_rules.proofs.duplicates.tell_attributes.Given as goal

-- what is there twice so far is told
abbrev pub invariant-loop-attribute : goal.invariant-loop-attribute
invariant-loop-attribute l = Walking members_told with_members [] l.members l.fn.told.items l.told.items
    l.attribute-index l.attributes
