use Rattle.std.proofs.Common.{[]}
use Rattle.edd_name_rules.specs.NamesTold.{item_told, with_item}
use Rattle.edd_name_rules.proofs.Walking.{Walking}
use Rattle.edd_name_rules.proofs.duplicates.tell_names.Given as goal

-- what is there twice so far is told
abbrev pub invariant-loop-item : goal.invariant-loop-item
invariant-loop-item l = Walking item_told with_item [] l.seen l.fn.told.items l.told.items
    l.item-index l.items
