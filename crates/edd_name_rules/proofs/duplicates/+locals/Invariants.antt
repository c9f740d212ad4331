use Rattle.std.proofs.Common.{[]}
use Rattle.edd_name_rules.specs.NamesTold.{part_told, with_locals}
use Rattle.edd_name_rules.proofs.Walking.{Walking}
use Rattle.edd_name_rules.proofs.duplicates.+locals.Given as goal

-- what is there twice so far is told
abbrev pub invariant-tell_block-loop-part : goal.invariant-tell_block-loop-part
invariant-tell_block-loop-part l = Walking part_told with_locals [] l.block l.fn.told.items l.told.items
    l.part-index l.parts
