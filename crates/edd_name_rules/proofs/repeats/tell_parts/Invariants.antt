use Rattle.std.proofs.Common.{[]}
use Rattle.edd_name_rules.specs.WordsTold.{part_told, with_part}
use Rattle.edd_name_rules.proofs.Walking.{Walking}
use Rattle.edd_name_rules.proofs.repeats.tell_parts.Given as goal

-- what is there twice so far is told
abbrev pub invariant-loop-part : goal.invariant-loop-part
invariant-loop-part l = Walking part_told with_part [] l.seen l.fn.told.items l.told.items
    l.part-index l.parts
