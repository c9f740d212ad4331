use Rattle.std.proofs.Common.{arith, []}
use Rattle.edd_name_rules.specs.WordsTold.{part_told, with_part}
use Rattle.edd_name_rules.proofs.Walking.{walks_from, walks_on, walks_all}
use Rattle.edd_name_rules.proofs.repeats.tell_parts.Goals as goal

pub loop-part-init : goal.loop-part-init
loop-part-init c = walks_from part_told with_part [] c.of_few-seen.result c.args.told.now.items
    c.args.parts.now c.of_few-seen.ensures

pub loop-part-preserved : goal.loop-part-preserved
loop-part-preserved c =
    walks_on part_told with_part [] c.loop-part.seen c.tell_part.new.seen c.args.told.now.items
    c.loop-part.told.items c.tell_part.new.told.items c.loop-part.part-index c.args.parts.now
    c.part-item.result (omega arith) c.part-item.is c.in_ok-tell_part.ensures.told
    c.in_ok-tell_part.ensures.known c.loop-part.invariant

pub returns : goal.returns
returns c = record {
  told = walks_all part_told with_part [] c.loop-part.seen c.args.told.now.items c.loop-part.told.items
      c.loop-part.part-index c.args.parts.now (omega arith) c.loop-part.invariant;
}
