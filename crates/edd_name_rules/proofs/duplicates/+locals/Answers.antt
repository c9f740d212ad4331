use Rattle.std.proofs.Common.{arith, ap, ◌∙◌, [], subst}
use Rattle.std.specs.Prelude.{OnOk}
use Rattle.edd_breaches.specs.Told.{Tells}
use Rattle.edd_breaches.specs.Along.{told_along}
use Rattle.edd_name_rules.proofs.BlockRows.{told_block, told_switch}
use Rattle.edd_name_rules.specs.NamesTold.{part_told, with_locals}
use Rattle.edd_name_rules.proofs.Walking.{walks_from, walks_on, walks_all}
use Rattle.edd_name_rules.proofs.duplicates.+locals.Goals as goal

pub tell_block-loop-part-init : goal.tell_block-loop-part-init
tell_block-loop-part-init t c = walks_from part_told with_locals [] c.of_few-block.result c.args.told.now.items
    c.args.parts.now c.of_few-block.ensures

pub tell_block-loop-part-preserved : goal.tell_block-loop-part-preserved
tell_block-loop-part-preserved t c =
    walks_on part_told with_locals [] c.loop-part.block c.tell_part.new.block c.args.told.now.items
    c.loop-part.told.items c.tell_part.new.told.items c.loop-part.part-index c.args.parts.now
    c.part-item.result (omega arith) c.part-item.is c.in_ok-tell_part.ensures.told
    c.in_ok-tell_part.ensures.known c.loop-part.invariant

pub tell_block-returns : goal.tell_block-returns
tell_block-returns t c = record {
  told = walks_all part_told with_locals [] c.loop-part.block c.args.told.now.items c.loop-part.told.items
      c.loop-part.part-index c.args.parts.now (omega arith) c.loop-part.invariant;
}

pub tell_inside-returns-in-Block : goal.tell_inside-returns-in-Block
tell_inside-returns-in-Block t c = record {
  told =
      subst (λ ys. OnOk c.tell_block.result (Tells ys c.args.told.now.items
      c.tell_block.new.told.items))
      (ap (told_along part_told with_locals []) c.deref.ensures.value
      ∙ told_block c.args.s.now _ c.in-Block.is) c.tell_block.ensures.told;
}

pub tell_inside-returns-in-Switch : goal.tell_inside-returns-in-Switch
tell_inside-returns-in-Switch t c = record {
  told =
      subst (λ ys. OnOk c.tell_block-in-Switch.result (Tells ys c.args.told.now.items
      c.tell_block-in-Switch.new.told.items))
      (ap (told_along part_told with_locals []) c.deref-in-Switch.ensures.value
      ∙ told_switch c.args.s.now _ _ c.in-Switch.is) c.tell_block-in-Switch.ensures.told;
}
