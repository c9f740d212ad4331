use Rattle.std.proofs.Common.{refl, arith}
use Rattle.edd_syntax.specs.SubsetRules.{no_labels}
use Rattle.edd_breaches.specs.Along.{told_along}
use Rattle.edd_types.specs.Labels.{labels_told, labels_behind}
use Rattle.edd_breaches.proofs.AlongLaws.{tells_on}
use Rattle.edd_types.proofs.BodyRows.{labels_in_block, labels_in_switch}
use Rattle.edd_types.proofs.TellingLaws.{tells_same}
use Rattle.edd_types.proofs.labels.+labels.Goals as goal

pub tell_inside-returns-in-Block : goal.tell_inside-returns-in-Block
tell_inside-returns-in-Block t c = record {
  told = tells_same _ _ _ _ _
      (labels_in_block c.args.s.now _ _ c.deref.ensures.value c.in-Block.is)
      c.tell_labels.ensures.told;
}

pub tell_inside-returns-in-Switch : goal.tell_inside-returns-in-Switch
tell_inside-returns-in-Switch t c = record {
  told = tells_same _ _ _ _ _
      (labels_in_switch c.args.s.now _ _ c.deref-in-Switch.ensures.value _ c.in-Switch.is)
      c.tell_labels-in-Switch.ensures.told;
}

pub tell_labels-loop-part-preserved : goal.tell_labels-loop-part-preserved
tell_labels-loop-part-preserved t c = (
  labels_behind c.loop-part.invariant.0 c.part-item.result,
  c.in_ok-tell_part.ensures.adds c.loop-part.invariant.0 c.loop-part.invariant.1,
  tells_on labels_told labels_behind
      (told_along labels_told labels_behind no_labels c.args.parts.now) c.args.told.now.items
      c.loop-part.told.items c.tell_part.new.told.items c.loop-part.invariant.0 _
      c.loop-part.part-index c.args.parts.now c.part-item.result refl (omega arith) c.part-item.is
      c.loop-part.invariant.2
      (c.in_ok-tell_part.ensures.told c.loop-part.invariant.0 c.loop-part.invariant.1),
)
