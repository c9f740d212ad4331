use Rattle.std.proofs.Common.{[], refl, arith}
use Rattle.edd_breaches.specs.Along.{told_along}
use Rattle.edd_duplicates.specs.Elements.{element_told, numbers_behind}
use Rattle.edd_breaches.proofs.AlongLaws.{tells_on}
use Rattle.edd_duplicates.proofs.elements.tell_elements.Goals as goal

pub loop-element-preserved : goal.loop-element-preserved
loop-element-preserved c = (
  numbers_behind c.loop-element.invariant.0 c.element-item.result,
  c.in_ok-tell_element.ensures.adds c.loop-element.invariant.0 c.loop-element.invariant.1,
  tells_on element_told numbers_behind
      (told_along element_told numbers_behind [] c.args.elements.now) c.args.told.now.items
      c.loop-element.told.items c.tell_element.new.told.items c.loop-element.invariant.0 _
      c.loop-element.element-index c.args.elements.now c.element-item.result refl (omega arith)
      c.element-item.is c.loop-element.invariant.2
      (c.in_ok-tell_element.ensures.told c.loop-element.invariant.0 c.loop-element.invariant.1),
)
