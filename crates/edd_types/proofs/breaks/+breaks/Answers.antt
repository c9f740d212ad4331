use Rattle.edd_types.proofs.BodyRows.{breaks_in_block, breaks_in_switch}
use Rattle.edd_types.proofs.TellingLaws.{tells_same}
use Rattle.edd_types.proofs.breaks.+breaks.Goals as goal

pub tell_statement-returns-in-Block : goal.tell_statement-returns-in-Block
tell_statement-returns-in-Block t c = record {
  told = tells_same _ _ _ _ _
      (breaks_in_block c.args.in_loop c.args.in_switch c.args.s.now _ _ c.deref.ensures.value
      c.in-Block.is) c.tell_breaks.ensures.told;
}

pub tell_statement-returns-in-Switch : goal.tell_statement-returns-in-Switch
tell_statement-returns-in-Switch t c = record {
  told = tells_same _ _ _ _ _
      (breaks_in_switch c.args.in_loop c.args.in_switch c.args.s.now _ _
      c.deref-in-Switch.ensures.value _ c.in-Switch.is) c.tell_breaks-in-Switch.ensures.told;
}
