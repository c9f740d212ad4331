use Rattle.edd_types.proofs.BodyRows.{expressions_in_block, expressions_in_switch}
use Rattle.edd_types.proofs.TellingLaws.{tells_same, tells_both}
use Rattle.edd_types.proofs.statements.+statements.Goals as goal

pub tell_statement-returns-in-Block : goal.tell_statement-returns-in-Block
tell_statement-returns-in-Block t c = record {
  told = tells_same _ _ _ _ _
      (expressions_in_block c.args.sought c.args.s.now _ _ c.deref.ensures.value c.in-Block.is)
      c.tell_parts.ensures.told;
}

pub tell_statement-returns-in_ok-tell_expression-in-Switch :
    goal.tell_statement-returns-in_ok-tell_expression-in-Switch
tell_statement-returns-in_ok-tell_expression-in-Switch t c = record {
  told = tells_both _ _ _ _ _ _ _
      (expressions_in_switch c.args.sought c.args.s.now _ _ c.deref-in-Switch.ensures.value _
      c.in-Switch.is) c.in_ok-tell_expression-in-Switch.ensures.told
      c.tell_parts-in-Switch.ensures.told;
}
