use Rattle.edd_types.proofs.ExpressionRows.{told_in_call}
use Rattle.edd_types.proofs.TellingLaws.{tells_both}
use Rattle.edd_types.proofs.expressions.+expressions.Goals as goal

pub tell_expression-returns-in_ok-tell_one_call-in-Call :
    goal.tell_expression-returns-in_ok-tell_one_call-in-Call
tell_expression-returns-in_ok-tell_one_call-in-Call t c = record {
  told = tells_both _ _ _ _ _ _ _
      (told_in_call c.args.sought c.args.is_statement c.args.e.now _ _ _ _ _
      c.deref-in-Call.ensures.value c.deref-in-Call-2.ensures.value c.in-Call.is)
      c.in_ok-tell_one_call-in-Call.ensures.told c.tell_arguments.ensures.told;
}
