use Rattle.std.proofs.Common.{rules, w64, FitsSigned, ap, sym, ◌∙◌, arith}
use Rattle.std.proofs.lemmas.Int.{to_z-of_z}
use Rattle.edd_syntax.proofs.TreeRows.{call_is}
use Rattle.edd_syntax.specs.TreeView.{numbered_argument}
use Rattle.edd_constants.proofs.KnownForms.{literal_value, parentheses_known, call_none}
use Rattle.edd_constants.proofs.KnownParts.{indexed_unused, stop_at}
use Rattle.edd_instructions.proofs.Widths.{wrap_fits}
use Rattle.edd_constants.proofs.constants.+known.Goals as goal

pub evaluate-returns-in-Literal-clause-sound : goal.evaluate-returns-in-Literal-clause-sound
evaluate-returns-in-Literal-clause-sound t c =
    let fits : FitsSigned w64 c.wrapped_constant.result = search rules in
    rw c.in-Literal.is (literal_value c.args.sort _ _
    (to_z-of_z w64 _ fits ∙ c.wrapped_constant.ensures))

pub evaluate-returns-in-Parentheses-clause-sound : goal.evaluate-returns-in-Parentheses-clause-sound
evaluate-returns-in-Parentheses-clause-sound t c = rw c.in-Parentheses.is
    (parentheses_known c.args.sort _ _ (rw c.deref.ensures at c.evaluate.ensures.sound))

pub evaluate-returns-in-Unary-clause-sound : goal.evaluate-returns-in-Unary-clause-sound
evaluate-returns-in-Unary-clause-sound t c = rw c.in-Unary.is
    (c.applied.ensures.sound _
    (rw c.deref-in-Unary.ensures at c.evaluate-in-Unary.ensures.sound))

pub evaluate-returns-in-Binary-clause-sound : goal.evaluate-returns-in-Binary-clause-sound
evaluate-returns-in-Binary-clause-sound t c = rw c.in-Binary.is
    (c.combined.ensures.sound _ _
    (rw c.deref-in-Binary.ensures at c.evaluate-in-Binary.ensures.sound)
    (rw c.deref-in-Binary-2.ensures at c.evaluate-in-Binary-2.ensures.sound))

pub evaluate-returns-in-Compare-clause-sound : goal.evaluate-returns-in-Compare-clause-sound
evaluate-returns-in-Compare-clause-sound t c = rw c.in-Compare.is
    (c.compared.ensures.sound c.args.sort _ _
    (rw c.deref-in-Compare.ensures at c.evaluate-in-Compare.ensures.sound)
    (rw c.deref-in-Compare-2.ensures at c.evaluate-in-Compare-2.ensures.sound))

pub evaluate-returns-in-Compare-clause-fits : goal.evaluate-returns-in-Compare-clause-fits
evaluate-returns-in-Compare-clause-fits t c = c.compared.ensures.fits c.args.sort

pub evaluate-returns-in-LogicalAnd-clause-sound : goal.evaluate-returns-in-LogicalAnd-clause-sound
evaluate-returns-in-LogicalAnd-clause-sound t c = rw c.in-LogicalAnd.is
    (c.both.ensures.sound c.args.sort _ _
    (rw c.deref-in-LogicalAnd.ensures at c.evaluate-in-LogicalAnd.ensures.sound)
    (rw c.deref-in-LogicalAnd-2.ensures at c.evaluate-in-LogicalAnd-2.ensures.sound))

pub evaluate-returns-in-LogicalAnd-clause-fits : goal.evaluate-returns-in-LogicalAnd-clause-fits
evaluate-returns-in-LogicalAnd-clause-fits t c = c.both.ensures.fits c.args.sort

pub evaluate-returns-in-LogicalOr-clause-sound : goal.evaluate-returns-in-LogicalOr-clause-sound
evaluate-returns-in-LogicalOr-clause-sound t c = rw c.in-LogicalOr.is
    (c.either.ensures.sound c.args.sort _ _
    (rw c.deref-in-LogicalOr.ensures at c.evaluate-in-LogicalOr.ensures.sound)
    (rw c.deref-in-LogicalOr-2.ensures at c.evaluate-in-LogicalOr-2.ensures.sound))

pub evaluate-returns-in-LogicalOr-clause-fits : goal.evaluate-returns-in-LogicalOr-clause-fits
evaluate-returns-in-LogicalOr-clause-fits t c = c.either.ensures.fits c.args.sort

pub evaluate-returns-in-Conditional-clause-sound : goal.evaluate-returns-in-Conditional-clause-sound
evaluate-returns-in-Conditional-clause-sound t c = rw c.in-Conditional.is
    (c.chosen.ensures.sound c.args.sort _ _ _
    (rw c.deref-in-Conditional.ensures at c.evaluate-in-Conditional.ensures.sound)
    (rw c.deref-in-Conditional-2.ensures at c.evaluate-in-Conditional-2.ensures.sound)
    (rw c.deref-in-Conditional-3.ensures at c.evaluate-in-Conditional-3.ensures.sound))

pub evaluate-returns-in-Conditional-clause-fits : goal.evaluate-returns-in-Conditional-clause-fits
evaluate-returns-in-Conditional-clause-fits t c = c.chosen.ensures.fits c.args.sort
    c.evaluate-in-Conditional-2.ensures.fits c.evaluate-in-Conditional-3.ensures.fits

pub evaluate-returns-in-Indexed-clause-sound : goal.evaluate-returns-in-Indexed-clause-sound
evaluate-returns-in-Indexed-clause-sound t c = rw (c.in-Indexed.is, c.unused.ensures)
    (indexed_unused c.args.sort _ _ _ (rw c.deref-in-Indexed.ensures
    at c.evaluate-in-Indexed.ensures.sound))

pub evaluate-returns-in-Assign-clause-sound : goal.evaluate-returns-in-Assign-clause-sound
evaluate-returns-in-Assign-clause-sound t c = rw c.in-Assign.is
    (c.stored.ensures.assigned _ _ (rw c.deref-in-Assign.ensures
    at c.evaluate-in-Assign.ensures.sound))

pub evaluate-returns-in-CompoundAssign-clause-sound :
    goal.evaluate-returns-in-CompoundAssign-clause-sound
evaluate-returns-in-CompoundAssign-clause-sound t c = rw c.in-CompoundAssign.is
    (c.stored-in-CompoundAssign.ensures.combined _ _ _
    (c.combined-in-CompoundAssign.ensures.sound _ _ tt
    (rw c.deref-in-CompoundAssign.ensures at c.evaluate-in-CompoundAssign.ensures.sound)))

pub evaluate-returns-in-Method-clause-sound : goal.evaluate-returns-in-Method-clause-sound
evaluate-returns-in-Method-clause-sound t c =
    rw (
      c.in-Method.is,
      call_is (λ r. r) c.args.e.now _ _ _ c.in-Call.is,
      sym c.deref-in-Method.ensures.value,
    ) (c.known_of_call.ensures.sound c.in-Call.function)

pub evaluate-returns-in-Method-clause-fits : goal.evaluate-returns-in-Method-clause-fits
evaluate-returns-in-Method-clause-fits t c = c.known_of_call.ensures.fits c.args.sort

pub known_of_call-returns-in-Traps-clause-sound : goal.known_of_call-returns-in-Traps-clause-sound
known_of_call-returns-in-Traps-clause-sound t c = λ function. call_none function _
    (stop_at c.args.arguments.now c.loop-argument.argument-index c.argument-item.result _
    (omega arith) c.argument-item.is (ap numbered_argument c.in-Value.is)
    c.in-Traps.ensures.sound)

pub evaluate-returns-in-Literal-clause-fits : goal.evaluate-returns-in-Literal-clause-fits
evaluate-returns-in-Literal-clause-fits t c =
    let fits : FitsSigned w64 c.wrapped_constant.result = search rules in
    rw (to_z-of_z w64 c.wrapped_constant.result fits, c.wrapped_constant.ensures)
    (wrap_fits c.args.sort _)
