use Rattle.std.proofs.Common.{◌≡◌, ◌<◌, length, subst, sym, arith, true, [], ◌∷◌, ◌++◌, List, map}
use Rattle.std.specs.List.{list_all}
use Rattle.std.proofs.lemmas.Grind.{common_steps}
use Rattle.std.proofs.lemmas.List.{length-map}
use Rattle.edd_syntax.specs.Strings.{expr_texts, strings_of_texts}
use Rattle.edd_syntax.specs.Text as texts
use Rattle.edd_syntax.specs.TreeView.{numbered_argument, numbered_expr}
use Rattle.edd_syntax.specs.WellFormed.{is_text}
use Rattle.edd_syntax.specs.WordsView.{text_of}
use Rattle.edd_code.specs.Tables.{Overflows}
use Rattle.edd_code.specs.Written.{HoldsTexts}
use Rattle.edd_code.proofs.Carried.{carried}
use Rattle.edd_code.proofs.Growing.{grows_on}
use Rattle.edd_code.proofs.Numbered.{texts_overflow_second}
use Rattle.edd_code.proofs.TextsHeld.{argument_falls, argument_held, argument_kept, argument_overflows, both_held, call_nodes, call_texts, one_held, text_held, texts_of, viewed_at}
use Rattle.edd_code.proofs.texts.+texts.Goals as goal

pub add_argument-returns-in_ok-add_text-in-Text-clause-sound :
    goal.add_argument-returns-in_ok-add_text-in-Text-clause-sound
add_argument-returns-in_ok-add_text-in-Text-clause-sound t c =
    text_held c.in-Text.is (one_held c.args.table.now c.add_text.new.table (text_of c.in-Text.text)
    c.in_ok-add_text-in-Text.ensures.table c.in_ok-add_text-in-Text.field-0
    c.in_ok-add_text-in-Text.ensures.number)

pub add_argument_texts-add_argument-requires : goal.add_argument_texts-add_argument-requires
add_argument_texts-add_argument-requires t c =
    let x = numbered_argument c.argument-item.result in
    let at = viewed_at numbered_argument c.args.arguments.now c.loop-argument.argument-index
    (omega arith) c.argument-item.is in
    let within : c.loop-argument.argument-index
    < length (map numbered_argument c.args.arguments.now) =
    omega (arith, length-map c.args.arguments.now numbered_argument) in
    let h = argument_falls (map numbered_argument c.args.arguments.now)
    c.loop-argument.argument-index x within at in
    let m = c.decreases in (
      omega (arith, h, m),
      argument_kept (map numbered_argument c.args.arguments.now)
          c.loop-argument.argument-index x within at c.requires,
    )

pub add_argument_texts-returns-in_err-add_argument-clause-refused :
    goal.add_argument_texts-returns-in_err-add_argument-clause-refused
add_argument_texts-returns-in_err-add_argument-clause-refused t c h =
    let x = numbered_argument c.argument-item.result in
    let over : Overflows c.loop-argument.table (strings_of_texts (texts_of (x ∷ []))) =
    grind (arith, common_steps) in
    argument_overflows (map numbered_argument c.args.arguments.now) c.loop-argument.argument-index x
    (omega (arith, length-map c.args.arguments.now numbered_argument)) (viewed_at numbered_argument
    c.args.arguments.now c.loop-argument.argument-index (omega arith) c.argument-item.is)
    c.loop-argument.invariant.held over

pub add_argument_texts-loop-argument-preserved : goal.add_argument_texts-loop-argument-preserved
add_argument_texts-loop-argument-preserved t c = record {
  held =
      argument_held (map numbered_argument c.args.arguments.now) c.loop-argument.argument-index
      (numbered_argument c.argument-item.result)
      (omega (arith, length-map c.args.arguments.now numbered_argument))
      (viewed_at numbered_argument c.args.arguments.now c.loop-argument.argument-index (omega arith)
      c.argument-item.is) c.loop-argument.invariant.held c.in_ok-add_argument.ensures.sound;
  grows = grows_on c.args.table.now c.loop-argument.table c.add_argument.new.table
      c.loop-argument.invariant.grows c.in_ok-add_argument.ensures.grows;
}

pub add_both-returns-clause-sound : goal.add_both-returns-clause-sound
add_both-returns-clause-sound t c =
    carried c.add_texts-2.result (both_held (expr_texts (numbered_expr c.args.left.now))
    (expr_texts (numbered_expr c.args.right.now)) c.in_ok-add_texts.ensures.sound)
    c.add_texts-2.ensures.sound

pub add_both-returns-clause-refused : goal.add_both-returns-clause-refused
add_both-returns-clause-refused t c h =
    texts_overflow_second (expr_texts (numbered_expr c.args.left.now))
    (expr_texts (numbered_expr c.args.right.now)) c.in_ok-add_texts.ensures.sound
    (c.add_texts-2.ensures.refused h)

pub add_texts-add_argument_texts-requires : goal.add_texts-add_argument_texts-requires
add_texts-add_argument_texts-requires t c =
    let h = call_nodes c.args.e.now c.in-Call.at c.in-Call.function c.in-Call.arguments
    c.deref-in-Call.result.now c.in-Call.is c.deref-in-Call.ensures.value in
    let m = c.decreases in (
      omega (arith, h, m),
      subst (λ (ts : List texts.Text). list_all is_text ts ≡ true)
          (sym (call_texts c.args.e.now c.in-Call.at c.in-Call.function c.in-Call.arguments
          c.deref-in-Call.result.now c.in-Call.is c.deref-in-Call.ensures.value)) c.requires,
    )

pub add_texts-returns-in-Call-clause-sound : goal.add_texts-returns-in-Call-clause-sound
add_texts-returns-in-Call-clause-sound t c =
    carried c.add_argument_texts.result (λ w.
    subst (λ (ts : List texts.Text). HoldsTexts c.args.table.now ts c.add_argument_texts.new.table)
    (call_texts c.args.e.now c.in-Call.at c.in-Call.function c.in-Call.arguments
    c.deref-in-Call.result.now c.in-Call.is c.deref-in-Call.ensures.value) w)
    c.add_argument_texts.ensures.sound

pub add_texts-returns-in-Call-clause-refused : goal.add_texts-returns-in-Call-clause-refused
add_texts-returns-in-Call-clause-refused t c h =
    subst (λ (ts : List texts.Text). Overflows c.args.table.now (strings_of_texts ts))
    (call_texts c.args.e.now c.in-Call.at c.in-Call.function c.in-Call.arguments
    c.deref-in-Call.result.now c.in-Call.is c.deref-in-Call.ensures.value)
    (c.add_argument_texts.ensures.refused h)

pub add_texts-returns-in_err-add_both-in-Conditional-clause-refused :
    goal.add_texts-returns-in_err-add_both-in-Conditional-clause-refused
add_texts-returns-in_err-add_both-in-Conditional-clause-refused t c h =
    let test = expr_texts (numbered_expr c.deref.result.now) in
    let rest = expr_texts (numbered_expr c.deref-in-Conditional.result.now)
    ++ expr_texts (numbered_expr c.deref-in-Conditional-2.result.now) in
    let is : expr_texts (numbered_expr c.args.e.now) ≡ test ++ rest = grind (arith, common_steps) in
    let over : Overflows c.add_texts.new.table (strings_of_texts rest) =
    grind (arith, common_steps) in
    subst (λ (ts : List texts.Text). Overflows c.args.table.now (strings_of_texts ts)) (sym is)
    (texts_overflow_second test rest c.in_ok-add_texts-in-Conditional.ensures.sound over)

pub add_texts-returns-in_ok-add_both-in-Conditional-clause-sound :
    goal.add_texts-returns-in_ok-add_both-in-Conditional-clause-sound
add_texts-returns-in_ok-add_both-in-Conditional-clause-sound t c =
    let test = expr_texts (numbered_expr c.deref.result.now) in
    let rest = expr_texts (numbered_expr c.deref-in-Conditional.result.now)
    ++ expr_texts (numbered_expr c.deref-in-Conditional-2.result.now) in
    let is : expr_texts (numbered_expr c.args.e.now) ≡ test ++ rest = grind (arith, common_steps) in
    subst (λ (ts : List texts.Text). HoldsTexts c.args.table.now ts
    c.add_both.new.table) (sym is)
    (both_held test rest c.in_ok-add_texts-in-Conditional.ensures.sound
    c.in_ok-add_both-in-Conditional.ensures.sound)
