use Rattle.std.proofs.Common.{rules, drop, take, ◌-◌, refl, false, ◌≡◌, ◌≤◌, length, ap, subst, sym, ◌∙◌, arith, true, [], ◌++◌, List, map}
use Rattle.std.specs.Prelude.{option_map}
use Rattle.std.specs.Borrow.{Bor}
use Rattle.std.specs.List.{list_all}
use Rattle.std.proofs.lemmas.Grind.{common_steps}
use Rattle.std.proofs.lemmas.List.{append-nil}
use Rattle.edd_syntax.specs.declared.expr.Expr as code
use Rattle.edd_syntax.specs.declared.numbers.StrNo.{StrNo}
use Rattle.edd_syntax.specs.declared.operators.Builtin.TheVariants as builtin
use Rattle.edd_syntax.specs.declared.reference.Target.{Target}
use Rattle.edd_syntax.specs.declared.reference.Target.TheVariants.{Function, Local, Item}
use Rattle.edd_syntax.specs.Expression as pure
use Rattle.edd_syntax.specs.Expression.{Expr, Call, Arguments, arguments_from}
use Rattle.edd_syntax.specs.Size.{argument_nodes}
use Rattle.edd_syntax.specs.Strings.{argument_texts, expr_texts, strings_of_texts}
use Rattle.edd_syntax.specs.Text as texts
use Rattle.edd_syntax.specs.TreeView.{numbered_argument, numbered_expr}
use Rattle.edd_syntax.specs.WellFormed.{is_text}
use Rattle.edd_syntax.specs.Words.{Words}
use Rattle.edd_instructions.specs.declared.instruction.Instruction.TheVariants as instruction
use Rattle.edd_syntax.specs.declared.operators.Parameter.{Parameter}
use Rattle.edd_syntax.specs.SubsetRules.{all_fit}
use Rattle.edd_code.specs.Arguments.{alone_block, asking, named_before, names_of}
use Rattle.edd_code.specs.Blocks.{Either, Straight, Then, WhenNotZero, WhenZero}
use Rattle.edd_code.specs.Expressions.{element_block, unary_block, instead, no_value, then_test, truth_block}
use Rattle.edd_code.specs.MethodExpressions.{argument_blocks, call_block, load_block, method_block, numbers_block, store_block}
use Rattle.edd_code.specs.Tables.{Overflows}
use Rattle.edd_code.specs.Written.{ByNumber, WritesPart}
use Rattle.edd_code.proofs.CallShapes.{only_value_is, target_and_value_are, no_assignment, no_value_alone, abort_alone, process_abort_alone, same_assignment, same_value}
use Rattle.edd_code.proofs.Asking.{asks_block, misfit_block}
use Rattle.edd_code.proofs.AskedArguments.{all_are_by, all_by, arguments_named, arguments_part, empty_named, empty_part, rest_is, first_overflows, other_named, other_part, rest_overflows, text_named, text_part, value_part}
use Rattle.edd_code.proofs.Carried.{carried}
use Rattle.edd_code.proofs.Closing.{closed_length}
use Rattle.edd_code.proofs.Numbered.{texts_overflow_second}
use Rattle.edd_code.proofs.NumberedBlocks.{builtin_part, call_part, expression_part, longer_by, opened_inside, ask_part, either_part, last_overflows, last_part, plain_part, plain_then, same_part, then_part, then_plain, when_not_zero_part, when_zero_part}
use Rattle.edd_code.proofs.TextsHeld.{all_parts, call_nodes, call_of, call_texts}
use Rattle.edd_code.proofs.Writing.{goes_on, one_more}
use Rattle.edd_code.proofs.value.+values.Goals as goal

pub write_operands-returns-clause-sound : goal.write_operands-returns-clause-sound
write_operands-returns-clause-sound t c =
    then_part c.args.code.now c.write_value.new.code c.put.new.code
    (expr_texts (numbered_expr c.args.left.now)) (expr_texts (numbered_expr c.args.right.now))
    (λ number. method_block number (numbered_expr c.args.left.now)) (λ number. Then
    (method_block number (numbered_expr c.args.right.now)) (Straight c.args.instruction))
    c.in_ok-write_value.ensures.sound (then_plain c.write_value.new.code c.write_value-2.new.code
    (expr_texts (numbered_expr c.args.right.now)) (λ number. method_block number (numbered_expr
    c.args.right.now)) (Straight c.args.instruction) c.in_ok-write_value-2.ensures.sound
    (one_more c.write_value-2.new.code c.put.new.code c.args.instruction c.in_ok-put.ensures.code))

pub write_and-returns-clause-sound : goal.write_and-returns-clause-sound
write_and-returns-clause-sound t c =
    let body = (λ (number : Words → StrNo). instead
    (method_block number (numbered_expr c.args.right.now))) in
    then_part c.args.code.now c.write_value.new.code c.close.new.code
    (expr_texts (numbered_expr c.args.left.now)) (expr_texts (numbered_expr c.args.right.now))
    (λ number. method_block number (numbered_expr c.args.left.now))
    (λ number. then_test (WhenNotZero (body number))) c.in_ok-write_value.ensures.sound (plain_then
    c.write_value.new.code c.close.new.code (expr_texts (numbered_expr c.args.right.now))
    (Straight instruction.Duplicate) (λ number. WhenNotZero (body number))
    (one_more c.write_value.new.code c.put.new.code instruction.Duplicate c.in_ok-put.ensures.code)
    (when_not_zero_part c.put.new.code c.write_instead.new.code
    (expr_texts (numbered_expr c.args.right.now)) body c.in_ok-hole.ensures.code
    c.in_ok-hole.ensures.place c.in_ok-write_instead.ensures.sound c.close.ensures))

pub write_or-returns-clause-sound : goal.write_or-returns-clause-sound
write_or-returns-clause-sound t c =
    let body = (λ (number : Words → StrNo). instead
    (method_block number (numbered_expr c.args.right.now))) in
    then_part c.args.code.now c.write_value.new.code c.close.new.code
    (expr_texts (numbered_expr c.args.left.now)) (expr_texts (numbered_expr c.args.right.now))
    (λ number. method_block number (numbered_expr c.args.left.now)) (λ number. Then truth_block
    (then_test (WhenZero (body number)))) c.in_ok-write_value.ensures.sound (plain_then
    c.write_value.new.code c.close.new.code (expr_texts (numbered_expr c.args.right.now))
    truth_block (λ number. then_test (WhenZero (body number))) c.in_ok-write_truth.ensures
    (plain_then c.write_truth.new.code c.close.new.code (expr_texts (numbered_expr
    c.args.right.now)) (Straight instruction.Duplicate) (λ number. WhenZero (body number))
    (one_more c.write_truth.new.code c.put.new.code instruction.Duplicate c.in_ok-put.ensures.code)
    (when_zero_part c.put.new.code c.write_instead.new.code
    (expr_texts (numbered_expr c.args.right.now)) body c.in_ok-hole.ensures.code
    c.in_ok-hole.ensures.place c.in_ok-write_instead.ensures.sound c.close.ensures)))

pub write_instead-returns-clause-sound : goal.write_instead-returns-clause-sound
write_instead-returns-clause-sound t c =
    plain_then c.args.code.now c.write_truth.new.code (expr_texts (numbered_expr c.args.right.now))
    (Straight instruction.Pop)
    (λ number. Then (method_block number (numbered_expr c.args.right.now)) truth_block)
    (one_more c.args.code.now c.put.new.code instruction.Pop c.in_ok-put.ensures.code)
    (then_plain c.put.new.code c.write_value.new.code (expr_texts (numbered_expr c.args.right.now))
    (λ number. method_block number (numbered_expr c.args.right.now)) truth_block
    c.in_ok-write_value.ensures.sound c.in_ok-write_truth.ensures)

pub write_either-returns-clause-sound : goal.write_either-returns-clause-sound
write_either-returns-clause-sound t c =
    either_part c.args.code.now c.write_value.new.code c.write_value-2.new.code
    (expr_texts (numbered_expr c.args.first.now)) (expr_texts (numbered_expr c.args.second.now))
    (λ number. method_block number (numbered_expr c.args.first.now))
    (λ number. method_block number (numbered_expr c.args.second.now)) c.in_ok-otherwise.ensures.code
    c.in_ok-otherwise.ensures.place c.in_ok-write_value.ensures.sound c.in_ok-end.ensures.code
    c.in_ok-end.ensures.place c.close.ensures c.in_ok-write_value-2.ensures.sound c.close-2.ensures

pub write_compound-returns-clause-sound : goal.write_compound-returns-clause-sound
write_compound-returns-clause-sound t c =
    let joined = Then (Straight (instruction.Operate c.args.op)) (store_block c.args.to) in
    plain_then c.args.code.now c.write_store.new.code (expr_texts (numbered_expr c.args.value.now))
    (load_block c.args.to) (λ number. Then (method_block number (numbered_expr c.args.value.now))
    joined) c.in_ok-write_load.ensures (then_plain c.write_load.new.code c.write_value.new.code
    (expr_texts (numbered_expr c.args.value.now)) (λ number. method_block number (numbered_expr
    c.args.value.now)) joined c.in_ok-write_value.ensures.sound (goes_on c.write_value.new.code
    c.put.new.code c.write_store.new.code (Straight (instruction.Operate c.args.op))
    (store_block c.args.to) (one_more c.write_value.new.code c.put.new.code
    (instruction.Operate c.args.op) c.in_ok-put.ensures.code) c.in_ok-write_store.ensures))

pub write_only-write_value-requires : goal.write_only-write_value-requires
write_only-write_value-requires t c =
    let is = only_value_is (arguments_from (map numbered_argument c.args.arguments.now))
    (sym (ap (option_map (λ (x : Bor (code.Expr Target)). numbered_expr x.now)) c.in-Some.is)
    ∙ c.only_value.ensures) in
    let h = ap argument_nodes is in
    let m = c.decreases in
    let kept = subst (λ (a : Arguments Target). list_all is_text (argument_texts a) ≡ true) is
    c.requires in (
      omega (arith, h, m),
      (all_parts is_text (expr_texts (numbered_expr c.in-Some.e.now)) []
          kept).0,
    )

pub write_only-returns-in-Some-clause-sound : goal.write_only-returns-in-Some-clause-sound
unfolding call_block
write_only-returns-in-Some-clause-sound t c =
    let is = only_value_is (arguments_from (map numbered_argument c.args.arguments.now))
    (sym (ap (option_map (λ (x : Bor (code.Expr Target)). numbered_expr x.now)) c.in-Some.is)
    ∙ c.only_value.ensures) in
    carried c.write_value.result
    (λ w. subst (λ (a : Arguments Target). WritesPart c.args.table.now c.args.code.now
    (argument_texts a) (λ number. call_block number builtin.IvarValue a) c.write_value.new.table
    c.write_value.new.code) (sym is)
    (last_part c.args.code.now c.write_value.new.code (expr_texts (numbered_expr c.in-Some.e.now))
    (λ number. method_block number (numbered_expr c.in-Some.e.now)) w))
    c.write_value.ensures.sound

pub write_only-returns-in-Some-clause-refused : goal.write_only-returns-in-Some-clause-refused
write_only-returns-in-Some-clause-refused t c h =
    let is = only_value_is (arguments_from (map numbered_argument c.args.arguments.now))
    (sym (ap (option_map (λ (x : Bor (code.Expr Target)). numbered_expr x.now)) c.in-Some.is)
    ∙ c.only_value.ensures) in
    subst (λ (a : Arguments Target). Overflows c.args.table.now
    (strings_of_texts (argument_texts a))) (sym is)
    (last_overflows (expr_texts (numbered_expr c.in-Some.e.now)) (c.write_value.ensures.refused h))

pub write_only-returns-in-None-clause-sound : goal.write_only-returns-in-None-clause-sound
write_only-returns-in-None-clause-sound t c =
    carried c.write_misfit.result
    (same_part c.args.code.now c.write_misfit.new.code
    (argument_texts (arguments_from (map numbered_argument c.args.arguments.now)))
    (λ number. no_value) (λ number. call_block number builtin.IvarValue
    (arguments_from (map numbered_argument c.args.arguments.now))) (λ number.
    sym (no_value_alone number (arguments_from (map numbered_argument c.args.arguments.now))
    (sym (ap (option_map (λ (x : Bor (code.Expr Target)). numbered_expr x.now)) c.in-None.is)
    ∙ c.only_value.ensures)))) c.write_misfit.ensures.sound

pub write_assigned-write_value-requires : goal.write_assigned-write_value-requires
write_assigned-write_value-requires t c =
    let is = target_and_value_are (arguments_from (map numbered_argument c.args.arguments.now))
    (sym (ap (option_map (λ (p : Target × Bor (code.Expr Target)). (p.0, numbered_expr p.1.now)))
    c.in-Some.is) ∙ c.target_and_value.ensures) in
    let h = ap argument_nodes is in
    let m = c.decreases in
    let kept = subst (λ (a : Arguments Target). list_all is_text (argument_texts a) ≡ true) is
    c.requires in (
      omega (arith, h, m),
      (all_parts is_text (expr_texts (numbered_expr c.in-Some.e.now)) []
          kept).0,
    )

pub write_assigned-returns-in_ok-put-in-Some-2-clause-sound :
    goal.write_assigned-returns-in_ok-put-in-Some-2-clause-sound
unfolding call_block
write_assigned-returns-in_ok-put-in-Some-2-clause-sound t c =
    let is = target_and_value_are (arguments_from (map numbered_argument c.args.arguments.now))
    (sym (ap (option_map (λ (p : Target × Bor (code.Expr Target)). (p.0, numbered_expr p.1.now)))
    c.in-Some.is) ∙ c.target_and_value.ensures) in
    subst (λ (a : Arguments Target). WritesPart c.args.table.now c.args.code.now (argument_texts a)
    (λ number. call_block number builtin.Iassign a) c.write_value.new.table c.put-in-Some.new.code)
    (sym is) (last_part c.args.code.now c.put-in-Some.new.code (expr_texts (numbered_expr
    c.in-Some.e.now)) (λ number. Then (method_block number (numbered_expr c.in-Some.e.now))
    (Then (store_block c.in-Some.to) (Then (Straight instruction.Pop) no_value)))
    (then_plain c.args.code.now c.write_value.new.code (expr_texts (numbered_expr c.in-Some.e.now))
    (λ number. method_block number (numbered_expr c.in-Some.e.now))
    (Then (store_block c.in-Some.to) (Then (Straight instruction.Pop) no_value))
    c.in_ok-write_value-in-Some.ensures.sound (goes_on c.write_value.new.code c.write_store.new.code
    c.put-in-Some.new.code (store_block c.in-Some.to) (Then (Straight instruction.Pop) no_value)
    c.in_ok-write_store-in-Some.ensures (goes_on c.write_store.new.code c.put.new.code
    c.put-in-Some.new.code (Straight instruction.Pop) no_value (one_more c.write_store.new.code
    c.put.new.code instruction.Pop c.in_ok-put-in-Some.ensures.code) (one_more c.put.new.code
    c.put-in-Some.new.code (instruction.Push 0) c.in_ok-put-in-Some-2.ensures.code)))))

pub write_assigned-returns-in_err-write_value-in-Some-clause-refused :
    goal.write_assigned-returns-in_err-write_value-in-Some-clause-refused
write_assigned-returns-in_err-write_value-in-Some-clause-refused t c h =
    let is = target_and_value_are (arguments_from (map numbered_argument c.args.arguments.now))
    (sym (ap (option_map (λ (p : Target × Bor (code.Expr Target)). (p.0, numbered_expr p.1.now)))
    c.in-Some.is) ∙ c.target_and_value.ensures) in
    let inner : Overflows c.args.table.now
    (strings_of_texts (expr_texts (numbered_expr c.in-Some.e.now))) =
    grind (arith, common_steps) in
    subst (λ (a : Arguments Target). Overflows c.args.table.now (strings_of_texts (argument_texts
    a))) (sym is) (last_overflows (expr_texts (numbered_expr c.in-Some.e.now)) inner)

pub write_assigned-returns-in-None-clause-sound : goal.write_assigned-returns-in-None-clause-sound
write_assigned-returns-in-None-clause-sound t c =
    carried c.write_misfit.result
    (same_part c.args.code.now c.write_misfit.new.code
    (argument_texts (arguments_from (map numbered_argument c.args.arguments.now)))
    (λ number. no_value) (λ number. call_block number builtin.Iassign
    (arguments_from (map numbered_argument c.args.arguments.now))) (λ number.
    sym (no_assignment number (arguments_from (map numbered_argument c.args.arguments.now))
    (sym (ap (option_map (λ (p : Target × Bor (code.Expr Target)).
    (p.0, numbered_expr p.1.now))) c.in-None.is) ∙ c.target_and_value.ensures))))
    c.write_misfit.ensures.sound

pub write_argument-returns-in_ok-add_text-in-Text-clause-sound :
    goal.write_argument-returns-in_ok-add_text-in-Text-clause-sound
write_argument-returns-in_ok-add_text-in-Text-clause-sound t c =
    text_part c.args.code.now c.args.parameter c.in_ok-add_text-in-Text.field-0 c.in-Text.is
    c.in_ok-add_text-in-Text.ensures.table c.in_ok-add_text-in-Text.ensures.number

pub write_argument-returns-in_ok-add_text-in-Text-clause-named :
    goal.write_argument-returns-in_ok-add_text-in-Text-clause-named
write_argument-returns-in_ok-add_text-in-Text-clause-named t c =
    text_named c.args.code.now c.args.parameter c.in_ok-add_text-in-Text.field-0 c.in-Text.is
    c.in_ok-add_text-in-Text.ensures.table c.in_ok-add_text-in-Text.ensures.number

pub write_argument-returns-in_ok-write_value-in-Number-clause-sound :
    goal.write_argument-returns-in_ok-write_value-in-Number-clause-sound
write_argument-returns-in_ok-write_value-in-Number-clause-sound t c =
    value_part c.args.code.now c.args.parameter c.write_value.new.code c.in-Value.e c.in-Value.is
    c.in-Number.is c.in_ok-write_value-in-Number.ensures.sound

pub write_arguments-returns-in_err-name-in-len1-up-parameters-clause-refused :
    goal.write_arguments-returns-in_err-name-in-len1-up-parameters-clause-refused
write_arguments-returns-in_err-name-in-len1-up-parameters-clause-refused t c h =
    let over : Overflows c.args.table.now (strings_of_texts
    (argument_texts (pure.Cons (numbered_argument c.argument-item.result) pure.Nil))) =
    grind (arith, common_steps) in
    first_overflows numbered_argument c.args.arguments.now c.argument-item.result
    c.in-len1-up.len_at_least c.argument-item.is over

pub write_arguments-returns-in_err-ask-in-len1-up-parameters-clause-refused :
    goal.write_arguments-returns-in_err-ask-in-len1-up-parameters-clause-refused
write_arguments-returns-in_err-ask-in-len1-up-parameters-clause-refused t c h =
    let over : Overflows c.write_argument.new.table (strings_of_texts
    (argument_texts (arguments_from (map numbered_argument (drop 1 c.args.arguments.now))))) =
    grind (arith, common_steps) in
    rest_overflows numbered_argument c.args.arguments.now c.argument-item.result
    c.in-len1-up.len_at_least c.argument-item.is _
    c.in_ok-name-in-len1-up-parameters.ensures.sound over

pub write_arguments-returns-in-empty-clause-sound :
    goal.write_arguments-returns-in-empty-clause-sound
write_arguments-returns-in-empty-clause-sound t c =
    empty_part numbered_argument c.args.arguments.now c.in-empty.len_below c.args.parameters.now
    c.args.table.now c.args.code.now

pub write_arguments-returns-in-empty-clause-named :
    goal.write_arguments-returns-in-empty-clause-named
write_arguments-returns-in-empty-clause-named t c =
    empty_named numbered_argument c.args.arguments.now c.in-empty.len_below c.args.parameters.now
    c.args.table.now c.args.code.now c.args.kind

pub write_arguments-returns-in_ok-ask-in-len1-up-parameters-clause-sound :
    goal.write_arguments-returns-in_ok-ask-in-len1-up-parameters-clause-sound
write_arguments-returns-in_ok-ask-in-len1-up-parameters-clause-sound t c =
    let x = numbered_argument c.argument-item.result in
    let xs = take (length c.args.arguments.now - 1) (drop 1 c.args.arguments.now) in
    let ps' = take (length c.args.parameters.now - 1) (drop 1 c.args.parameters.now) in
    let rest = arguments_from (map numbered_argument xs) in
    subst (λ (a : Arguments Target). WritesPart c.args.table.now c.args.code.now (argument_texts a)
    (λ number. numbers_block c.args.parameters.now (argument_blocks number a))
    c.write_arguments.new.table c.write_arguments.new.code)
    (all_are_by numbered_argument c.args.arguments.now c.argument-item.result
    c.in-len1-up.len_at_least c.argument-item.is xs (rest_is c.args.arguments.now))
    (subst (λ (ps : List Parameter). WritesPart c.args.table.now c.args.code.now
    (argument_texts (pure.Cons x rest))
    (λ number. numbers_block ps (argument_blocks number (pure.Cons x rest)))
    c.write_arguments.new.table c.write_arguments.new.code)
    (all_by c.args.parameters.now _ c.in-len1-up-parameters.len_at_least (search rules))
    (arguments_part c.args.table.now c.write_argument.new.table c.write_arguments.new.table
    c.args.code.now c.write_argument.new.code c.write_arguments.new.code _
    ps' x rest c.in_ok-name-in-len1-up-parameters.ensures.sound
    c.in_ok-ask-in-len1-up-parameters.ensures.sound))

pub write_arguments-returns-in_ok-ask-in-len1-up-parameters-clause-named :
    goal.write_arguments-returns-in_ok-ask-in-len1-up-parameters-clause-named
write_arguments-returns-in_ok-ask-in-len1-up-parameters-clause-named t c =
    let x = numbered_argument c.argument-item.result in
    let xs = take (length c.args.arguments.now - 1) (drop 1 c.args.arguments.now) in
    let ps' = take (length c.args.parameters.now - 1) (drop 1 c.args.parameters.now) in
    let rest = arguments_from (map numbered_argument xs) in
    λ d later. c.named_before.ensures
    ∙ subst (λ (a : Arguments Target).
    ByNumber c.args.table.now c.write_arguments.new.table
    (λ number. asking c.args.kind (names_of number c.args.parameters.now a))
    (named_before c.in_ok-name-in-len1-up-parameters.name c.in_ok-ask-in-len1-up-parameters.ask))
    (all_are_by numbered_argument c.args.arguments.now c.argument-item.result
    c.in-len1-up.len_at_least c.argument-item.is xs (rest_is c.args.arguments.now))
    (subst (λ (ps : List Parameter).
    ByNumber c.args.table.now c.write_arguments.new.table
    (λ number. asking c.args.kind (names_of number ps (pure.Cons x rest)))
    (named_before c.in_ok-name-in-len1-up-parameters.name c.in_ok-ask-in-len1-up-parameters.ask))
    (all_by c.args.parameters.now _ c.in-len1-up-parameters.len_at_least (search rules))
    (arguments_named c.args.table.now c.write_argument.new.table c.write_arguments.new.table
    c.args.code.now c.write_argument.new.code c.write_arguments.new.code _
    ps' x rest c.in_ok-name-in-len1-up-parameters.ensures.sound
    c.in_ok-ask-in-len1-up-parameters.ensures.sound c.args.kind
    c.in_ok-name-in-len1-up-parameters.name c.in_ok-ask-in-len1-up-parameters.ask
    c.in_ok-name-in-len1-up-parameters.ensures.named
    c.in_ok-ask-in-len1-up-parameters.ensures.named)) d later

pub write_argument-returns-in_default : goal.write_argument-returns-in_default
write_argument-returns-in_default t c = record {
  sound = other_part c.args.table.now c.args.code.now c.args.parameter c.in-Value.e c.in-Value.is
      c.in_default.not-Number c.requires.fits;
  named = other_named c.args.table.now c.args.code.now c.args.parameter c.in-Value.e c.in-Value.is
      c.in_default.not-Number c.variable_number.ensures;
  grows = ([], sym (append-nil c.args.table.now));
  refused = λ h. absurd (cc h);
  longer = omega arith;
}

pub write_ask-returns-clause-sound : goal.write_ask-returns-clause-sound
write_ask-returns-clause-sound t c =
    let a = arguments_from (map numbered_argument c.args.arguments.now) in
    let fit : c.all_fit.result ≡ true = search rules in
    let fits = ap (λ ps. all_fit ps a) (sym c.parameters.ensures) ∙ sym c.all_fit.ensures
    ∙ fit in
    same_part c.args.code.now c.put.new.code (argument_texts a)
    (λ number. Then (numbers_block c.parameters-2.result.now (argument_blocks number a))
    (Straight (instruction.Ask (asking c.args.kind (names_of number c.parameters-2.result.now a)))))
    (λ number. call_block number (builtin.Ask c.args.kind) a)
    (λ number. ap (λ ps. Then (numbers_block ps (argument_blocks number a))
    (Straight (instruction.Ask (asking c.args.kind (names_of number ps a))))) c.parameters-2.ensures
    ∙ sym (asks_block number c.args.kind a fits))
    (ask_part c.args.code.now c.write_arguments.new.code (argument_texts a)
    (λ number. numbers_block c.parameters-2.result.now (argument_blocks number a))
    (λ number. asking c.args.kind (names_of number c.parameters-2.result.now a)) c.in_ok-ask.ask
    c.in_ok-ask.ensures.sound c.in_ok-ask.ensures.named c.in_ok-put.ensures.code)

pub write_ask-returns-then-not-all_fit-clause-sound :
    goal.write_ask-returns-then-not-all_fit-clause-sound
write_ask-returns-then-not-all_fit-clause-sound t c =
    let a = arguments_from (map numbered_argument c.args.arguments.now) in
    let fit : c.all_fit.result ≡ false = search rules in
    carried c.write_misfit.result
    (same_part c.args.code.now c.write_misfit.new.code (argument_texts a)
    (λ number. no_value) (λ number. call_block number (builtin.Ask c.args.kind) a)
    (λ number. sym (misfit_block number c.args.kind a
    (ap (λ ps. all_fit ps a) (sym c.parameters.ensures) ∙ sym c.all_fit.ensures ∙ fit))))
    c.write_misfit.ensures.sound

pub write_operands-returns-in_err-write_value-2-clause-refused :
    goal.write_operands-returns-in_err-write_value-2-clause-refused
write_operands-returns-in_err-write_value-2-clause-refused t c h =
    let inner : Overflows c.write_value.new.table
    (strings_of_texts (expr_texts (numbered_expr c.args.right.now))) =
    grind (arith, common_steps) in
    texts_overflow_second (expr_texts (numbered_expr c.args.left.now))
    (expr_texts (numbered_expr c.args.right.now)) c.in_ok-write_value.ensures.sound inner

pub write_and-returns-in_err-write_instead-clause-refused :
    goal.write_and-returns-in_err-write_instead-clause-refused
write_and-returns-in_err-write_instead-clause-refused t c h =
    let inner : Overflows c.write_value.new.table
    (strings_of_texts (expr_texts (numbered_expr c.args.right.now))) =
    grind (arith, common_steps) in
    texts_overflow_second (expr_texts (numbered_expr c.args.left.now))
    (expr_texts (numbered_expr c.args.right.now)) c.in_ok-write_value.ensures.sound inner

pub write_or-returns-in_err-write_instead-clause-refused :
    goal.write_or-returns-in_err-write_instead-clause-refused
write_or-returns-in_err-write_instead-clause-refused t c h =
    let inner : Overflows c.write_value.new.table
    (strings_of_texts (expr_texts (numbered_expr c.args.right.now))) =
    grind (arith, common_steps) in
    texts_overflow_second (expr_texts (numbered_expr c.args.left.now))
    (expr_texts (numbered_expr c.args.right.now)) c.in_ok-write_value.ensures.sound inner

pub write_either-returns-in_err-write_value-2-clause-refused :
    goal.write_either-returns-in_err-write_value-2-clause-refused
write_either-returns-in_err-write_value-2-clause-refused t c h =
    let inner : Overflows c.write_value.new.table
    (strings_of_texts (expr_texts (numbered_expr c.args.second.now))) =
    grind (arith, common_steps) in
    texts_overflow_second (expr_texts (numbered_expr c.args.first.now))
    (expr_texts (numbered_expr c.args.second.now)) c.in_ok-write_value.ensures.sound inner

pub write_and-close-requires : goal.write_and-close-requires
write_and-close-requires t c =
    opened_inside c.put.new.code c.write_instead.new.code _ c.in_ok-hole.ensures.code refl
    c.in_ok-hole.ensures.place c.in_ok-write_instead.ensures.longer

pub write_and-returns-clause-longer : goal.write_and-returns-clause-longer
write_and-returns-clause-longer t c =
    let one : length c.write_value.new.code ≤ length c.put.new.code =
    longer_by c.write_value.new.code _ c.in_ok-put.ensures.code in
    let two : length c.put.new.code ≤ length c.open.new.code =
    longer_by c.put.new.code _ c.in_ok-hole.ensures.code in
    let inside = opened_inside c.put.new.code c.write_instead.new.code _ c.in_ok-hole.ensures.code
    refl c.in_ok-hole.ensures.place c.in_ok-write_instead.ensures.longer in
    let same : length c.close.new.code ≡ length c.write_instead.new.code = ap length c.close.ensures
    ∙ closed_length c.write_instead.new.code c.in_ok-hole.hole inside in
    omega (
      arith,
      one,
      two,
      same,
      c.in_ok-write_value.ensures.longer,
      c.in_ok-write_instead.ensures.longer,
    )

pub write_or-close-requires : goal.write_or-close-requires
write_or-close-requires t c =
    opened_inside c.put.new.code c.write_instead.new.code _ c.in_ok-hole.ensures.code refl
    c.in_ok-hole.ensures.place c.in_ok-write_instead.ensures.longer

pub write_or-returns-clause-longer : goal.write_or-returns-clause-longer
write_or-returns-clause-longer t c =
    let truth : length c.write_value.new.code ≤ length c.write_truth.new.code =
    longer_by c.write_value.new.code _ c.in_ok-write_truth.ensures in
    let one : length c.write_truth.new.code ≤ length c.put.new.code =
    longer_by c.write_truth.new.code _ c.in_ok-put.ensures.code in
    let two : length c.put.new.code ≤ length c.open.new.code =
    longer_by c.put.new.code _ c.in_ok-hole.ensures.code in
    let inside = opened_inside c.put.new.code c.write_instead.new.code _ c.in_ok-hole.ensures.code
    refl c.in_ok-hole.ensures.place c.in_ok-write_instead.ensures.longer in
    let same : length c.close.new.code ≡ length c.write_instead.new.code = ap length c.close.ensures
    ∙ closed_length c.write_instead.new.code c.in_ok-hole.hole inside in
    omega (
      arith,
      one,
      two,
      same,
      c.in_ok-write_value.ensures.longer,
      c.in_ok-write_instead.ensures.longer,
    )

pub write_either-close-requires : goal.write_either-close-requires
write_either-close-requires t c =
    let two : length c.write_value.new.code ≤ length c.open-2.new.code =
    longer_by c.write_value.new.code _ c.in_ok-end.ensures.code in
    let up : length c.open.new.code ≤ length c.open-2.new.code =
    omega (arith, two, c.in_ok-write_value.ensures.longer) in
    let inside = opened_inside c.args.code.now c.open-2.new.code _ c.in_ok-otherwise.ensures.code
    refl c.in_ok-otherwise.ensures.place up in
    inside

pub write_either-close-requires-2 : goal.write_either-close-requires-2
write_either-close-requires-2 t c =
    let two : length c.write_value.new.code ≤ length c.open-2.new.code =
    longer_by c.write_value.new.code _ c.in_ok-end.ensures.code in
    let up : length c.open.new.code ≤ length c.open-2.new.code =
    omega (arith, two, c.in_ok-write_value.ensures.longer) in
    let inside = opened_inside c.args.code.now c.open-2.new.code _ c.in_ok-otherwise.ensures.code
    refl c.in_ok-otherwise.ensures.place up in
    let same : length c.close.new.code ≡ length c.open-2.new.code = ap length c.close.ensures
    ∙ closed_length c.open-2.new.code c.in_ok-otherwise.otherwise inside in
    let on : length c.open-2.new.code ≤ length c.write_value-2.new.code =
    omega (arith, same, c.in_ok-write_value-2.ensures.longer) in
    let behind = opened_inside c.write_value.new.code c.write_value-2.new.code _
    c.in_ok-end.ensures.code refl c.in_ok-end.ensures.place on in
    behind

pub write_either-returns-clause-longer : goal.write_either-returns-clause-longer
write_either-returns-clause-longer t c =
    let two : length c.write_value.new.code ≤ length c.open-2.new.code =
    longer_by c.write_value.new.code _ c.in_ok-end.ensures.code in
    let up : length c.open.new.code ≤ length c.open-2.new.code =
    omega (arith, two, c.in_ok-write_value.ensures.longer) in
    let inside = opened_inside c.args.code.now c.open-2.new.code _ c.in_ok-otherwise.ensures.code
    refl c.in_ok-otherwise.ensures.place up in
    let same : length c.close.new.code ≡ length c.open-2.new.code = ap length c.close.ensures
    ∙ closed_length c.open-2.new.code c.in_ok-otherwise.otherwise inside in
    let on : length c.open-2.new.code ≤ length c.write_value-2.new.code =
    omega (arith, same, c.in_ok-write_value-2.ensures.longer) in
    let behind = opened_inside c.write_value.new.code c.write_value-2.new.code _
    c.in_ok-end.ensures.code refl c.in_ok-end.ensures.place on in
    let one : length c.args.code.now ≤ length c.open.new.code =
    longer_by c.args.code.now _ c.in_ok-otherwise.ensures.code in
    let still : length c.close-2.new.code ≡ length c.write_value-2.new.code =
    ap length c.close-2.ensures ∙ closed_length c.write_value-2.new.code c.in_ok-end.end
    behind in
    omega (arith, one, up, on, still)

pub write_builtin-returns-in-Ask-clause-sound : goal.write_builtin-returns-in-Ask-clause-sound
write_builtin-returns-in-Ask-clause-sound t c =
    let is : c.args.f ≡ builtin.Ask c.in-Ask.kind = cc in
    carried c.write_ask.result
    (builtin_part c.args.f (builtin.Ask c.in-Ask.kind)
    (arguments_from (map numbered_argument c.args.arguments.now)) is) c.write_ask.ensures.sound

pub write_builtin-returns-in-IvarValue-clause-sound :
    goal.write_builtin-returns-in-IvarValue-clause-sound
write_builtin-returns-in-IvarValue-clause-sound t c =
    let is : c.args.f ≡ builtin.IvarValue = cc in
    carried c.write_only.result
    (builtin_part c.args.f builtin.IvarValue
    (arguments_from (map numbered_argument c.args.arguments.now)) is) c.write_only.ensures.sound

pub write_builtin-returns-in-Iassign-clause-sound :
    goal.write_builtin-returns-in-Iassign-clause-sound
write_builtin-returns-in-Iassign-clause-sound t c =
    let is : c.args.f ≡ builtin.Iassign = cc in
    carried c.write_assigned.result
    (builtin_part c.args.f builtin.Iassign
    (arguments_from (map numbered_argument c.args.arguments.now)) is)
    c.write_assigned.ensures.sound

pub write_builtin-returns-in-Abort-clause-sound : goal.write_builtin-returns-in-Abort-clause-sound
write_builtin-returns-in-Abort-clause-sound t c =
    let is : c.args.f ≡ builtin.Abort = cc in
    carried c.write_alone.result
    (λ w. builtin_part c.args.f builtin.Abort
    (arguments_from (map numbered_argument c.args.arguments.now)) is
    (same_part c.args.code.now c.write_alone.new.code
    (argument_texts (arguments_from (map numbered_argument c.args.arguments.now)))
    (λ number. alone_block instruction.Abort
    (arguments_from (map numbered_argument c.args.arguments.now)))
    (λ number. call_block number builtin.Abort
    (arguments_from (map numbered_argument c.args.arguments.now)))
    (λ number. abort_alone number (arguments_from (map numbered_argument c.args.arguments.now)))
    w)) c.write_alone.ensures.sound

pub write_builtin-returns-in-ProcessAbort-clause-sound :
    goal.write_builtin-returns-in-ProcessAbort-clause-sound
write_builtin-returns-in-ProcessAbort-clause-sound t c =
    let is : c.args.f ≡ builtin.ProcessAbort = cc in
    carried c.write_alone-in-ProcessAbort.result
    (λ w. builtin_part c.args.f builtin.ProcessAbort
    (arguments_from (map numbered_argument c.args.arguments.now)) is
    (same_part c.args.code.now c.write_alone-in-ProcessAbort.new.code
    (argument_texts (arguments_from (map numbered_argument c.args.arguments.now)))
    (λ number. alone_block instruction.Abort
    (arguments_from (map numbered_argument c.args.arguments.now)))
    (λ number. call_block number builtin.ProcessAbort
    (arguments_from (map numbered_argument c.args.arguments.now)))
    (λ number. process_abort_alone number
    (arguments_from (map numbered_argument c.args.arguments.now))) w))
    c.write_alone-in-ProcessAbort.ensures.sound

pub write_builtin-returns-in-AddAbortMethod-clause-sound :
    goal.write_builtin-returns-in-AddAbortMethod-clause-sound
write_builtin-returns-in-AddAbortMethod-clause-sound t c =
    let is : c.args.f ≡ builtin.AddAbortMethod = cc in
    carried c.write_abort_method.result
    (builtin_part c.args.f builtin.AddAbortMethod
    (arguments_from (map numbered_argument c.args.arguments.now)) is)
    c.write_abort_method.ensures.sound

pub write_builtin-returns-in-LvarValue-clause-sound :
    goal.write_builtin-returns-in-LvarValue-clause-sound
write_builtin-returns-in-LvarValue-clause-sound t c =
    let is : c.args.f ≡ builtin.LvarValue = cc in
    carried c.write_only-in-LvarValue.result
    (λ w. builtin_part c.args.f builtin.LvarValue
    (arguments_from (map numbered_argument c.args.arguments.now)) is
    (same_part c.args.code.now c.write_only-in-LvarValue.new.code
    (argument_texts (arguments_from (map numbered_argument c.args.arguments.now)))
    (λ number. call_block number builtin.IvarValue
    (arguments_from (map numbered_argument c.args.arguments.now)))
    (λ number. call_block number builtin.LvarValue
    (arguments_from (map numbered_argument c.args.arguments.now)))
    (λ number. same_value number (arguments_from (map numbered_argument c.args.arguments.now)))
    w)) c.write_only-in-LvarValue.ensures.sound

pub write_builtin-returns-in-Lassign-clause-sound :
    goal.write_builtin-returns-in-Lassign-clause-sound
write_builtin-returns-in-Lassign-clause-sound t c =
    let is : c.args.f ≡ builtin.Lassign = cc in
    carried c.write_assigned-in-Lassign.result
    (λ w. builtin_part c.args.f builtin.Lassign
    (arguments_from (map numbered_argument c.args.arguments.now)) is
    (same_part c.args.code.now c.write_assigned-in-Lassign.new.code
    (argument_texts (arguments_from (map numbered_argument c.args.arguments.now)))
    (λ number. call_block number builtin.Iassign
    (arguments_from (map numbered_argument c.args.arguments.now)))
    (λ number. call_block number builtin.Lassign
    (arguments_from (map numbered_argument c.args.arguments.now)))
    (λ number. same_assignment number
    (arguments_from (map numbered_argument c.args.arguments.now))) w))
    c.write_assigned-in-Lassign.ensures.sound

pub write_call-returns-in-Function-clause-sound : goal.write_call-returns-in-Function-clause-sound
unfolding method_block
write_call-returns-in-Function-clause-sound t c =
    carried c.write_builtin.result (call_part c.args.function (Function c.in-Function.f)
    (arguments_from (map numbered_argument c.args.arguments.now)) c.in-Function.is)
    c.write_builtin.ensures.sound

pub write_call-returns-in-Local-clause-sound : goal.write_call-returns-in-Local-clause-sound
unfolding method_block
write_call-returns-in-Local-clause-sound t c =
    carried c.write_misfit.result
    (call_part c.args.function (Local _)
    (arguments_from (map numbered_argument c.args.arguments.now)) c.in-Local.is)
    c.write_misfit.ensures.sound

pub write_call-returns-in-Item-clause-sound : goal.write_call-returns-in-Item-clause-sound
unfolding method_block
write_call-returns-in-Item-clause-sound t c =
    carried c.write_misfit-in-Item.result
    (call_part c.args.function (Item _)
    (arguments_from (map numbered_argument c.args.arguments.now)) c.in-Item.is)
    c.write_misfit-in-Item.ensures.sound

pub write_value-returns-in_ok-put-in-Literal-clause-sound :
    goal.write_value-returns-in_ok-put-in-Literal-clause-sound
unfolding method_block
write_value-returns-in_ok-put-in-Literal-clause-sound t c =
    expression_part (numbered_expr c.args.e.now) (pure.Literal c.in-Literal.value)
    (ap numbered_expr c.in-Literal.is)
    (plain_part c.args.table.now c.args.code.now c.put.new.code
    (Straight (instruction.Push c.in-Literal.value))
    (one_more c.args.code.now c.put.new.code (instruction.Push c.in-Literal.value)
    c.in_ok-put-in-Literal.ensures.code))

pub write_value-returns-in_ok-put-in-Decimal-clause-sound :
    goal.write_value-returns-in_ok-put-in-Decimal-clause-sound
unfolding method_block
write_value-returns-in_ok-put-in-Decimal-clause-sound t c =
    expression_part (numbered_expr c.args.e.now) pure.Decimal (ap numbered_expr c.in-Decimal.is)
    (plain_part c.args.table.now c.args.code.now c.put-in-Decimal.new.code no_value
    (one_more c.args.code.now c.put-in-Decimal.new.code (instruction.Push 0)
    c.in_ok-put-in-Decimal.ensures.code))

pub write_value-returns-in-Parentheses-clause-sound :
    goal.write_value-returns-in-Parentheses-clause-sound
unfolding method_block
write_value-returns-in-Parentheses-clause-sound t c =
    let is : (numbered_expr c.args.e.now)
    ≡ pure.Parentheses (numbered_expr c.deref-in-Parentheses.result.now) =
    grind (arith, common_steps) in
    carried c.write_value-in-Parentheses.result
    (expression_part (numbered_expr c.args.e.now)
    (pure.Parentheses (numbered_expr c.deref-in-Parentheses.result.now)) is)
    c.write_value-in-Parentheses.ensures.sound

pub write_value-returns-in-Binary-clause-sound : goal.write_value-returns-in-Binary-clause-sound
unfolding method_block
write_value-returns-in-Binary-clause-sound t c =
    let is : (numbered_expr c.args.e.now)
    ≡ pure.Binary c.in-Binary.op (numbered_expr c.deref-in-Binary.result.now)
    (numbered_expr c.deref-in-Binary-2.result.now) = grind (arith, common_steps) in
    carried c.write_operands.result
    (expression_part (numbered_expr c.args.e.now)
    (pure.Binary c.in-Binary.op (numbered_expr c.deref-in-Binary.result.now)
    (numbered_expr c.deref-in-Binary-2.result.now)) is) c.write_operands.ensures.sound

pub write_value-returns-in-Compare-clause-sound : goal.write_value-returns-in-Compare-clause-sound
unfolding method_block
write_value-returns-in-Compare-clause-sound t c =
    let is : (numbered_expr c.args.e.now) ≡ pure.Compare c.in-Compare.by
    (numbered_expr c.deref-in-Compare.result.now)
    (numbered_expr c.deref-in-Compare-2.result.now) = grind (arith, common_steps) in
    carried c.write_operands-in-Compare.result
    (expression_part (numbered_expr c.args.e.now)
    (pure.Compare c.in-Compare.by (numbered_expr c.deref-in-Compare.result.now)
    (numbered_expr c.deref-in-Compare-2.result.now)) is)
    c.write_operands-in-Compare.ensures.sound

pub write_value-returns-in-LogicalAnd-clause-sound :
    goal.write_value-returns-in-LogicalAnd-clause-sound
unfolding method_block
write_value-returns-in-LogicalAnd-clause-sound t c =
    let is : (numbered_expr c.args.e.now)
    ≡ pure.LogicalAnd (numbered_expr c.deref-in-LogicalAnd.result.now)
    (numbered_expr c.deref-in-LogicalAnd-2.result.now) = grind (arith, common_steps) in
    carried c.write_and.result
    (expression_part (numbered_expr c.args.e.now)
    (pure.LogicalAnd (numbered_expr c.deref-in-LogicalAnd.result.now)
    (numbered_expr c.deref-in-LogicalAnd-2.result.now)) is) c.write_and.ensures.sound

pub write_value-returns-in-LogicalOr-clause-sound :
    goal.write_value-returns-in-LogicalOr-clause-sound
unfolding method_block
write_value-returns-in-LogicalOr-clause-sound t c =
    let is : (numbered_expr c.args.e.now)
    ≡ pure.LogicalOr (numbered_expr c.deref-in-LogicalOr.result.now)
    (numbered_expr c.deref-in-LogicalOr-2.result.now) = grind (arith, common_steps) in
    carried c.write_or.result
    (expression_part (numbered_expr c.args.e.now)
    (pure.LogicalOr (numbered_expr c.deref-in-LogicalOr.result.now)
    (numbered_expr c.deref-in-LogicalOr-2.result.now)) is) c.write_or.ensures.sound

pub write_value-returns-in-CompoundAssign-clause-sound :
    goal.write_value-returns-in-CompoundAssign-clause-sound
unfolding method_block
write_value-returns-in-CompoundAssign-clause-sound t c =
    let is : (numbered_expr c.args.e.now) ≡ pure.CompoundAssign c.in-CompoundAssign.op
    c.in-CompoundAssign.to (numbered_expr c.deref-in-CompoundAssign.result.now) =
    grind (arith, common_steps) in
    carried c.write_compound.result
    (expression_part (numbered_expr c.args.e.now)
    (pure.CompoundAssign c.in-CompoundAssign.op c.in-CompoundAssign.to
    (numbered_expr c.deref-in-CompoundAssign.result.now)) is) c.write_compound.ensures.sound

pub write_value-returns-in_ok-write_element-in-Indexed-clause-sound :
    goal.write_value-returns-in_ok-write_element-in-Indexed-clause-sound
unfolding method_block
write_value-returns-in_ok-write_element-in-Indexed-clause-sound t c =
    let is : (numbered_expr c.args.e.now)
    ≡ pure.Indexed c.in-Indexed.array (numbered_expr c.deref.result.now) =
    grind (arith, common_steps) in
    expression_part (numbered_expr c.args.e.now) (pure.Indexed c.in-Indexed.array
    (numbered_expr c.deref.result.now)) is (then_plain c.args.code.now c.write_value.new.code
    (expr_texts (numbered_expr c.deref.result.now)) (λ number. method_block number
    (numbered_expr c.deref.result.now)) (element_block c.in-Indexed.array)
    c.in_ok-write_value-in-Indexed.ensures.sound c.in_ok-write_element-in-Indexed.ensures)

pub write_value-returns-in_ok-write_unary-in-Unary-clause-sound :
    goal.write_value-returns-in_ok-write_unary-in-Unary-clause-sound
unfolding method_block
write_value-returns-in_ok-write_unary-in-Unary-clause-sound t c =
    let is : (numbered_expr c.args.e.now)
    ≡ pure.Unary c.in-Unary.op (numbered_expr c.deref-in-Unary.result.now) =
    grind (arith, common_steps) in
    expression_part (numbered_expr c.args.e.now) (pure.Unary c.in-Unary.op
    (numbered_expr c.deref-in-Unary.result.now)) is (then_plain c.args.code.now
    c.write_value-in-Unary.new.code (expr_texts (numbered_expr c.deref-in-Unary.result.now))
    (λ number. method_block number (numbered_expr c.deref-in-Unary.result.now)) (unary_block
    c.in-Unary.op) c.in_ok-write_value-in-Unary.ensures.sound c.in_ok-write_unary-in-Unary.ensures)

pub write_value-returns-in_ok-write_store-in-Assign-clause-sound :
    goal.write_value-returns-in_ok-write_store-in-Assign-clause-sound
unfolding method_block
write_value-returns-in_ok-write_store-in-Assign-clause-sound t c =
    let is : (numbered_expr c.args.e.now)
    ≡ pure.Assign c.in-Assign.to (numbered_expr c.deref-in-Assign.result.now) =
    grind (arith, common_steps) in
    expression_part (numbered_expr c.args.e.now) (pure.Assign c.in-Assign.to (numbered_expr
    c.deref-in-Assign.result.now)) is (then_plain c.args.code.now c.write_value-in-Assign.new.code
    (expr_texts (numbered_expr c.deref-in-Assign.result.now)) (λ number. method_block number
    (numbered_expr c.deref-in-Assign.result.now)) (store_block c.in-Assign.to)
    c.in_ok-write_value-in-Assign.ensures.sound c.in_ok-write_store-in-Assign.ensures)

pub write_value-returns-in_ok-write_either-in-Conditional-clause-sound :
    goal.write_value-returns-in_ok-write_either-in-Conditional-clause-sound
unfolding method_block
write_value-returns-in_ok-write_either-in-Conditional-clause-sound t c =
    let is : (numbered_expr c.args.e.now)
    ≡ pure.Conditional (numbered_expr c.deref-in-Conditional.result.now)
    (numbered_expr c.deref-in-Conditional-2.result.now)
    (numbered_expr c.deref-in-Conditional-3.result.now) = grind (arith, common_steps) in
    expression_part (numbered_expr c.args.e.now)
    (pure.Conditional (numbered_expr c.deref-in-Conditional.result.now)
    (numbered_expr c.deref-in-Conditional-2.result.now)
    (numbered_expr c.deref-in-Conditional-3.result.now)) is
    (then_part c.args.code.now c.write_value-in-Conditional.new.code c.write_either.new.code
    (expr_texts (numbered_expr c.deref-in-Conditional.result.now))
    (expr_texts (numbered_expr c.deref-in-Conditional-2.result.now)
    ++ expr_texts (numbered_expr c.deref-in-Conditional-3.result.now))
    (λ number. method_block number (numbered_expr c.deref-in-Conditional.result.now))
    (λ number. Either (method_block number (numbered_expr c.deref-in-Conditional-2.result.now))
    (method_block number (numbered_expr c.deref-in-Conditional-3.result.now)))
    c.in_ok-write_value-in-Conditional.ensures.sound
    c.in_ok-write_either-in-Conditional.ensures.sound)

pub write_value-returns-in_err-write_either-in-Conditional-clause-refused :
    goal.write_value-returns-in_err-write_either-in-Conditional-clause-refused
write_value-returns-in_err-write_either-in-Conditional-clause-refused t c h =
    let is : (numbered_expr c.args.e.now)
    ≡ pure.Conditional (numbered_expr c.deref-in-Conditional.result.now)
    (numbered_expr c.deref-in-Conditional-2.result.now)
    (numbered_expr c.deref-in-Conditional-3.result.now) = grind (arith, common_steps) in
    let inner : Overflows c.write_value-in-Conditional.new.table
    (strings_of_texts (expr_texts (numbered_expr c.deref-in-Conditional-2.result.now)
    ++ expr_texts (numbered_expr c.deref-in-Conditional-3.result.now))) = grind
    (arith, common_steps) in
    subst (λ (e : Expr Target). Overflows c.args.table.now (strings_of_texts (expr_texts e)))
    (sym is) (texts_overflow_second
    (expr_texts (numbered_expr c.deref-in-Conditional.result.now))
    (expr_texts (numbered_expr c.deref-in-Conditional-2.result.now)
    ++ expr_texts (numbered_expr c.deref-in-Conditional-3.result.now))
    c.in_ok-write_value-in-Conditional.ensures.sound inner)

pub write_value-write_call-requires : goal.write_value-write_call-requires
write_value-write_call-requires t c =
    let h = call_nodes c.args.e.now c.in-Call.at c.in-Call.function c.in-Call.arguments
    c.deref-in-Call.result.now c.in-Call.is c.deref-in-Call.ensures.value in
    let m = c.decreases in (
      omega (arith, h, m),
      subst (λ (ts : List texts.Text). list_all is_text ts ≡ true)
          (sym (call_texts c.args.e.now c.in-Call.at c.in-Call.function c.in-Call.arguments
          c.deref-in-Call.result.now c.in-Call.is c.deref-in-Call.ensures.value)) c.requires,
    )

pub write_value-returns-in-Call-clause-sound : goal.write_value-returns-in-Call-clause-sound
write_value-returns-in-Call-clause-sound t c =
    carried c.write_call.result
    (expression_part (numbered_expr c.args.e.now)
    (Call c.in-Call.function
    (arguments_from (map numbered_argument c.deref-in-Call.result.now)))
    (call_of c.args.e.now c.in-Call.at c.in-Call.function c.in-Call.arguments
    c.deref-in-Call.result.now c.in-Call.is c.deref-in-Call.ensures.value))
    c.write_call.ensures.sound

pub write_value-returns-in-Call-clause-refused : goal.write_value-returns-in-Call-clause-refused
write_value-returns-in-Call-clause-refused t c h =
    subst (λ (e : Expr Target). Overflows c.args.table.now (strings_of_texts (expr_texts e)))
    (sym (call_of c.args.e.now c.in-Call.at c.in-Call.function c.in-Call.arguments
    c.deref-in-Call.result.now c.in-Call.is c.deref-in-Call.ensures.value))
    (c.write_call.ensures.refused h)
