use Rattle.std.proofs.Common.{◌≡◌, ◌∙◌, refl, sym, ap, subst, rules, arith, inl, inr, ℕ, ◌+◌, ◌≤◌, ℤ, List, ◌++◌, [], length, map, true}
use Rattle.std.specs.Prelude.{Err, Option, option_map}
use Rattle.edd_syntax.specs.declared.numbers.StrNo.{StrNo}
use Rattle.edd_syntax.specs.Words.{Words}
use Rattle.std.specs.List.{list_all}
use Rattle.edd_syntax.specs.declared.reference.Target.{Target}
use Rattle.edd_syntax.specs.Size.{statement_nodes}
use Rattle.edd_syntax.specs.Statement as tree
use Rattle.edd_syntax.specs.Statement.{Stmt, body_from}
use Rattle.edd_syntax.specs.Strings.{expr_texts}
use Rattle.edd_syntax.specs.TreeView.{numbered_declarator, numbered_expr, numbered_part, numbered_stmt}
use Rattle.edd_syntax.specs.WellFormed.{is_text}
use Rattle.edd_syntax.proofs.TreeRows.{block_is, switch_is}
use Rattle.edd_code.specs.Closing.{closed}
use Rattle.edd_code.proofs.Closing.{closed_length}
use Rattle.edd_instructions.specs.declared.instruction.Instruction.TheVariants as instruction
use Rattle.edd_instructions.specs.Spelling.{spelling}
use Rattle.edd_methods.specs.Labels.{case_noted, default_noted, or_else}
use Rattle.edd_code.specs.MethodExpressions.{method_block}
use Rattle.edd_methods.specs.LoopParts.{loop_part, loop_texts}
use Rattle.edd_methods.specs.StatementCode.{blocks_by, statement_code}
use Rattle.edd_methods.specs.Statements.{Loop, bytes_at}
use Rattle.edd_methods.specs.TreeCode.{arms_of, last_of, test_of}
use Rattle.edd_methods.specs.Writing.{body_texts, cases_at, default_at, tests_of, statement_texts, optional_texts, Numbered}
use Rattle.edd_methods.proofs.ClosedCode.{branch_written, guard_written, longer}
use Rattle.edd_methods.proofs.ClosedLoops.{loop_written, switch_written}
use Rattle.edd_methods.proofs.NumberedParts.{both, said, listed, refused_is, refused_within, refused_behind, within_left, within_right, within_same, front_grows, front_ends, front_refused, front_texts, all_parts, front_exchanged, front_within}
use Rattle.edd_methods.proofs.WrittenBodies.{arms_none, arms_on, body_left, body_split, declare_part, case_part, default_part, part_falls, part_on, parts_none, parts_texts, statement_part, switch_left}
use Rattle.edd_methods.proofs.WrittenStatements.{LowersStatement, some_nodes, reworded, empty_written, evaluated, block_lowered, if_lowered, if_else_lowered, while_lowered, do_lowered, switch_lowered, for_lowered, for_first, for_texts, if_else_texts, do_texts, breaks_lowered, continues_lowered, returns_lowered}
use Rattle.edd_methods.proofs.statements.+statements.Goals as goal

-- ---- a body

pub write_parts-write_part-requires : goal.write_parts-write_part-requires
write_parts-write_part-requires t c =
    let left : (Words → StrNo) → List ℕ → List (tree.Part Target)
    → List ℕ = body_left c.args.leads.out c.args.leads.back in
    let kept = front_texts numbered_part parts_texts body_split left is_text (omega arith)
    c.part-item.is c.loop-part.invariant c.requires in
    let h =
    part_falls numbered_part c.args.body.now c.loop-part.part-index (omega arith) c.part-item.is in
    let m = c.decreases in
    (omega (arith, h, m), kept)

pub write_parts-returns-in_err-write_part : goal.write_parts-returns-in_err-write_part
write_parts-returns-in_err-write_part t c =
    let left : (Words → StrNo) → List ℕ → List (tree.Part Target)
    → List ℕ = body_left c.args.leads.out c.args.leads.back in
    let why = c.in_err-write_part.field-0.0 in
    let is : c.from_residual.result ≡ Err why = search rules in
    refused_is _ _ _ _ is (front_refused numbered_part parts_texts body_split left why (omega arith)
    c.part-item.is c.loop-part.invariant c.in_err-write_part.ensures)

pub write_parts-loop-part-preserved : goal.write_parts-loop-part-preserved
write_parts-loop-part-preserved t c =
    let left : (Words → StrNo) → List ℕ → List (tree.Part Target)
    → List ℕ = body_left c.args.leads.out c.args.leads.back in
    front_grows numbered_part parts_texts body_split left (omega arith) c.part-item.is
    c.loop-part.invariant (said (λ number is. part_on (blocks_by (method_block number))
    c.args.leads.out c.args.leads.back (numbered_part c.part-item.result) c.loop-part.code
    c.write_part.new.code is) c.in_ok-write_part.ensures)

pub write_parts-returns : goal.write_parts-returns
write_parts-returns t c =
    let left : (Words → StrNo) → List ℕ → List (tree.Part Target)
    → List ℕ = body_left c.args.leads.out c.args.leads.back in
    said (λ number is. sym (is ∙ parts_none (blocks_by (method_block number)) c.args.leads.out
    c.args.leads.back c.loop-part.code))
    (front_ends numbered_part parts_texts body_split left (omega arith) refl c.loop-part.invariant)

-- ---- a part

pub write_part-returns-in-Declare : goal.write_part-returns-in-Declare
write_part-returns-in-Declare t c =
    let is = ap numbered_part c.in-Declare.is ∙ ap (λ ds. tree.Declare (map numbered_declarator ds))
    (sym c.deref.ensures.value) in
    declare_part c.write_declaration.result c.args.table.now c.write_declaration.new.table
    c.args.code.now c.write_declaration.new.code c.args.leads.out c.args.leads.back is
    c.write_declaration.ensures

pub write_part-returns-in-Statement : goal.write_part-returns-in-Statement
write_part-returns-in-Statement t c =
    statement_part c.write_statement.result c.args.table.now c.write_statement.new.table
    c.args.code.now c.write_statement.new.code c.args.leads.out c.args.leads.back
    (ap numbered_part c.in-Statement.is) c.write_statement.ensures

pub write_part-returns-in-CaseLabel : goal.write_part-returns-in-CaseLabel
write_part-returns-in-CaseLabel t c =
    elim c.in-CaseLabel.is [
      | inl h ↦ case_part c.args.table.now c.args.code.now c.args.leads.out c.args.leads.back
          (ap numbered_part h.2)
      | inr h ↦ default_part c.args.table.now c.args.code.now c.args.leads.out c.args.leads.back
          (ap numbered_part h.1)
    ]

pub write_part-returns-in-CaseLabel-2 : goal.write_part-returns-in-CaseLabel-2
write_part-returns-in-CaseLabel-2 t c =
    elim c.in-CaseLabel.is [
      | inl h ↦ case_part c.args.table.now c.args.code.now c.args.leads.out c.args.leads.back
          (ap numbered_part h.2)
      | inr h ↦ default_part c.args.table.now c.args.code.now c.args.leads.out c.args.leads.back
          (ap numbered_part h.1)
    ]

-- ---- statements

pub write_statement-write_parts-requires : goal.write_statement-write_parts-requires
write_statement-write_parts-requires t c =
    let is = block_is (λ r. r) c.args.x.now c.in-Block.parts c.in-Block.is
    ∙ ap (λ ps. tree.Block (body_from (map numbered_part ps))) (sym c.deref.ensures.value) in
    let kept = subst (λ (x : Stmt Target). list_all is_text (statement_texts x) ≡ true) is
    c.requires in
    let h = ap statement_nodes is in
    let m = c.decreases in
    (omega (arith, h, m), kept)

pub write_statement-write_if-requires : goal.write_statement-write_if-requires
write_statement-write_if-requires t c =
    let is = ap numbered_stmt c.in-If.is
    ∙ ap (λ y. tree.If (numbered_expr c.in-If.condition) (numbered_stmt y))
    (sym c.deref-in-If.ensures) in
    let kept = all_parts is_text (expr_texts (numbered_expr c.in-If.condition))
    (statement_texts (numbered_stmt c.deref-in-If.result.now))
    (subst (λ (x : Stmt Target). list_all is_text (statement_texts x) ≡ true) is c.requires) in
    let h = ap statement_nodes is in
    let s = some_nodes (numbered_expr c.in-If.condition) in
    let m = c.decreases in
    (omega (arith, h, s, m), (kept.0, kept.1))

pub write_statement-write_if_else-requires : goal.write_statement-write_if_else-requires
write_statement-write_if_else-requires t c =
    let is = ap numbered_stmt c.in-IfElse.is
    ∙ ap (λ y. tree.IfElse (numbered_expr c.in-IfElse.condition) (numbered_stmt y)
    (numbered_stmt c.in-IfElse.otherwise.value)) (sym c.deref-in-IfElse.ensures)
    ∙ ap (λ y. tree.IfElse (numbered_expr c.in-IfElse.condition)
    (numbered_stmt c.deref-in-IfElse.result.now) (numbered_stmt y))
    (sym c.deref-in-IfElse-2.ensures) in
    let kept = all_parts is_text (expr_texts (numbered_expr c.in-IfElse.condition))
    (statement_texts (numbered_stmt c.deref-in-IfElse.result.now)
    ++ statement_texts (numbered_stmt c.deref-in-IfElse-2.result.now))
    (if_else_texts is_text (numbered_expr c.in-IfElse.condition)
    (numbered_stmt c.deref-in-IfElse.result.now) (numbered_stmt c.deref-in-IfElse-2.result.now)
    (subst (λ (x : Stmt Target). list_all is_text (statement_texts x) ≡ true) is c.requires)) in
    let two = all_parts is_text (statement_texts (numbered_stmt c.deref-in-IfElse.result.now))
    (statement_texts (numbered_stmt c.deref-in-IfElse-2.result.now)) kept.1 in
    let h = ap statement_nodes is in
    let m = c.decreases in
    (omega (arith, h, m), (kept.0, (two.0, two.1)))

pub write_statement-write_loop-requires : goal.write_statement-write_loop-requires
write_statement-write_loop-requires t c =
    let is = ap numbered_stmt c.in-While.is
    ∙ ap (λ y. tree.While (numbered_expr c.in-While.condition) (numbered_stmt y))
    (sym c.deref-in-While.ensures) in
    let kept = all_parts is_text (expr_texts (numbered_expr c.in-While.condition))
    (statement_texts (numbered_stmt c.deref-in-While.result.now))
    (subst (λ (x : Stmt Target). list_all is_text (statement_texts x) ≡ true) is c.requires) in
    let s = some_nodes (numbered_expr c.in-While.condition) in
    let h = ap statement_nodes is in
    let m = c.decreases in
    (omega (arith, h, m, s), (kept.0, (refl, kept.1)))

pub write_statement-write_loop-requires-in-Do : goal.write_statement-write_loop-requires-in-Do
write_statement-write_loop-requires-in-Do t c =
    let is = ap numbered_stmt c.in-Do.is
    ∙ ap (λ y. tree.Do (numbered_stmt y) (numbered_expr c.in-Do.condition))
    (sym c.deref-in-Do.ensures) in
    let kept = do_texts is_text (numbered_expr c.in-Do.condition)
    (numbered_stmt c.deref-in-Do.result.now)
    (subst (λ (x : Stmt Target). list_all is_text (statement_texts x) ≡ true) is c.requires) in
    let s = some_nodes (numbered_expr c.in-Do.condition) in
    let h = ap statement_nodes is in
    let m = c.decreases in
    (omega (arith, h, m, s), (refl, (kept.0, kept.1)))

pub write_statement-write_loop-requires-in-For : goal.write_statement-write_loop-requires-in-For
write_statement-write_loop-requires-in-For t c =
    let is = ap numbered_stmt c.in-For.is
    ∙ ap (λ y. tree.For (option_map numbered_expr c.in-For.initial)
    (option_map numbered_expr c.in-For.condition) (option_map numbered_expr c.in-For.update)
    (numbered_stmt y)) (sym c.deref-in-For.ensures) in
    let all = ap (list_all is_text)
    (sym (for_texts (option_map numbered_expr c.in-For.initial)
    (option_map numbered_expr c.in-For.condition) (option_map numbered_expr c.in-For.update)
    (numbered_stmt c.deref-in-For.result.now)))
    ∙ (subst (λ (x : Stmt Target). list_all is_text (statement_texts x) ≡ true) is c.requires)
    in
    let one = all_parts is_text (optional_texts (option_map numbered_expr c.in-For.initial)) _
    all in
    let two = all_parts is_text (optional_texts (option_map numbered_expr c.in-For.condition)) _
    one.1 in
    let three = all_parts is_text (optional_texts (option_map numbered_expr c.in-For.update)) _
    two.1 in
    let h = ap statement_nodes is in
    let m = c.decreases in (
      omega (arith, h, m),
      (
        ap (list_all is_text) c.test_of.ensures.texts ∙ two.0,
        (ap (list_all is_text) c.last_of.ensures.texts ∙ three.0, three.1),
      ),
    )

pub write_statement-write_switch-requires : goal.write_statement-write_switch-requires
write_statement-write_switch-requires t c =
    let is = switch_is (λ r. r) c.args.x.now c.in-Switch.on c.in-Switch.parts c.in-Switch.is
    ∙ ap (λ ps. tree.Switch (numbered_expr c.in-Switch.on) (body_from (map numbered_part ps)))
    (sym c.deref-in-Switch.ensures.value) in
    let kept = all_parts is_text (expr_texts (numbered_expr c.in-Switch.on))
    (body_texts (body_from (map numbered_part c.deref-in-Switch.result.now)))
    (subst (λ (x : Stmt Target). list_all is_text (statement_texts x) ≡ true) is c.requires) in
    let s = some_nodes (numbered_expr c.in-Switch.on) in
    let h = ap statement_nodes is in
    let m = c.decreases in
    (omega (arith, h, m, s), (kept.0, kept.1))

pub write_statement-returns-in-Empty : goal.write_statement-returns-in-Empty
write_statement-returns-in-Empty t c =
    subst (λ (x : Stmt Target). Numbered c.args.table.now (statement_texts x)
    (λ number. c.args.code.now ≡ c.args.code.now ++ bytes_at (length c.args.code.now)
    c.args.leads.out c.args.leads.back (statement_code (method_block number) x))
    c.args.table.now)
    (sym (ap numbered_stmt c.in-Empty.is))
    (empty_written c.args.table.now c.args.code.now c.args.leads.out c.args.leads.back)

pub write_statement-returns-in-Evaluate : goal.write_statement-returns-in-Evaluate
write_statement-returns-in-Evaluate t c =
    let is = ap numbered_stmt c.in-Evaluate.is in
    subst (λ (x : Stmt Target). LowersStatement c.write_alone.result c.args.table.now
    c.args.code.now c.args.leads.out c.args.leads.back x c.write_alone.new.code
    c.write_alone.new.table) (sym is)
    (evaluated c.write_alone.result c.args.table.now c.write_alone.new.table c.args.code.now
    c.write_alone.new.code c.args.leads.out c.args.leads.back (numbered_expr c.in-Evaluate.e)
    c.write_alone.ensures)

pub write_statement-returns-in-Block : goal.write_statement-returns-in-Block
write_statement-returns-in-Block t c =
    let is = block_is (λ r. r) c.args.x.now c.in-Block.parts c.in-Block.is
    ∙ ap (λ ps. tree.Block (body_from (map numbered_part ps))) (sym c.deref.ensures.value) in
    subst (λ (x : Stmt Target). LowersStatement c.write_parts.result c.args.table.now
    c.args.code.now c.args.leads.out c.args.leads.back x c.write_parts.new.code
    c.write_parts.new.table) (sym is)
    (block_lowered c.write_parts.result c.args.table.now c.write_parts.new.table c.args.code.now
    c.write_parts.new.code c.args.leads.out c.args.leads.back
    (body_from (map numbered_part c.deref.result.now)) c.write_parts.ensures)

pub write_statement-returns-in-If : goal.write_statement-returns-in-If
write_statement-returns-in-If t c =
    let is = ap numbered_stmt c.in-If.is
    ∙ ap (λ y. tree.If (numbered_expr c.in-If.condition) (numbered_stmt y))
    (sym c.deref-in-If.ensures) in
    subst (λ (x : Stmt Target). LowersStatement c.write_if.result c.args.table.now c.args.code.now
    c.args.leads.out c.args.leads.back x c.write_if.new.code c.write_if.new.table) (sym is)
    (if_lowered c.write_if.result c.args.table.now c.write_if.new.table c.args.code.now
    c.write_if.new.code c.args.leads.out c.args.leads.back (numbered_expr c.in-If.condition)
    (numbered_stmt c.deref-in-If.result.now) c.write_if.ensures)

pub write_statement-returns-in-IfElse : goal.write_statement-returns-in-IfElse
write_statement-returns-in-IfElse t c =
    let is = ap numbered_stmt c.in-IfElse.is
    ∙ ap (λ y. tree.IfElse (numbered_expr c.in-IfElse.condition) (numbered_stmt y)
    (numbered_stmt c.in-IfElse.otherwise.value)) (sym c.deref-in-IfElse.ensures)
    ∙ ap (λ y. tree.IfElse (numbered_expr c.in-IfElse.condition)
    (numbered_stmt c.deref-in-IfElse.result.now) (numbered_stmt y))
    (sym c.deref-in-IfElse-2.ensures) in
    subst (λ (x : Stmt Target). LowersStatement c.write_if_else.result c.args.table.now
    c.args.code.now c.args.leads.out c.args.leads.back x c.write_if_else.new.code
    c.write_if_else.new.table) (sym is)
    (if_else_lowered c.write_if_else.result c.args.table.now c.write_if_else.new.table
    c.args.code.now c.write_if_else.new.code c.args.leads.out c.args.leads.back
    (numbered_expr c.in-IfElse.condition) (numbered_stmt c.deref-in-IfElse.result.now)
    (numbered_stmt c.deref-in-IfElse-2.result.now) c.write_if_else.ensures)

pub write_statement-returns-in-While : goal.write_statement-returns-in-While
write_statement-returns-in-While t c =
    let is = ap numbered_stmt c.in-While.is
    ∙ ap (λ y. tree.While (numbered_expr c.in-While.condition) (numbered_stmt y))
    (sym c.deref-in-While.ensures) in
    subst (λ (x : Stmt Target). LowersStatement c.write_loop.result c.args.table.now c.args.code.now
    c.args.leads.out c.args.leads.back x c.write_loop.new.code c.write_loop.new.table) (sym is)
    (while_lowered c.write_loop.result c.args.table.now c.write_loop.new.table c.args.code.now
    c.write_loop.new.code c.args.leads.out c.args.leads.back
    (numbered_expr c.in-While.condition) (numbered_stmt c.deref-in-While.result.now)
    (c.write_loop.ensures c.args.leads.out c.args.leads.back))

pub write_statement-returns-in-Do : goal.write_statement-returns-in-Do
write_statement-returns-in-Do t c =
    let is = ap numbered_stmt c.in-Do.is
    ∙ ap (λ y. tree.Do (numbered_stmt y) (numbered_expr c.in-Do.condition))
    (sym c.deref-in-Do.ensures) in
    subst (λ (x : Stmt Target). LowersStatement c.write_loop-in-Do.result c.args.table.now
    c.args.code.now c.args.leads.out c.args.leads.back x c.write_loop-in-Do.new.code
    c.write_loop-in-Do.new.table) (sym is)
    (do_lowered c.write_loop-in-Do.result c.args.table.now c.write_loop-in-Do.new.table
    c.args.code.now c.write_loop-in-Do.new.code c.args.leads.out c.args.leads.back
    (numbered_expr c.in-Do.condition) (numbered_stmt c.deref-in-Do.result.now)
    (c.write_loop-in-Do.ensures c.args.leads.out c.args.leads.back))

pub write_statement-returns-in-Switch : goal.write_statement-returns-in-Switch
write_statement-returns-in-Switch t c =
    let is = switch_is (λ r. r) c.args.x.now c.in-Switch.on c.in-Switch.parts c.in-Switch.is
    ∙ ap (λ ps. tree.Switch (numbered_expr c.in-Switch.on) (body_from (map numbered_part ps)))
    (sym c.deref-in-Switch.ensures.value) in
    subst (λ (x : Stmt Target). LowersStatement c.write_switch.result c.args.table.now
    c.args.code.now c.args.leads.out c.args.leads.back x c.write_switch.new.code
    c.write_switch.new.table) (sym is)
    (switch_lowered c.write_switch.result c.args.table.now c.write_switch.new.table c.args.code.now
    c.write_switch.new.code c.args.leads.out c.args.leads.back (numbered_expr c.in-Switch.on)
    (body_from (map numbered_part c.deref-in-Switch.result.now)) c.write_switch.ensures)

pub write_statement-returns-in-Break : goal.write_statement-returns-in-Break
write_statement-returns-in-Break t c =
    let is = ap numbered_stmt c.in-Break.is in
    subst (λ (x : Stmt Target). LowersStatement c.write_jump.result c.args.table.now c.args.code.now
    c.args.leads.out c.args.leads.back x c.write_jump.new.code c.args.table.now) (sym is)
    (breaks_lowered c.write_jump.result c.args.table.now c.args.code.now c.write_jump.new.code
    c.args.leads.out c.args.leads.back c.write_jump.ensures)

pub write_statement-returns-in-Continue : goal.write_statement-returns-in-Continue
write_statement-returns-in-Continue t c =
    let is = ap numbered_stmt c.in-Continue.is in
    subst (λ (x : Stmt Target). LowersStatement c.write_jump-in-Continue.result c.args.table.now
    c.args.code.now c.args.leads.out c.args.leads.back x c.write_jump-in-Continue.new.code
    c.args.table.now) (sym is)
    (continues_lowered c.write_jump-in-Continue.result c.args.table.now c.args.code.now
    c.write_jump-in-Continue.new.code c.args.leads.out c.args.leads.back
    c.write_jump-in-Continue.ensures)

pub write_statement-returns-in-Return : goal.write_statement-returns-in-Return
write_statement-returns-in-Return t c =
    let is = ap numbered_stmt c.in-Return.is in
    subst (λ (x : Stmt Target). LowersStatement c.write_return.result c.args.table.now
    c.args.code.now c.args.leads.out c.args.leads.back x c.write_return.new.code
    c.args.table.now) (sym is)
    (returns_lowered c.write_return.result c.args.table.now c.args.code.now c.write_return.new.code
    c.args.leads.out c.args.leads.back c.write_return.ensures)

pub write_statement-returns-in_err-write_first-in-For :
    goal.write_statement-returns-in_err-write_first-in-For
write_statement-returns-in_err-write_first-in-For t c =
    let why = c.in_err-write_first-in-For.field-0.0 in
    let is : c.from_residual.result ≡ Err why = search rules in
    let x = ap numbered_stmt c.in-For.is in
    refused_is _ _ _ _ is (refused_within why c.args.table.now (optional_texts
    (option_map numbered_expr c.in-For.initial)) (statement_texts (numbered_stmt c.args.x.now))
    c.write_first.new.table (λ w held. within_same (ap statement_texts (sym x)) w (for_first
    (option_map numbered_expr c.in-For.initial) (option_map numbered_expr c.in-For.condition)
    (option_map numbered_expr c.in-For.update) (numbered_stmt c.in-For.body.value) w held))
    c.in_err-write_first-in-For.ensures)

pub write_statement-returns-in_ok-write_first-in-For :
    goal.write_statement-returns-in_ok-write_first-in-For
write_statement-returns-in_ok-write_first-in-For t c =
    let is = ap numbered_stmt c.in-For.is
    ∙ ap (λ y. tree.For (option_map numbered_expr c.in-For.initial)
    (option_map numbered_expr c.in-For.condition) (option_map numbered_expr c.in-For.update)
    (numbered_stmt y)) (sym c.deref-in-For.ensures) in
    let test = c.test_of.ensures.part in
    let last = c.last_of.ensures.part in
    let body = numbered_stmt c.deref-in-For.result.now in
    subst (λ (x : Stmt Target). LowersStatement c.write_loop-in-For.result c.args.table.now
    c.args.code.now c.args.leads.out c.args.leads.back x c.write_loop-in-For.new.code
    c.write_loop-in-For.new.table) (sym is)
    (for_lowered c.args.table.now c.write_first.new.table c.args.code.now c.write_first.new.code
    c.args.leads.out c.args.leads.back (option_map numbered_expr c.in-For.initial)
    (option_map numbered_expr c.in-For.condition) (option_map numbered_expr c.in-For.update) body
    c.in_ok-write_first-in-For.ensures c.write_loop-in-For.result c.write_loop-in-For.new.table
    c.write_loop-in-For.new.code (reworded c.write_loop-in-For.result c.write_first.new.table
    c.write_loop-in-For.new.table (λ number. c.write_loop-in-For.new.code ≡ c.write_first.new.code
    ++ bytes_at (length c.write_first.new.code) c.args.leads.out c.args.leads.back (Loop (loop_part
    (method_block number) c.test_of.result) (loop_part (method_block number) c.last_of.result)
    (statement_code (method_block number) body))) (λ number. c.write_loop-in-For.new.code
    ≡ c.write_first.new.code ++ bytes_at (length c.write_first.new.code) c.args.leads.out
    c.args.leads.back (Loop (test_of (blocks_by (method_block number))
    (option_map numbered_expr c.in-For.condition)) (last_of (blocks_by (method_block number))
    (option_map numbered_expr c.in-For.update)) (statement_code (method_block number) body)))
    (ap (λ ts. ts ++ (loop_texts c.last_of.result ++ statement_texts body)) c.test_of.ensures.texts
    ∙ ap (λ ts. optional_texts (option_map numbered_expr c.in-For.condition)
    ++ (ts ++ statement_texts body)) c.last_of.ensures.texts) (λ number e. e
    ∙ ap (λ q. c.write_first.new.code ++ bytes_at (length c.write_first.new.code) c.args.leads.out
    c.args.leads.back (Loop q (loop_part (method_block number) c.last_of.result)
    (statement_code (method_block number) body))) (test (method_block number))
    ∙ ap (λ q. c.write_first.new.code ++ bytes_at (length c.write_first.new.code) c.args.leads.out
    c.args.leads.back (Loop (test_of (blocks_by (method_block number))
    (option_map numbered_expr c.in-For.condition)) q (statement_code (method_block number) body)))
    (last (method_block number))) (c.write_loop-in-For.ensures c.args.leads.out c.args.leads.back)))

-- ---- choices

pub write_if-returns-in_err-write_one : goal.write_if-returns-in_err-write_one
write_if-returns-in_err-write_one t c =
    let why = c.in_err-write_one.field-0.0 in
    let is : c.from_residual.result ≡ Err why = search rules in
    refused_is _ _ _ _ is (refused_within why c.args.table.now (expr_texts
    (numbered_expr c.args.condition.now)) (expr_texts (numbered_expr c.args.condition.now)
    ++ statement_texts (numbered_stmt c.args.first.now)) c.write_one.new.table (within_left _ _)
    c.in_err-write_one.ensures)

pub write_if-returns-in_err-write_statement : goal.write_if-returns-in_err-write_statement
write_if-returns-in_err-write_statement t c =
    let why = c.in_err-write_statement.field-0.0 in
    let is : c.from_residual-in_err-write_statement.result ≡ Err why = search rules in
    refused_is _ _ _ _ is (refused_behind why (statement_texts (numbered_stmt c.args.first.now))
    c.write_statement.new.table c.in_ok-write_one.ensures c.in_err-write_statement.ensures)

pub write_if-close-requires : goal.write_if-close-requires
write_if-close-requires t c =
    omega (
      arith,
      c.in_ok-end.ensures.place,
      longer c.write_one.new.code _ c.in_ok-end.ensures.code,
      longer c.open.new.code _ (c.in_ok-write_statement.ensures.written []),
    )

pub write_if-returns : goal.write_if-returns
write_if-returns t c =
    said (λ number parts. c.close.ensures ∙ ap (closed c.write_statement.new.code)
    c.in_ok-end.ensures.place ∙ guard_written c.args.code.now c.args.leads.out c.args.leads.back
    (method_block number (numbered_expr c.args.condition.now)) (statement_code (method_block number)
    (numbered_stmt c.args.first.now)) parts.0 c.in_ok-end.ensures.code parts.1)
    (both c.in_ok-write_one.ensures c.in_ok-write_statement.ensures)

pub write_if_else-returns-in_err-write_one : goal.write_if_else-returns-in_err-write_one
write_if_else-returns-in_err-write_one t c =
    let why = c.in_err-write_one.field-0.0 in
    let is : c.from_residual.result ≡ Err why = search rules in
    refused_is _ _ _ _ is (refused_within why c.args.table.now (expr_texts
    (numbered_expr c.args.condition.now)) (expr_texts (numbered_expr c.args.condition.now)
    ++ (statement_texts (numbered_stmt c.args.first.now) ++ statement_texts (numbered_stmt
    c.args.otherwise.now))) c.write_one.new.table (within_left _ _) c.in_err-write_one.ensures)

pub write_if_else-returns-in_err-write_statement : goal.write_if_else-returns-in_err-write_statement
write_if_else-returns-in_err-write_statement t c =
    let why = c.in_err-write_statement.field-0.0 in
    let is : c.from_residual-in_err-write_statement.result ≡ Err why = search rules in
    let x = statement_texts (numbered_stmt c.args.first.now) in
    let y = statement_texts (numbered_stmt c.args.otherwise.now) in
    refused_is _ _ _ _ is (refused_behind why (x ++ y) c.write_statement.new.table
    c.in_ok-write_one.ensures (refused_within why c.write_one.new.table x (x
    ++ y) c.write_statement.new.table (within_left x y) c.in_err-write_statement.ensures))

pub write_if_else-close-requires : goal.write_if_else-close-requires
write_if_else-close-requires t c =
    omega (
      arith,
      c.in_ok-otherwise_hole.ensures.place,
      longer c.write_one.new.code _ c.in_ok-otherwise_hole.ensures.code,
      longer c.open.new.code _ (c.in_ok-write_statement.ensures.written []),
      longer c.write_statement.new.code _ c.in_ok-end_hole.ensures.code,
    )

pub write_if_else-returns-in_err-write_statement-2 :
    goal.write_if_else-returns-in_err-write_statement-2
write_if_else-returns-in_err-write_statement-2 t c =
    let why = c.in_err-write_statement-2.field-0.0 in
    let is : c.from_residual-in_err-write_statement-2.result ≡ Err why = search rules in
    let y = statement_texts (numbered_stmt c.args.otherwise.now) in
    refused_is _ _ _ _ is (refused_behind why (statement_texts (numbered_stmt c.args.first.now)
    ++ y) c.write_statement-2.new.table c.in_ok-write_one.ensures
    (refused_behind why y c.write_statement-2.new.table c.in_ok-write_statement.ensures
    c.in_err-write_statement-2.ensures))

pub write_if_else-close-requires-2 : goal.write_if_else-close-requires-2
write_if_else-close-requires-2 t c =
    let one : c.in_ok-otherwise_hole.otherwise_hole + 4 ≤ length c.open-2.new.code =
    omega (
      arith,
      c.in_ok-otherwise_hole.ensures.place,
      longer c.write_one.new.code _ c.in_ok-otherwise_hole.ensures.code,
      longer c.open.new.code _ (c.in_ok-write_statement.ensures.written []),
      longer c.write_statement.new.code _ c.in_ok-end_hole.ensures.code,
    ) in
    let same = ap length c.close.ensures ∙ closed_length c.open-2.new.code
    c.in_ok-otherwise_hole.otherwise_hole one in
    omega (
      arith,
      same,
      c.in_ok-end_hole.ensures.place,
      longer c.write_statement.new.code _ c.in_ok-end_hole.ensures.code,
      longer c.close.new.code _ (c.in_ok-write_statement-2.ensures.written []),
    )

pub write_if_else-returns : goal.write_if_else-returns
write_if_else-returns t c =
    said (λ number parts. c.close-2.ensures ∙ ap (closed c.write_statement-2.new.code)
    c.in_ok-end_hole.ensures.place ∙ branch_written c.args.code.now c.args.leads.out
    c.args.leads.back (method_block number (numbered_expr c.args.condition.now)) (statement_code
    (method_block number) (numbered_stmt c.args.first.now)) (statement_code (method_block number)
    (numbered_stmt c.args.otherwise.now)) parts.0 c.in_ok-otherwise_hole.ensures.code parts.1.0
    c.in_ok-end_hole.ensures.code (c.close.ensures ∙ ap (closed c.open-2.new.code)
    c.in_ok-otherwise_hole.ensures.place) parts.1.1) (both c.in_ok-write_one.ensures
    (both c.in_ok-write_statement.ensures c.in_ok-write_statement-2.ensures))

-- ---- loops

pub write_loop-returns-in_err-write_loop_part : goal.write_loop-returns-in_err-write_loop_part
write_loop-returns-in_err-write_loop_part t c out again =
    let why = c.in_err-write_loop_part.field-0.0 in
    let is : c.from_residual-in_err-write_loop_part.result ≡ Err why = search rules in
    refused_is _ _ _ _ is (refused_within why c.args.table.now (loop_texts c.args.back) (loop_texts
    c.args.front ++ (loop_texts c.args.back ++ statement_texts (numbered_stmt c.args.body.now)))
    c.write_loop_part.new.table (λ w held. within_right (loop_texts c.args.front)
    (loop_texts c.args.back ++ statement_texts (numbered_stmt c.args.body.now)) w
    (within_left (loop_texts c.args.back) (statement_texts (numbered_stmt c.args.body.now)) w held))
    c.in_err-write_loop_part.ensures)

pub write_loop-close-requires : goal.write_loop-close-requires
write_loop-close-requires t c =
    omega (
      arith,
      c.in_ok-entry.ensures.place,
      longer c.args.code.now _ c.in_ok-entry.ensures.code,
      longer c.open.new.code _ c.in_ok-end.ensures.code,
      longer c.open-2.new.code _ (c.in_ok-write_loop_part.ensures.written []),
    )

pub write_loop-returns-in_err-write_loop_part-2 : goal.write_loop-returns-in_err-write_loop_part-2
write_loop-returns-in_err-write_loop_part-2 t c out again =
    let why = c.in_err-write_loop_part-2.field-0.0 in
    let is : c.from_residual-in_err-write_loop_part-2.result ≡ Err why = search rules in
    refused_is _ _ _ _ is (refused_within why c.args.table.now (loop_texts c.args.back
    ++ loop_texts c.args.front) (loop_texts c.args.front ++ (loop_texts c.args.back
    ++ statement_texts (numbered_stmt c.args.body.now))) c.write_loop_part-2.new.table
    (front_within (loop_texts c.args.front) (loop_texts c.args.back) (statement_texts (numbered_stmt
    c.args.body.now))) (refused_behind why (loop_texts c.args.front) c.write_loop_part-2.new.table
    c.in_ok-write_loop_part.ensures c.in_err-write_loop_part-2.ensures))

pub write_loop-returns-in_err-write_statement : goal.write_loop-returns-in_err-write_statement
write_loop-returns-in_err-write_statement t c out again =
    let why = c.in_err-write_statement.field-0.0 in
    let is : c.from_residual-in_err-write_statement.result ≡ Err why = search rules in
    refused_is _ _ _ _ is (refused_within why c.args.table.now (loop_texts c.args.back
    ++ (loop_texts c.args.front ++ statement_texts (numbered_stmt c.args.body.now))) (loop_texts
    c.args.front ++ (loop_texts c.args.back ++ statement_texts (numbered_stmt c.args.body.now)))
    c.write_statement.new.table (front_exchanged (loop_texts c.args.back) (loop_texts c.args.front)
    (statement_texts (numbered_stmt c.args.body.now)))
    (refused_behind why (loop_texts c.args.front ++ statement_texts (numbered_stmt c.args.body.now))
    c.write_statement.new.table c.in_ok-write_loop_part.ensures (refused_behind why
    (statement_texts (numbered_stmt c.args.body.now)) c.write_statement.new.table
    c.in_ok-write_loop_part-2.ensures c.in_err-write_statement.ensures)))

pub write_loop-close-requires-2 : goal.write_loop-close-requires-2
write_loop-close-requires-2 t c =
    let one : c.in_ok-entry.entry + 4 ≤ length c.write_loop_part.new.code =
    omega (
      arith,
      c.in_ok-entry.ensures.place,
      longer c.args.code.now _ c.in_ok-entry.ensures.code,
      longer c.open.new.code _ c.in_ok-end.ensures.code,
      longer c.open-2.new.code _ (c.in_ok-write_loop_part.ensures.written []),
    ) in
    let same = ap length c.close.ensures ∙ closed_length c.write_loop_part.new.code
    c.in_ok-entry.entry one in
    omega (
      arith,
      same,
      c.in_ok-end.ensures.place,
      longer c.args.code.now _ c.in_ok-entry.ensures.code,
      longer c.open.new.code _ c.in_ok-end.ensures.code,
      longer c.open-2.new.code _ (c.in_ok-write_loop_part.ensures.written []),
      longer c.close.new.code _ (c.in_ok-write_loop_part-2.ensures.written []),
      longer c.write_loop_part-2.new.code _ (c.in_ok-write_statement.ensures.written []),
      longer c.write_statement.new.code _ c.in_ok-put.ensures.code,
    )

pub write_loop-returns : goal.write_loop-returns
write_loop-returns t c out again =
    listed (front_exchanged (loop_texts c.args.back) (loop_texts c.args.front)
    (statement_texts (numbered_stmt c.args.body.now))) (front_exchanged (loop_texts c.args.front)
    (loop_texts c.args.back) (statement_texts (numbered_stmt c.args.body.now)))
    (said (λ number parts. c.close-2.ensures ∙ ap (closed c.put.new.code) c.in_ok-end.ensures.place
    ∙ loop_written c.args.code.now out again (loop_part (method_block number) c.args.front)
    (loop_part (method_block number) c.args.back) (statement_code (method_block number)
    (numbered_stmt c.args.body.now)) c.in_ok-entry.ensures.code c.in_ok-end.ensures.code parts.0
    (c.close.ensures ∙ ap (closed c.write_loop_part.new.code) c.in_ok-entry.ensures.place) parts.1.0
    parts.1.1 c.in_ok-put.ensures.code c.place-out.ensures c.place-again.ensures)
    (both c.in_ok-write_loop_part.ensures
    (both c.in_ok-write_loop_part-2.ensures c.in_ok-write_statement.ensures)))

-- ---- switches

pub write_switch-returns-in_err-write_one : goal.write_switch-returns-in_err-write_one
write_switch-returns-in_err-write_one t c =
    let why = c.in_err-write_one.field-0.0 in
    let is : c.from_residual.result ≡ Err why = search rules in
    refused_is _ _ _ _ is (refused_within why c.args.table.now
    (expr_texts (numbered_expr c.args.on.now)) (expr_texts (numbered_expr c.args.on.now)
    ++ body_texts (body_from (map numbered_part c.args.parts.now))) c.write_one.new.table
    (within_left _ _) c.in_err-write_one.ensures)

pub write_switch-returns-in_err-write_arms : goal.write_switch-returns-in_err-write_arms
write_switch-returns-in_err-write_arms t c =
    let why = c.in_err-write_arms.field-0.0 in
    let is : c.from_residual-in_err-write_arms.result ≡ Err why = search rules in
    refused_is _ _ _ _ is
    (refused_behind why (body_texts (body_from (map numbered_part c.args.parts.now)))
    c.write_arms.new.table c.in_ok-write_one.ensures c.in_err-write_arms.ensures)

pub write_switch-close-requires : goal.write_switch-close-requires
write_switch-close-requires t c =
    omega (
      arith,
      c.in_ok-tests.ensures.place,
      longer c.write_one.new.code _ c.in_ok-tests.ensures.code,
      longer c.open.new.code _ c.in_ok-end.ensures.code,
      longer c.open-2.new.code _ (c.in_ok-write_arms.ensures.written []).code,
      longer c.write_arms.new.code _ c.in_ok-put.ensures.code,
    )

pub write_switch-close-requires-2 : goal.write_switch-close-requires-2
write_switch-close-requires-2 t c =
    let one : c.in_ok-tests.tests + 4 ≤ length c.put.new.code =
    omega (
      arith,
      c.in_ok-tests.ensures.place,
      longer c.write_one.new.code _ c.in_ok-tests.ensures.code,
      longer c.open.new.code _ c.in_ok-end.ensures.code,
      longer c.open-2.new.code _ (c.in_ok-write_arms.ensures.written []).code,
      longer c.write_arms.new.code _ c.in_ok-put.ensures.code,
    ) in
    let same = ap length c.close.ensures ∙ closed_length c.put.new.code c.in_ok-tests.tests one in
    omega (
      arith,
      same,
      c.in_ok-end.ensures.place,
      longer c.write_one.new.code _ c.in_ok-tests.ensures.code,
      longer c.open.new.code _ c.in_ok-end.ensures.code,
      longer c.open-2.new.code _ (c.in_ok-write_arms.ensures.written []).code,
      longer c.write_arms.new.code _ c.in_ok-put.ensures.code,
      longer c.close.new.code _ c.in_ok-write_tests.ensures,
      longer c.write_tests.new.code _ c.in_ok-put-2.ensures.code,
      longer c.put-2.new.code _ c.in_ok-put-3.ensures.code,
    )

pub write_switch-returns : goal.write_switch-returns
write_switch-returns t c =
    said (λ number parts. c.close-2.ensures ∙ ap (closed c.put-3.new.code) c.in_ok-end.ensures.place
    ∙ switch_written c.args.code.now c.args.leads.out c.args.leads.back
    (method_block number (numbered_expr c.args.on.now)) (arms_of (blocks_by (method_block number))
    (body_from (map numbered_part c.args.parts.now))) parts.0 c.in_ok-tests.ensures.code
    c.in_ok-end.ensures.code parts.1.code c.in_ok-put.ensures.code (c.close.ensures
    ∙ ap (closed c.put.new.code) c.in_ok-tests.ensures.place) (c.in_ok-write_tests.ensures
    ∙ ap (λ cs. c.close.new.code ++ tests_of cs) c.deref.ensures.value) c.in_ok-put-2.ensures.code
    (c.in_ok-put-3.ensures.code ∙ ap (λ n. c.put-2.new.code
    ++ spelling (instruction.Jump n)) c.default_or.ensures) c.place-out.ensures (parts.1.cases
    ∙ ap (λ cs. cs ++ cases_at (length c.open-2.new.code) (arms_of (blocks_by (method_block number))
    (body_from (map numbered_part c.args.parts.now)))) c.new-labels.ensures.cases) (parts.1.default
    ∙ ap (λ d. or_else d (default_at (length c.open-2.new.code)
    (arms_of (blocks_by (method_block number)) (body_from (map numbered_part c.args.parts.now)))))
    c.new-labels.ensures.default)) (both c.in_ok-write_one.ensures c.in_ok-write_arms.ensures)

pub write_arms-write_part-requires : goal.write_arms-write_part-requires
write_arms-write_part-requires t c =
    let left : (Words → StrNo) → List ℕ × List (ℤ × ℕ) × Option ℕ → List (tree.Part Target)
    → List ℕ × List (ℤ × ℕ) × Option ℕ = switch_left c.args.leads.out c.args.leads.back in
    let kept = front_texts numbered_part parts_texts body_split left is_text (omega arith)
    c.part-item.is c.loop-part.invariant c.requires in
    let h =
    part_falls numbered_part c.args.parts.now c.loop-part.part-index (omega arith) c.part-item.is in
    let m = c.decreases in
    (omega (arith, h, m), kept)

pub write_arms-returns-in_err-write_part : goal.write_arms-returns-in_err-write_part
write_arms-returns-in_err-write_part t c =
    let left : (Words → StrNo) → List ℕ × List (ℤ × ℕ) × Option ℕ → List (tree.Part Target)
    → List ℕ × List (ℤ × ℕ) × Option ℕ = switch_left c.args.leads.out c.args.leads.back in
    let why = c.in_err-write_part.field-0.0 in
    let is : c.from_residual-in_err-write_part.result ≡ Err why = search rules in
    refused_is _ _ _ _ is (front_refused numbered_part parts_texts body_split left why (omega arith)
    c.part-item.is c.loop-part.invariant c.in_err-write_part.ensures)

pub write_arms-loop-part-preserved : goal.write_arms-loop-part-preserved
write_arms-loop-part-preserved t c =
    let left : (Words → StrNo) → List ℕ × List (ℤ × ℕ) × Option ℕ → List (tree.Part Target)
    → List ℕ × List (ℤ × ℕ) × Option ℕ = switch_left c.args.leads.out c.args.leads.back in
    front_grows numbered_part parts_texts body_split left (omega arith) c.part-item.is
    c.loop-part.invariant (said (λ number is. arms_on (blocks_by (method_block number))
    c.args.leads.out c.args.leads.back (numbered_part c.part-item.result) c.loop-part.code
    c.write_part.new.code c.loop-part.labels.cases.items c.note.new.labels.cases.items
    c.loop-part.labels.default c.note.new.labels.default is (c.in_ok-note.ensures.cases
    ∙ ap (λ n. c.loop-part.labels.cases.items ++ case_noted n (numbered_part c.part-item.result))
    c.place.ensures) (c.in_ok-note.ensures.default ∙ ap (λ n. or_else c.loop-part.labels.default
    (default_noted n (numbered_part c.part-item.result))) c.place.ensures))
    c.in_ok-write_part.ensures)

pub write_arms-returns : goal.write_arms-returns
write_arms-returns t c =
    let left : (Words → StrNo) → List ℕ × List (ℤ × ℕ) × Option ℕ → List (tree.Part Target)
    → List ℕ × List (ℤ × ℕ) × Option ℕ = switch_left c.args.leads.out c.args.leads.back in
    said (λ number is. arms_none (blocks_by (method_block number)) c.args.leads.out
    c.args.leads.back c.args.code.now c.args.labels.now c.loop-part.code c.loop-part.labels
    (map numbered_part c.args.parts.now) is)
    (front_ends numbered_part parts_texts body_split left (omega arith) refl c.loop-part.invariant)
