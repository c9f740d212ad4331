use Rattle.std.proofs.Common.{◌≡◌, rules, refl, sym, ap, subst, ◌∙◌, ℕ, ◌+◌, ◌-◌, ◌<◌, arith, true, get_or, List, [], length, map, take, Option, Some, None}
use Rattle.std.specs.Prelude.{OnOk, IsErrOf, option_map}
use Rattle.std.specs.Borrow.{Bor}
use Rattle.std.specs.List.{flat_map, list_all}
use Rattle.std.proofs.lemmas.Grind.{common_steps}
use Rattle.std.proofs.lemmas.List.{append-nil, length-map, length-take-le, take_all}
use Rattle.edd_syntax.specs.declared.cond.Cond as code
use Rattle.edd_syntax.specs.declared.reference.Target.{Target}
use Rattle.edd_syntax.specs.Conditional.{Cond, Arm, Case, NoArms, ConsArm, conds_from}
use Rattle.edd_syntax.specs.SubsetRules.{values_in, values_of, values_under}
use Rattle.edd_syntax.specs.TreeView.{numbered_expr}
use Rattle.edd_syntax.specs.Words.{Words}
use Rattle.edd_code.specs.declared.fault.LowerFault.TheVariants.{TooMany}
use Rattle.edd_code.specs.Tables.{Overflows}
use Rattle.edd_code.specs.Written.{WritesBlock}
use Rattle.edd_attrs.specs.TreeBlocks.{IsCondBlock, IsCondsBlock}
use Rattle.edd_attrs.specs.Writing.{WritesArm, arms_strings, cond_strings, conds_strings, headers}
use Rattle.edd_attrs.proofs.Arms.{Back, case_written, default_written, header_inside, hole_at, holes_counted, popped, back_starts, back_overflows, back_grows, back_ends}
use Rattle.edd_attrs.proofs.Carried.{carried}
use Rattle.edd_attrs.proofs.CondViews.{viewed, all_viewed, arm_viewed, arms_viewed, value_is, if_is, select_is, case_is, default_is, case_header, case_hole, first_falls, arms_fall, case_falls, element_falls, arm_falls, default_falls}
use Rattle.edd_attrs.proofs.Conditionals.{if_written, if_overflows, else_overflows, none_written, default_block, default_overflows, select_written, select_overflows}
use Rattle.edd_attrs.proofs.Flat.{all_parts, alone, element_kept, arm_kept, default_kept, conds_strings_are}
use Rattle.edd_code.proofs.Growing.{no_growth, grows_on}
use Rattle.edd_attrs.proofs.Loops.{front_starts, front_grows, front_overflows, front_ends, block_step, viewed_at}
use Rattle.edd_attrs.proofs.conditions.+conditions.Goals as goal

-- ---- write_cond

pub write_cond-write-requires : goal.write_cond-write-requires
write_cond-write-requires g t c =
    alone g.V.Element.is_kept (g.V.Element.view c.in-Value.v)
    (subst (λ (x : Cond Target g.V.Element.Meant). list_all g.V.Element.is_kept (values_in x)
    ≡ true) (value_is g.V.Element.view c.in-Value.is) c.requires)

pub write_cond-returns-in-Value-clause-sound : goal.write_cond-returns-in-Value-clause-sound
write_cond-returns-in-Value-clause-sound g t c =
    subst (λ (x : Cond Target g.V.Element.Meant). OnOk c.write.result
    (WritesBlock c.args.table.now c.args.code.now (cond_strings g.V.Element.strings x) (λ numbered
    b. IsCondBlock (g.V.Element.is_block numbered) x b) c.write.new.table c.write.new.code))
    (sym (value_is g.V.Element.view c.in-Value.is)) (subst (λ (ws : List Words). OnOk c.write.result
    (WritesBlock c.args.table.now c.args.code.now ws (λ numbered b. g.V.Element.is_block numbered
    (g.V.Element.view c.in-Value.v) b) c.write.new.table c.write.new.code))
    (sym (append-nil (g.V.Element.strings (g.V.Element.view c.in-Value.v)))) c.write.ensures.sound)

pub write_cond-returns-in-Value-clause-refused : goal.write_cond-returns-in-Value-clause-refused
write_cond-returns-in-Value-clause-refused g t c =
    subst (λ (x : Cond Target g.V.Element.Meant). IsErrOf c.write.result TooMany
    → Overflows c.args.table.now (cond_strings g.V.Element.strings x))
    (sym (value_is g.V.Element.view c.in-Value.is)) (subst
    (λ (ws : List Words). IsErrOf c.write.result TooMany → Overflows c.args.table.now ws) (sym
    (append-nil (g.V.Element.strings (g.V.Element.view c.in-Value.v)))) c.write.ensures.refused)

pub write_cond-write_if-requires : goal.write_cond-write_if-requires
write_cond-write_if-requires g t c κs within =
    let is = if_is g.V.Element.view c.in-If.first c.in-If.otherwise c.in-If.is c.deref.ensures.value
    c.deref-in-If.ensures.value in
    let kept = all_parts g.V.Element.is_kept
    (values_of (all_viewed g.V.Element.view c.deref.result.now))
    (values_of (all_viewed g.V.Element.view c.deref-in-If.result.now))
    (subst (λ (x : Cond Target g.V.Element.Meant). list_all g.V.Element.is_kept (values_in x)
    ≡ true) is c.requires) in
    let h = first_falls g.V.Element.view c.args.c.now c.in-If.first c.in-If.otherwise c.in-If.is
    c.deref.ensures.value c.deref-in-If.ensures.value in
    let m = c.decreases in
    (omega (arith, h, m), (search rules, kept))

pub write_cond-returns-in-If-clause-sound : goal.write_cond-returns-in-If-clause-sound
write_cond-returns-in-If-clause-sound g t c =
    subst (λ (x : Cond Target g.V.Element.Meant). OnOk c.write_if.result
    (WritesBlock c.args.table.now c.args.code.now (cond_strings g.V.Element.strings x) (λ numbered
    b. IsCondBlock (g.V.Element.is_block numbered) x b) c.write_if.new.table c.write_if.new.code))
    (sym (if_is g.V.Element.view c.in-If.first c.in-If.otherwise c.in-If.is c.deref.ensures.value
    c.deref-in-If.ensures.value)) c.write_if.ensures.sound

pub write_cond-returns-in-If-clause-refused : goal.write_cond-returns-in-If-clause-refused
write_cond-returns-in-If-clause-refused g t c =
    subst (λ (x : Cond Target g.V.Element.Meant). IsErrOf c.write_if.result TooMany
    → Overflows c.args.table.now (cond_strings g.V.Element.strings x)) (sym (if_is g.V.Element.view
    c.in-If.first c.in-If.otherwise c.in-If.is c.deref.ensures.value c.deref-in-If.ensures.value))
    c.write_if.ensures.refused

pub write_cond-write_select-requires : goal.write_cond-write_select-requires
write_cond-write_select-requires g t c κs within =
    let is =
    select_is g.V.Element.view c.in-Select.arms c.in-Select.is c.deref-in-Select.ensures.value in
    let kept = subst (λ (x : Cond Target g.V.Element.Meant). list_all g.V.Element.is_kept
    (values_in x) ≡ true) is c.requires in
    let h = arms_fall g.V.Element.view c.args.c.now c.in-Select.arms c.in-Select.is
    c.deref-in-Select.ensures.value in
    let m = c.decreases in
    (omega (arith, h, m), (search rules, kept))

pub write_cond-returns-in-Select-clause-sound : goal.write_cond-returns-in-Select-clause-sound
write_cond-returns-in-Select-clause-sound g t c =
    subst (λ (x : Cond Target g.V.Element.Meant). OnOk c.write_select.result (WritesBlock
    c.args.table.now c.args.code.now (cond_strings g.V.Element.strings x) (λ numbered b. IsCondBlock
    (g.V.Element.is_block numbered) x b) c.write_select.new.table c.write_select.new.code)) (sym
    (select_is g.V.Element.view c.in-Select.arms c.in-Select.is c.deref-in-Select.ensures.value))
    c.write_select.ensures.sound

pub write_cond-returns-in-Select-clause-refused : goal.write_cond-returns-in-Select-clause-refused
write_cond-returns-in-Select-clause-refused g t c =
    subst (λ (x : Cond Target g.V.Element.Meant). IsErrOf c.write_select.result TooMany → Overflows
    c.args.table.now (cond_strings g.V.Element.strings x)) (sym (select_is g.V.Element.view
    c.in-Select.arms c.in-Select.is c.deref-in-Select.ensures.value)) c.write_select.ensures.refused

-- ---- write_if

pub write_if-returns-in_err-write_conds-clause-refused :
    goal.write_if-returns-in_err-write_conds-clause-refused
write_if-returns-in_err-write_conds-clause-refused g t c h =
    let over : Overflows c.args.table.now
    (conds_strings g.V.Element.strings (all_viewed g.V.Element.view c.args.first.now)) =
    grind (arith, common_steps) in
    if_overflows g.V.Element.strings g.V.Element.is_block (numbered_expr c.args.condition.now)
    (all_viewed g.V.Element.view c.args.first.now)
    (all_viewed g.V.Element.view c.args.otherwise.now) over

pub write_if-returns-in_err-write_conds-2-clause-refused :
    goal.write_if-returns-in_err-write_conds-2-clause-refused
write_if-returns-in_err-write_conds-2-clause-refused g t c h =
    let over : Overflows c.write_conds.new.table
    (conds_strings g.V.Element.strings (all_viewed g.V.Element.view c.args.otherwise.now)) =
    grind (arith, common_steps) in
    else_overflows g.V.Element.strings g.V.Element.is_block (numbered_expr c.args.condition.now)
    (all_viewed g.V.Element.view c.args.first.now)
    (all_viewed g.V.Element.view c.args.otherwise.now) c.in_ok-write_conds.ensures.sound.table over

pub write_if-returns-clause-grows : goal.write_if-returns-clause-grows
write_if-returns-clause-grows g t c = grows_on c.args.table.now c.write_conds.new.table
    c.write_conds-2.new.table c.in_ok-write_conds.ensures.grows c.in_ok-write_conds-2.ensures.grows

pub write_if-returns-clause-sound : goal.write_if-returns-clause-sound
write_if-returns-clause-sound g t c =
    if_written g.V.Element.strings g.V.Element.is_block c.args.code.now
    (numbered_expr c.args.condition.now) (all_viewed g.V.Element.view c.args.first.now)
    (all_viewed g.V.Element.view c.args.otherwise.now) c.in_ok-write_expression.ensures
    c.in_ok-otherwise_hole.ensures.code c.in_ok-otherwise_hole.ensures.place
    c.in_ok-write_conds.ensures.sound c.in_ok-end_hole.ensures.code c.in_ok-end_hole.ensures.place
    c.close.ensures c.in_ok-write_conds-2.ensures.sound c.close-2.ensures

-- ---- write_conds

pub write_conds-write_cond-requires : goal.write_conds-write_cond-requires
write_conds-write_cond-requires g t c κs within =
    let kept = element_kept g.V.Element.is_kept (map (viewed g.V.Element.view) c.args.all.now)
    c.loop-c.c-index (omega (arith, length-map c.args.all.now (viewed g.V.Element.view)))
    (viewed_at (viewed g.V.Element.view) c.args.all.now c.loop-c.c-index (omega arith) c.c-item.is)
    c.requires in
    let h =
    element_falls g.V.Element.view c.loop-c.c-index c.args.all.now (omega arith) c.c-item.is in
    let m = c.decreases in
    (omega (arith, h, m), (search rules, kept))

pub write_conds-loop-c-init : goal.write_conds-loop-c-init
write_conds-loop-c-init g t c = record {
  front = front_starts (cond_strings g.V.Element.strings)
      (λ numbered xs b. IsCondsBlock (g.V.Element.is_block numbered) (conds_from xs) b)
      (map (viewed g.V.Element.view) c.args.all.now) c.args.table.now c.args.code.now;
  grows = no_growth c.args.table.now;
}

pub write_conds-loop-c-preserved : goal.write_conds-loop-c-preserved
write_conds-loop-c-preserved g t c = record {
  front =
      front_grows (cond_strings g.V.Element.strings)
      (λ numbered xs b. IsCondsBlock (g.V.Element.is_block numbered) (conds_from xs) b) (omega (
        arith,
        length-map c.args.all.now (viewed g.V.Element.view),
      )) (viewed_at (viewed g.V.Element.view) c.args.all.now
      c.loop-c.c-index (omega arith) c.c-item.is) c.loop-c.invariant.front
      (block_step (cond_strings g.V.Element.strings) (λ numbered xs b. IsCondsBlock
      (g.V.Element.is_block numbered) (conds_from xs) b) (viewed g.V.Element.view c.c-item.result)
      c.in_ok-write_cond.ensures.sound (λ numbered rest p q one more. (p, q, refl, one, more)));
  grows = grows_on c.args.table.now c.loop-c.table c.write_cond.new.table c.loop-c.invariant.grows
      c.in_ok-write_cond.ensures.grows;
}

pub write_conds-returns-in_err-write_cond-clause-grows :
    goal.write_conds-returns-in_err-write_cond-clause-grows
write_conds-returns-in_err-write_cond-clause-grows g t c = grows_on c.args.table.now c.loop-c.table
    c.write_cond.new.table c.loop-c.invariant.grows c.in_err-write_cond.ensures.grows

pub write_conds-returns-in_err-write_cond-clause-refused :
    goal.write_conds-returns-in_err-write_cond-clause-refused
write_conds-returns-in_err-write_cond-clause-refused g t c h =
    let over : Overflows c.loop-c.table
    (cond_strings g.V.Element.strings (viewed g.V.Element.view c.c-item.result)) =
    grind (arith, common_steps) in
    subst (λ (ws : List Words). Overflows c.args.table.now ws)
    (conds_strings_are g.V.Element.strings (map (viewed g.V.Element.view) c.args.all.now))
    (front_overflows (cond_strings g.V.Element.strings)
    (λ numbered xs b. IsCondsBlock (g.V.Element.is_block numbered) (conds_from xs) b) (omega (
      arith,
      length-map c.args.all.now (viewed g.V.Element.view),
    )) (viewed_at (viewed g.V.Element.view)
    c.args.all.now c.loop-c.c-index (omega arith) c.c-item.is) c.loop-c.invariant.front over)

pub write_conds-returns-clause-sound : goal.write_conds-returns-clause-sound
write_conds-returns-clause-sound g t c =
    subst (λ (ws : List Words). WritesBlock c.args.table.now c.args.code.now ws (λ numbered
    b. IsCondsBlock (g.V.Element.is_block numbered) (all_viewed g.V.Element.view c.args.all.now) b)
    c.loop-c.table c.loop-c.code) (conds_strings_are g.V.Element.strings
    (map (viewed g.V.Element.view) c.args.all.now)) (front_ends (cond_strings g.V.Element.strings)
    (λ numbered xs b. IsCondsBlock (g.V.Element.is_block numbered) (conds_from xs) b) (omega (
      arith,
      length-map c.args.all.now (viewed g.V.Element.view),
    )) c.loop-c.invariant.front (λ numbered. refl))

-- ---- write_select

pub write_select-returns-clause-sound : goal.write_select-returns-clause-sound
write_select-returns-clause-sound g t c =
    carried c.write_bodies.result
    (select_written g.V.Element.strings g.V.Element.is_block c.args.table.now
    c.write_default.new.table c.write_bodies.new.table c.args.code.now
    c.write_expression.new.code c.open_cases.new.code c.put.new.code c.write_default.new.code
    c.write_bodies.new.code (numbered_expr c.args.on.now)
    (map (arm_viewed g.V.Element.view) c.args.arms.now) c.in_ok-holes.holes.items
    c.in_ok-write_expression.ensures c.in_ok-holes.ensures.code c.in_ok-holes.ensures.holes
    c.in_ok-put.ensures.code c.in_ok-write_default.ensures.sound) c.write_bodies.ensures.sound

pub write_select-returns-clause-refused : goal.write_select-returns-clause-refused
write_select-returns-clause-refused g t c h =
    select_overflows g.V.Element.strings g.V.Element.is_block (arms_viewed g.V.Element.view
    c.args.arms.now) c.in_ok-write_default.ensures.sound (c.write_bodies.ensures.refused h)

-- ---- write_default

pub write_default-returns-in-None-clause-sound : goal.write_default-returns-in-None-clause-sound
write_default-returns-in-None-clause-sound g t c =
    none_written g.V.Element.strings g.V.Element.is_block c.args.table.now c.args.code.now
    (arms_viewed g.V.Element.view c.args.arms.now)
    (sym c.default_among.ensures
    ∙ ap (option_map (λ (body : Bor (List (code.Cond Target g.row.V.Denot))). all_viewed
    g.V.Element.view body.now)) c.in-None.is)

pub write_default-write_conds-requires : goal.write_default-write_conds-requires
write_default-write_conds-requires g t c κs within =
    let is = sym c.default_among.ensures
    ∙ ap (option_map (λ (body : Bor (List (code.Cond Target g.row.V.Denot))). all_viewed
    g.V.Element.view body.now)) c.in-Some.is in
    let kept =
    default_kept g.V.Element.is_kept (arms_viewed g.V.Element.view c.args.arms.now) is c.requires in
    let h = default_falls (arms_viewed g.V.Element.view c.args.arms.now) is in
    let m = c.decreases in
    (omega (arith, h, m), (search rules, kept))

pub write_default-returns-in-Some-clause-sound : goal.write_default-returns-in-Some-clause-sound
write_default-returns-in-Some-clause-sound g t c =
    carried c.write_conds.result
    (default_block g.V.Element.strings g.V.Element.is_block c.args.table.now c.write_conds.new.table
    c.args.code.now c.write_conds.new.code (arms_viewed g.V.Element.view c.args.arms.now)
    (all_viewed g.V.Element.view c.in-Some.body.now)
    (sym c.default_among.ensures
    ∙ ap (option_map (λ (body : Bor (List (code.Cond Target g.row.V.Denot))). all_viewed
    g.V.Element.view body.now)) c.in-Some.is)) c.write_conds.ensures.sound

pub write_default-returns-in-Some-clause-refused : goal.write_default-returns-in-Some-clause-refused
write_default-returns-in-Some-clause-refused g t c h =
    default_overflows g.V.Element.strings g.V.Element.is_block
    (arms_viewed g.V.Element.view c.args.arms.now) (sym c.default_among.ensures
    ∙ ap (option_map (λ (body : Bor (List (code.Cond Target g.row.V.Denot))). all_viewed
    g.V.Element.view body.now)) c.in-Some.is) (c.write_conds.ensures.refused h)

-- ---- write_arm

own_place : {hole : Option ℕ} {own place : ℕ} → hole ≡ Some own → hole ≡ Some place → own ≡ place
own_place {own} {place} one other = let same : Some own ≡ Some place = sym one ∙ other in cc

pub write_arm-write_body-requires : goal.write_arm-write_body-requires
write_arm-write_body-requires g t c κs within =
    let is =
    case_is g.V.Element.view c.in-Case-Some.body c.in-Case-Some.is-0 c.deref.ensures.value in
    let kept = all_parts g.V.Element.is_kept
    (values_of (all_viewed g.V.Element.view c.deref.result.now)) []
    (subst (λ (arm : Arm Target g.V.Element.Meant). list_all g.V.Element.is_kept
    (values_under (ConsArm arm NoArms)) ≡ true) is c.requires.kept) in
    let h =
    case_falls g.V.Element.view c.in-Case-Some.body c.in-Case-Some.is-0 c.deref.ensures.value in
    let m = c.decreases in
    let long = ap length (case_header g.V.Element.view c.in-Case-Some.body c.in-Case-Some.is-0) in
    let at = own_place c.in-Case-Some.is-1 (c.requires.hole.1
    ∙ case_hole g.V.Element.view c.requires.hole.0 c.in-Case-Some.body c.in-Case-Some.is-0) in
    (omega (arith, h, m), (search rules, (kept.0, omega (arith, long, at, c.requires.hole.2))))

pub write_arm-returns-in-Case-Some-clause-sound : goal.write_arm-returns-in-Case-Some-clause-sound
write_arm-returns-in-Case-Some-clause-sound g t c =
    let long = ap length (case_header g.V.Element.view c.in-Case-Some.body c.in-Case-Some.is-0) in
    let at = own_place c.in-Case-Some.is-1 (c.requires.hole.1
    ∙ case_hole g.V.Element.view c.requires.hole.0 c.in-Case-Some.body c.in-Case-Some.is-0) in
    carried c.write_body.result (λ w. subst (λ (arm : Arm Target g.V.Element.Meant). WritesArm
    g.V.Element.strings g.V.Element.is_block c.args.table.now c.args.code.now c.args.hole arm
    c.write_body.new.table c.write_body.new.code) (sym (case_is g.V.Element.view c.in-Case-Some.body
    c.in-Case-Some.is-0 c.deref.ensures.value)) (subst (λ (hole : Option ℕ). WritesArm
    g.V.Element.strings g.V.Element.is_block c.args.table.now c.args.code.now hole (Case
    c.in-Case-Some.label-0 (all_viewed g.V.Element.view c.deref.result.now)) c.write_body.new.table
    c.write_body.new.code) (sym c.in-Case-Some.is-1) (case_written g.V.Element.strings
    g.V.Element.is_block c.in-Case-Some.label-0 (all_viewed g.V.Element.view c.deref.result.now)
    (omega (arith, long, at, c.requires.hole.2)) w))) c.write_body.ensures.sound

pub write_arm-returns-in-Case-Some-clause-refused :
    goal.write_arm-returns-in-Case-Some-clause-refused
write_arm-returns-in-Case-Some-clause-refused g t c h =
    subst (λ (arm : Arm Target g.V.Element.Meant). Overflows c.args.table.now (arms_strings
    g.V.Element.strings (ConsArm arm NoArms))) (sym (case_is g.V.Element.view c.in-Case-Some.body
    c.in-Case-Some.is-0 c.deref.ensures.value)) (subst (λ (vs : List g.V.Element.Meant). Overflows
    c.args.table.now (flat_map g.V.Element.strings vs)) (sym (append-nil
    (values_of (all_viewed g.V.Element.view c.deref.result.now)))) (c.write_body.ensures.refused h))

pub write_arm-unreachable-requires : goal.write_arm-unreachable-requires
write_arm-unreachable-requires g t c =
    let hole = c.requires.hole.1
    ∙ case_hole g.V.Element.view c.requires.hole.0 c.in-Case-None.body-0 c.in-Case-None.is-0 in
    let contradiction : None ≡ Some (c.requires.hole.0 + 9) = sym c.in-Case-None.is-1 ∙ hole in
    cc

pub write_arm-returns-in-Default-default-clause-sound :
    goal.write_arm-returns-in-Default-default-clause-sound
write_arm-returns-in-Default-default-clause-sound g t c =
    subst (λ (arm : Arm Target g.V.Element.Meant). WritesArm g.V.Element.strings
    g.V.Element.is_block c.args.table.now c.args.code.now c.args.hole arm c.args.table.now
    c.args.code.now) (sym (default_is g.V.Element.view c.in-Default-default.body-0
    c.in-Default-default.body-0.items c.in-Default-default.is-0 refl))
    (default_written g.V.Element.strings g.V.Element.is_block c.args.table.now c.args.code.now
    c.args.hole (all_viewed g.V.Element.view c.in-Default-default.body-0.items))

-- ---- write_bodies

pub write_bodies-loop-left-init : goal.write_bodies-loop-left-init
write_bodies-loop-left-init g t c =
    let arms = map (arm_viewed g.V.Element.view) c.args.arms.now in
    let counted : length c.args.holes.now.items ≡ length c.args.arms.now =
    ap length c.requires.holes.1 ∙ holes_counted c.requires.holes.0 arms
    ∙ length-map c.args.arms.now (arm_viewed g.V.Element.view) in record {
      back = back_starts g.V.Element.strings g.V.Element.is_block (length c.args.arms.now) arms
          c.args.table.now c.args.code.now c.args.holes.now.items
          (omega (arith, length-map c.args.arms.now (arm_viewed g.V.Element.view)));
      others = sym (take_all (length c.args.arms.now) c.args.holes.now.items
          (omega (arith, counted)));
      within = omega arith;
      grows = no_growth c.args.table.now;
    }

pub write_bodies-unreachable-requires : goal.write_bodies-unreachable-requires
write_bodies-unreachable-requires g t c =
    let arms = map (arm_viewed g.V.Element.view) c.args.arms.now in
    let counted : length c.args.holes.now.items ≡ length c.args.arms.now =
    ap length c.requires.holes.1 ∙ holes_counted c.requires.holes.0 arms
    ∙ length-map c.args.arms.now (arm_viewed g.V.Element.view) in
    let left : length c.loop-left.holes.items ≡ c.loop-left.left =
    ap length c.loop-left.invariant.others ∙ length-take-le c.loop-left.left c.args.holes.now.items
    (omega (arith, counted, c.loop-left.invariant.within)) in
    let some : 0 < length c.loop-left.holes.items = omega (arith, left, c.loop-left-test.true) in
    grind (arith, common_steps)

pub write_bodies-write_arm-requires : goal.write_bodies-write_arm-requires
write_bodies-write_arm-requires g t c κs within =
    let arms = map (arm_viewed g.V.Element.view) c.args.arms.now in
    let i = c.loop-left.left - 1 in
    let e : c.loop-left.left ≡ i + 1 = omega arith in
    let below : i < length arms =
    omega (arith, length-map c.args.arms.now (arm_viewed g.V.Element.view)) in
    let at =
    viewed_at (arm_viewed g.V.Element.view) c.args.arms.now i (omega arith) c.index-arms-left.is in
    let arm = arm_viewed g.V.Element.view c.index-arms-left.result in
    let kept = arm_kept g.V.Element.is_kept arms i arm below at c.requires.kept in
    let counted : length c.args.holes.now.items ≡ length arms = ap length c.requires.holes.1
    ∙ holes_counted c.requires.holes.0 arms in
    let inside : i < length c.args.holes.now.items = omega (arith, counted, below) in
    let last = popped c.args.holes.now.items c.pop.new.self.items c.in-Some.hole i
    (c.loop-left.invariant.others
    ∙ ap (λ k. take k c.args.holes.now.items) e) c.in-Some.ensures.items inside in
    let own = last.1 ∙ ap (λ hs. get_or hs i None) c.requires.holes.1
    ∙ hole_at c.requires.holes.0 arms i arm below at in
    let room = header_inside arms i arm below at in
    let h = arm_falls g.V.Element.view i c.args.arms.now (omega arith) c.index-arms-left.is in
    let m = c.decreases in (
      omega (arith, h, m),
      (
        search rules,
        (
          kept,
          (
            c.requires.holes.0 + length (headers (take i arms)),
            own,
            omega (arith, room, c.requires.holes.2, c.loop-left.invariant.back.longer),
          ),
        ),
      ),
    )

pub write_bodies-loop-left-preserved : goal.write_bodies-loop-left-preserved
write_bodies-loop-left-preserved g t c =
    let arms = map (arm_viewed g.V.Element.view) c.args.arms.now in
    let i = c.loop-left.left - 1 in
    let e : c.loop-left.left ≡ i + 1 = omega arith in
    let below : i < length arms =
    omega (arith, length-map c.args.arms.now (arm_viewed g.V.Element.view)) in
    let at =
    viewed_at (arm_viewed g.V.Element.view) c.args.arms.now i (omega arith) c.index-arms-left.is in
    let arm = arm_viewed g.V.Element.view c.index-arms-left.result in
    let counted : length c.args.holes.now.items ≡ length arms = ap length c.requires.holes.1
    ∙ holes_counted c.requires.holes.0 arms in
    let inside : i < length c.args.holes.now.items = omega (arith, counted, below) in
    let last = popped c.args.holes.now.items c.pop.new.self.items c.in-Some.hole i
    (c.loop-left.invariant.others
    ∙ ap (λ k. take k c.args.holes.now.items) e) c.in-Some.ensures.items inside in
    let back = subst (λ (k : ℕ). Back g.V.Element.strings g.V.Element.is_block k arms
    c.args.table.now c.args.code.now c.args.holes.now.items c.loop-left.table c.loop-left.code)
    e c.loop-left.invariant.back in
    record {
      back = back_grows g.V.Element.strings g.V.Element.is_block i arms arm below at last.1 back
          c.in_ok-write_arm.ensures.sound;
      others = last.0;
      within = omega arith;
      grows = grows_on c.args.table.now c.loop-left.table c.write_arm.new.table
          c.loop-left.invariant.grows c.in_ok-write_arm.ensures.grows;
    }

pub write_bodies-returns-in_err-write_arm-clause-refused :
    goal.write_bodies-returns-in_err-write_arm-clause-refused
write_bodies-returns-in_err-write_arm-clause-refused g t c h =
    let arms = map (arm_viewed g.V.Element.view) c.args.arms.now in
    let i = c.loop-left.left - 1 in
    let e : c.loop-left.left ≡ i + 1 = omega arith in
    let back = subst (λ (k : ℕ). Back g.V.Element.strings g.V.Element.is_block k arms
    c.args.table.now c.args.code.now c.args.holes.now.items c.loop-left.table c.loop-left.code)
    e c.loop-left.invariant.back in
    let over : Overflows c.loop-left.table
    (arms_strings g.V.Element.strings
    (ConsArm (arm_viewed g.V.Element.view c.index-arms-left.result) NoArms)) = grind
    (arith, common_steps) in
    back_overflows g.V.Element.strings g.V.Element.is_block i arms
    (arm_viewed g.V.Element.view c.index-arms-left.result)
    (omega (arith, length-map c.args.arms.now (arm_viewed g.V.Element.view))) (viewed_at
    (arm_viewed g.V.Element.view) c.args.arms.now i (omega arith) c.index-arms-left.is) back over

pub write_bodies-returns-clause-sound : goal.write_bodies-returns-clause-sound
write_bodies-returns-clause-sound g t c =
    back_ends g.V.Element.strings g.V.Element.is_block (omega arith) c.loop-left.invariant.back
