use Rattle.std.proofs.Common.{arith, ap, refl, sym, ◌∙◌, ◌+◌, map}
use Rattle.std.proofs.Math.ListN.{drop_of_length-le}
use Rattle.edd_syntax.specs.Statement.{body_from, slots_in}
use Rattle.edd_syntax.specs.TreeView.{path_of, part_of, numbered_part}
use Rattle.edd_name_meanings.specs.Directory.{description_of, read_by}
use Rattle.edd_name_meanings.specs.PathsIn.{paths_in_parts}
use Rattle.edd_name_meanings.specs.Meanings.{scope_of}
use Rattle.edd_statement_names.specs.ResolvedParts.{paths_in_part, scope_behind}
use Rattle.edd_expression_names.proofs.CopyingIn.{at_start, one_more, told_at_end, meant_at_end}
use Rattle.edd_statement_names.proofs.StatementSteps.{behind, uses_here, uses_from, uses_split, paths_split, meant_here, meant_from, parts_joined, no_parts, no_slots, slots_next, slots_more, block_slots, block_told, block_means, switch_slots, switch_told, switch_means, block_falls, switch_falls, part_falls}
use Rattle.edd_expression_names.proofs.TokenSteps.{kept_at_start, kept_more, kept_at_end}
use Rattle.edd_statement_names.proofs.TokenSteps.{block_kept, switch_kept}
use Rattle.edd_name_meanings.specs.TokensIn.{tokens_in_part}
use Rattle.edd_statement_names.proofs.statements.+statements.Goals as goal

pub copy_body-loop-part-init : goal.copy_body-loop-part-init
copy_body-loop-part-init t c = (
  at_start (description_of c.args.names.now) (part_of path_of) numbered_part behind uses_here
      uses_from
      uses_split paths_in_part paths_in_parts paths_split (meant_here (read_by c.args.names.now))
      (meant_from (read_by c.args.names.now))
      body_from (parts_joined (read_by c.args.names.now)) (
        scope_of c.args.scope.now,
        c.args.next.now,
      ) c.args.told.now.items
      (scope_of c.in_ok-inner.inner.items, c.args.next.now) c.args.parts.now
      _ c.args.told.now.items
      (ap (λ ls. (scope_of ls, c.args.next.now)) c.in_ok-inner.ensures.sound)
      c.in_ok-copies.ensures.items
      refl,
  refl,
  kept_at_start tokens_in_part tokens_in_part c.args.parts.now _ c.in_ok-copies.ensures.items,
)

pub copy_body-loop-part-preserved : goal.copy_body-loop-part-preserved
copy_body-loop-part-preserved t c = (
  one_more (description_of c.args.names.now) (part_of path_of) numbered_part behind uses_here
      uses_from
      uses_split paths_in_part paths_in_parts paths_split (meant_here (read_by c.args.names.now))
      (meant_from (read_by c.args.names.now))
      body_from (parts_joined (read_by c.args.names.now)) (
        scope_of c.args.scope.now,
        c.args.next.now,
      ) c.args.told.now.items
      (scope_of c.loop-part.inner.items, c.loop-part.next)
      (scope_of c.copy_part.new.scope.items, c.copy_part.new.next) c.loop-part.part-index
      c.args.parts.now c.part-item.result c.loop-part.copies.items c.push.new.self.items
      c.in_ok-copy_part.field-0 c.loop-part.told.items c.copy_part.new.told.items
      (omega arith) c.part-item.is
      (ap (λ p. (p, c.copy_part.new.next)) c.in_ok-copy_part.ensures.scope
      ∙ ap (λ n. (
        scope_behind (scope_of c.loop-part.inner.items) c.loop-part.next
            (part_of path_of c.part-item.result),
        n,
      )) c.in_ok-copy_part.ensures.next)
      c.in_ok-copy_part.ensures.told c.in_ok-copy_part.ensures.sound c.in_ok-push.ensures.items
      c.loop-part.invariant.0,
  slots_more (part_of path_of) c.loop-part.part-index c.args.parts.now c.part-item.result
      (omega arith) c.part-item.is c.loop-part.next c.copy_part.new.next _
      c.in_ok-copy_part.ensures.next c.loop-part.invariant.1,
  kept_more tokens_in_part tokens_in_part c.loop-part.part-index c.args.parts.now
      c.part-item.result c.loop-part.copies.items c.push.new.self.items
      c.in_ok-copy_part.field-0 (omega arith) c.part-item.is c.in_ok-copy_part.ensures.kept
      c.in_ok-push.ensures.items c.loop-part.invariant.2,
)

pub copy_body-returns-clause-told : goal.copy_body-returns-clause-told
copy_body-returns-clause-told t c = told_at_end (description_of c.args.names.now) (part_of path_of)
    numbered_part behind uses_here
    uses_from
    uses_split paths_in_part paths_in_parts paths_split (meant_here (read_by c.args.names.now))
    (meant_from (read_by c.args.names.now))
    body_from (parts_joined (read_by c.args.names.now)) (
      scope_of c.args.scope.now,
      c.args.next.now,
    ) c.args.told.now.items (λ s. refl) refl
    (scope_of c.loop-part.inner.items, c.loop-part.next) c.loop-part.part-index c.args.parts.now
    c.loop-part.copies.items c.loop-part.told.items
    (drop_of_length-le c.args.parts.now (omega arith))
    c.loop-part.invariant.0

pub copy_body-returns-clause-sound : goal.copy_body-returns-clause-sound
copy_body-returns-clause-sound t c = meant_at_end (description_of c.args.names.now)
    (part_of path_of) numbered_part behind uses_here
    uses_from
    uses_split paths_in_part paths_in_parts paths_split (meant_here (read_by c.args.names.now))
    (meant_from (read_by c.args.names.now))
    body_from (parts_joined (read_by c.args.names.now)) (
      scope_of c.args.scope.now,
      c.args.next.now,
    ) c.args.told.now.items
    (no_parts (read_by c.args.names.now))
    (scope_of c.loop-part.inner.items, c.loop-part.next) c.loop-part.part-index c.args.parts.now
    c.loop-part.copies.items c.loop-part.told.items
    (drop_of_length-le c.args.parts.now (omega arith))
    c.loop-part.invariant.0

pub copy_body-returns-clause-kept : goal.copy_body-returns-clause-kept
copy_body-returns-clause-kept t c =
    kept_at_end tokens_in_part tokens_in_part c.loop-part.part-index c.args.parts.now
    c.loop-part.copies.items (drop_of_length-le c.args.parts.now (omega arith))
    c.loop-part.invariant.2

pub copy_stmt-returns-in_ok-copy_body-in-Block-clause-kept :
    goal.copy_stmt-returns-in_ok-copy_body-in-Block-clause-kept
copy_stmt-returns-in_ok-copy_body-in-Block-clause-kept t c =
    block_kept c.args.s.now _ c.deref.result.now c.in_ok-copy_body-in-Block.field-0 c.in-Block.is
    c.deref.ensures.value c.in_ok-copy_body-in-Block.ensures.kept

pub copy_stmt-returns-in_ok-on-in-Switch-clause-kept :
    goal.copy_stmt-returns-in_ok-on-in-Switch-clause-kept
copy_stmt-returns-in_ok-on-in-Switch-clause-kept t c =
    switch_kept c.args.s.now _ _ c.deref-in-Switch.result.now c.in_ok-on-in-Switch.on
    c.in_ok-on-in-Switch.parts c.in-Switch.is c.deref-in-Switch.ensures.value
    c.in_ok-on-in-Switch.ensures.kept

pub copy_body-returns-clause-next : goal.copy_body-returns-clause-next
copy_body-returns-clause-next t c =
    no_slots c.loop-part.next
    ∙ ap (λ ps. c.loop-part.next + slots_in (body_from (map (part_of path_of) ps)))
    (sym (drop_of_length-le c.args.parts.now (omega arith))) ∙ c.loop-part.invariant.1

pub copy_stmt-returns-in_ok-copy_body-in-Block-clause-told :
    goal.copy_stmt-returns-in_ok-copy_body-in-Block-clause-told
copy_stmt-returns-in_ok-copy_body-in-Block-clause-told t c =
    block_told (description_of c.args.names.now) c.args.s.now _ c.deref.result.now
    c.deref.ensures.value
    c.in-Block.is (scope_of c.args.scope.now) c.args.next.now
    c.args.told.now.items c.copy_body.new.told.items
    c.in_ok-copy_body-in-Block.ensures.told

pub copy_stmt-returns-in_ok-copy_body-in-Block-clause-sound :
    goal.copy_stmt-returns-in_ok-copy_body-in-Block-clause-sound
copy_stmt-returns-in_ok-copy_body-in-Block-clause-sound t c =
    block_means (description_of c.args.names.now)
    c.args.s.now _ c.deref.result.now c.deref.ensures.value c.in-Block.is
    (read_by c.args.names.now) (scope_of c.args.scope.now) c.args.next.now
    c.in_ok-copy_body-in-Block.field-0
    c.in_ok-copy_body-in-Block.ensures.sound

pub copy_stmt-returns-in_ok-copy_body-in-Block-clause-next :
    goal.copy_stmt-returns-in_ok-copy_body-in-Block-clause-next
copy_stmt-returns-in_ok-copy_body-in-Block-clause-next t c =
    c.in_ok-copy_body-in-Block.ensures.next ∙ ap (λ k. c.args.next.now + k)
    (sym (block_slots (description_of c.args.names.now) c.args.s.now _ c.deref.result.now
    c.deref.ensures.value c.in-Block.is))

pub copy_stmt-returns-in_ok-on-in-Switch-clause-told :
    goal.copy_stmt-returns-in_ok-on-in-Switch-clause-told
copy_stmt-returns-in_ok-on-in-Switch-clause-told t c =
    switch_told (description_of c.args.names.now)
    c.args.s.now _ c.deref-in-Switch.result.now c.deref-in-Switch.ensures.value _ c.in-Switch.is
    (scope_of c.args.scope.now) c.args.next.now c.args.told.now.items
    c.copy_switched.new.told.items c.in_ok-on-in-Switch.ensures.told

pub copy_stmt-returns-in_ok-on-in-Switch-clause-sound :
    goal.copy_stmt-returns-in_ok-on-in-Switch-clause-sound
copy_stmt-returns-in_ok-on-in-Switch-clause-sound t c =
    switch_means (description_of c.args.names.now)
    c.args.s.now _ c.deref-in-Switch.result.now c.deref-in-Switch.ensures.value _ c.in-Switch.is
    (read_by c.args.names.now) (scope_of c.args.scope.now) c.args.next.now c.in_ok-on-in-Switch.on
    c.in_ok-on-in-Switch.parts
    c.in_ok-on-in-Switch.ensures.on c.in_ok-on-in-Switch.ensures.parts

pub copy_stmt-returns-in_ok-on-in-Switch-clause-next :
    goal.copy_stmt-returns-in_ok-on-in-Switch-clause-next
copy_stmt-returns-in_ok-on-in-Switch-clause-next t c =
    c.in_ok-on-in-Switch.ensures.next ∙ ap (λ k. c.args.next.now + k)
    (sym (switch_slots (description_of c.args.names.now) c.args.s.now _ c.deref-in-Switch.result.now
    c.deref-in-Switch.ensures.value _ c.in-Switch.is))

pub copy_body-copy_part-requires : goal.copy_body-copy_part-requires
copy_body-copy_part-requires t c =
    let e = slots_next (part_of path_of) c.loop-part.part-index c.args.parts.now c.part-item.result
    (omega arith) c.part-item.is in
    let n = c.loop-part.invariant.1 in
    let r = c.requires in (
      part_falls t c.loop-part.part-index c.args.parts.now c.part-item.result (omega arith)
          c.part-item.is (sym c.decreases),
      omega (arith, e, n, r),
    )

pub copy_stmt-copy_body-requires : goal.copy_stmt-copy_body-requires
copy_stmt-copy_body-requires t c =
    let e = block_slots (description_of c.args.names.now) c.args.s.now _ c.deref.result.now
    c.deref.ensures.value c.in-Block.is in
    let r = c.requires in (
      block_falls t c.args.s.now _ c.deref.result.now c.in-Block.is c.deref.ensures.value
          (sym c.decreases),
      omega (arith, e, r),
    )

pub copy_stmt-copy_switched-requires : goal.copy_stmt-copy_switched-requires
copy_stmt-copy_switched-requires t c =
    let e = switch_slots (description_of c.args.names.now) c.args.s.now _
    c.deref-in-Switch.result.now
    c.deref-in-Switch.ensures.value _ c.in-Switch.is in
    let r = c.requires in (
      switch_falls t c.args.s.now _ _ c.deref-in-Switch.result.now c.in-Switch.is
          c.deref-in-Switch.ensures.value (sym c.decreases),
      omega (arith, e, r),
    )
