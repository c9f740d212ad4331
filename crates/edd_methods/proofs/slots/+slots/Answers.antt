use Rattle.std.proofs.Common.{◌∙◌, sym, ap, arith, inl, inr, ◌∷◌, [], map}
use Rattle.std.proofs.lemmas.List.{length-map}
use Rattle.edd_syntax.specs.Size.{body_nodes, statement_nodes}
use Rattle.edd_syntax.specs.Statement as tree
use Rattle.edd_syntax.specs.Statement.{body_from, slots_in, slots_of}
use Rattle.edd_syntax.specs.TreeView.{numbered_declarator, numbered_expr, numbered_part, numbered_stmt}
use Rattle.edd_syntax.proofs.TreeRows.{block_is, switch_is}
use Rattle.edd_methods.proofs.SlotCounts.{slots, slots_next, slots_end, declare_slots, statement_slots, case_slots, default_slots, block_slots, switch_slots}
use Rattle.edd_methods.proofs.WrittenBodies.{part_falls}
use Rattle.edd_methods.proofs.slots.+slots.Goals as goal

pub slots_in-slots_of_part-slots-requires : goal.slots_in-slots_of_part-slots-requires
slots_in-slots_of_part-slots-requires t c =
    let next =
    slots_next numbered_part c.args.body.now c.loop-part.part-index (omega arith) c.part-item.is in
    let h =
    part_falls numbered_part c.args.body.now c.loop-part.part-index (omega arith) c.part-item.is in
    let m = c.decreases in
    (omega (arith, h, m), omega (arith, next, c.loop-part.invariant, c.requires))

pub slots_in-overflow_add-slots : goal.slots_in-overflow_add-slots
slots_in-overflow_add-slots t c =
    let next =
    slots_next numbered_part c.args.body.now c.loop-part.part-index (omega arith) c.part-item.is in
    omega (arith, next, c.loop-part.invariant, c.requires, c.slots_of_part-slots.ensures)

pub slots_in-loop-part-preserved : goal.slots_in-loop-part-preserved
slots_in-loop-part-preserved t c =
    let next =
    slots_next numbered_part c.args.body.now c.loop-part.part-index (omega arith) c.part-item.is in
    omega (arith, next, c.loop-part.invariant, c.slots_of_part-slots.ensures)

pub slots_in-returns : goal.slots_in-returns
slots_in-returns t c = omega (
  arith,
  c.loop-part.invariant,
  slots_end numbered_part c.args.body.now
      c.loop-part.part-index (omega arith),
)

pub slots_of_part-overflow_cast-result : goal.slots_of_part-overflow_cast-result
slots_of_part-overflow_cast-result t c =
    let is = ap (λ x. slots (numbered_part x ∷ [])) c.in-Declare.is
    ∙ declare_slots (map numbered_declarator c.in-Declare.declarators.items) in
    omega (
      arith,
      is,
      c.requires,
      c.len.ensures,
      length-map c.in-Declare.declarators.items
          numbered_declarator,
      c.in-Declare.declarators.ok.0,
    )

pub slots_of_part-returns-in-Declare : goal.slots_of_part-returns-in-Declare
slots_of_part-returns-in-Declare t c =
    let is = ap (λ x. slots (numbered_part x ∷ [])) c.in-Declare.is
    ∙ declare_slots (map numbered_declarator c.in-Declare.declarators.items) in
    omega (
      arith,
      is,
      c.len.ensures,
      length-map c.in-Declare.declarators.items
          numbered_declarator,
      c.in-Declare.declarators.ok.0,
    )

pub slots_of_part-slots_of-requires : goal.slots_of_part-slots_of-requires
slots_of_part-slots_of-requires t c =
    let is = ap (λ x. slots (numbered_part x ∷ [])) c.in-Statement.is
    ∙ statement_slots (numbered_stmt c.in-Statement.x) in
    let h = ap (λ x. body_nodes (body_from (numbered_part x ∷ []))) c.in-Statement.is in
    let m = c.decreases in
    (omega (arith, h, m), omega (arith, is, c.requires))

pub slots_of_part-returns-in-Statement : goal.slots_of_part-returns-in-Statement
slots_of_part-returns-in-Statement t c =
    let is = ap (λ x. slots (numbered_part x ∷ [])) c.in-Statement.is
    ∙ statement_slots (numbered_stmt c.in-Statement.x) in
    c.slots_of.ensures ∙ sym is

pub slots_of_part-returns-in-CaseLabel : goal.slots_of_part-returns-in-CaseLabel
slots_of_part-returns-in-CaseLabel t c =
    elim c.in-CaseLabel.is [
      | inl h ↦ sym (ap (λ x. slots (numbered_part x ∷ [])) h.2 ∙ case_slots h.1)
      | inr h ↦ sym (ap (λ x. slots (numbered_part x ∷ [])) h.1 ∙ default_slots)
    ]

pub slots_of_part-returns-in-CaseLabel-2 : goal.slots_of_part-returns-in-CaseLabel-2
slots_of_part-returns-in-CaseLabel-2 t c =
    elim c.in-CaseLabel.is [
      | inl h ↦ sym (ap (λ x. slots (numbered_part x ∷ [])) h.2 ∙ case_slots h.1)
      | inr h ↦ sym (ap (λ x. slots (numbered_part x ∷ [])) h.1 ∙ default_slots)
    ]

pub slots_of-slots_in-requires : goal.slots_of-slots_in-requires
slots_of-slots_in-requires t c =
    let is = ap slots_of (block_is (λ r. r) c.args.x.now c.in-Block.parts c.in-Block.is
    ∙ ap (λ ps. tree.Block (body_from (map numbered_part ps))) (sym c.deref.ensures.value))
    ∙ block_slots (body_from (map numbered_part c.deref.result.now)) in
    let h = ap statement_nodes (block_is (λ r. r) c.args.x.now c.in-Block.parts c.in-Block.is
    ∙ ap (λ ps. tree.Block (body_from (map numbered_part ps))) (sym c.deref.ensures.value)) in
    let m = c.decreases in
    (omega (arith, h, m), omega (arith, is, c.requires))

pub slots_of-returns-in-Block : goal.slots_of-returns-in-Block
slots_of-returns-in-Block t c =
    let is = ap slots_of (block_is (λ r. r) c.args.x.now c.in-Block.parts c.in-Block.is
    ∙ ap (λ ps. tree.Block (body_from (map numbered_part ps))) (sym c.deref.ensures.value))
    ∙ block_slots (body_from (map numbered_part c.deref.result.now)) in
    c.slots_in.ensures ∙ sym is

pub slots_of-slots_in-requires-in-Switch : goal.slots_of-slots_in-requires-in-Switch
slots_of-slots_in-requires-in-Switch t c =
    let is = ap slots_of (switch_is (λ r. r) c.args.x.now c.in-Switch.field-0 c.in-Switch.parts
    c.in-Switch.is ∙ ap (λ ps. tree.Switch (numbered_expr c.in-Switch.field-0)
    (body_from (map numbered_part ps))) (sym c.deref-in-Switch.ensures.value))
    ∙ switch_slots (numbered_expr c.in-Switch.field-0)
    (body_from (map numbered_part c.deref-in-Switch.result.now)) in
    let h = ap statement_nodes (switch_is (λ r. r) c.args.x.now c.in-Switch.field-0
    c.in-Switch.parts c.in-Switch.is
    ∙ ap (λ ps. tree.Switch (numbered_expr c.in-Switch.field-0)
    (body_from (map numbered_part ps))) (sym c.deref-in-Switch.ensures.value)) in
    let m = c.decreases in
    (omega (arith, h, m), omega (arith, is, c.requires))

pub slots_of-returns-in-Switch : goal.slots_of-returns-in-Switch
slots_of-returns-in-Switch t c =
    let is = ap slots_of (switch_is (λ r. r) c.args.x.now c.in-Switch.field-0 c.in-Switch.parts
    c.in-Switch.is ∙ ap (λ ps. tree.Switch (numbered_expr c.in-Switch.field-0)
    (body_from (map numbered_part ps))) (sym c.deref-in-Switch.ensures.value))
    ∙ switch_slots (numbered_expr c.in-Switch.field-0)
    (body_from (map numbered_part c.deref-in-Switch.result.now)) in
    c.slots_in-in-Switch.ensures ∙ sym is
