use Rattle.std.proofs.Common.{◌≡◌, sym, subst, ap, ◌∙◌, length, arith}
use Rattle.edd_machine.specs.declared.fault.ReadFault.{ReadFault}
use Rattle.edd_machine.specs.declared.fault.ReadFault.TheVariants as read_fault
use Rattle.edd_embed.specs.declared.reading.AttributeFault.TheVariants.{Read, Room}
use Rattle.edd_embed.specs.Reading.{IsAttributeFault}
use Rattle.edd_embed.specs.Statuses.{attribute_status}
use Rattle.edd_c.proofs.attributes.edd_attribute.Goals as goal
use Rattle.edd_c.proofs.attributes.edd_attribute.Goals.{in-Room, in_default-fault}

-- a fault of the reading is not that there is no room
no_room : (f : ReadFault) → attribute_status (Read f) ≡ 261 → ⊥
no_room read_fault.Memory e = omega (arith, e)
no_room _ e = omega (arith, e)

pub returns-after-fault-clause-room : goal.returns-after-fault-clause-room
returns-after-fault-clause-room c = λ is. elim c.match-fault.branch [
  | in-Room w ↦ (
    c.in-Some-ref_of.attr,
    sym c.ref_of.ensures ∙ c.in-Some-ref_of.is,
    subst (λ n. IsAttributeFault c.args.bytes.now c.in-Some-ref_of.attr c.args.values.now
        (length c.args.records.now) (Room n)) (sym w.given-is)
        (subst (λ f. IsAttributeFault c.args.bytes.now c.in-Some-ref_of.attr c.args.values.now
        (length c.args.records.now) f) w.in-Room.is
        (subst (λ b. IsAttributeFault b c.in-Some-ref_of.attr c.args.values.now
        (length c.args.records.now) c.in-Err.fault) c.in-Some.ensures.sound c.in-Err.ensures.refused)),
  )
  | in_default-fault w ↦
      absurd (no_room w.in_default-fault.field-0
      (sym (ap attribute_status (w.fault-is ∙ w.in_default-fault.is)) ∙ sym c.attribute_status.ensures ∙ is))
]
