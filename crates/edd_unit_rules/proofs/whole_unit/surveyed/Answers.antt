use Rattle.std.proofs.Common.{◌≡◌, length, vec_len, ap, arith, sym, refl, ◌∙◌}
use Rattle.edd_unit_rules.specs.declared.survey.Survey.{Survey}
use Rattle.edd_unit_rules.specs.Marks.{brought}
use Rattle.edd_unit_rules.proofs.WalkGoes.{walk_goes_on}
use Rattle.edd_unit_rules.proofs.WalkStarts.{brings_room, brings_some, stops_short, not_allowed}
use Rattle.edd_unit_rules.proofs.Walks.{some_bytes}
use Rattle.edd_unit_rules.proofs.whole_unit.surveyed.Goals as goal

pub loop-place-init : goal.loop-place-init
loop-place-init c = rw c.of-survey.ensures
    (record { walk = c.requires.walk; room = c.requires.room; nothing = c.requires.nothing })

pub returns-in_default-clause-refused : goal.returns-in_default-clause-refused
returns-in_default-clause-refused c = stops_short _ _ _ _ _ _ _ _ c.loop-place.invariant.walk
    c.loop-place-test.true (sym c.decode.ensures.value ∙ c.in_default.is)

pub returns-then-not-take_on-clause-refused : goal.returns-then-not-take_on-clause-refused
returns-then-not-take_on-clause-refused c = not_allowed _ _ _ _ _ (c.in-Some.instruction, c.in-Some.next) _ _ _
    c.loop-place.invariant.walk (sym c.decode.ensures.value ∙ c.in-Some.is)
    (sym c.take_on.ensures.allowed ∙ c.if-not-take_on.true)

pub loop-place-preserved : goal.loop-place-preserved
loop-place-preserved c =
    let taken = c.if-not-take_on.ensures in
    let before = c.loop-place.survey in
    let there = c.arrive-depth.new.self in
    let after = c.take_on.new.self in
    let i = c.in-Some.instruction in
    let same_marks : there.marks ≡ before.marks =
    ap (λ (s : Survey). s.marks) c.arrive-depth.ensures.others in
    let same_items : there.marks.items ≡ before.marks.items = ap (λ (s : Survey). s.marks.items)
    c.arrive-depth.ensures.others in
    let same_leads : there.leads ≡ before.leads =
    ap (λ (s : Survey). s.leads) c.arrive-depth.ensures.others in
    let same_names : there.names ≡ before.names =
    ap (λ (s : Survey). s.names) c.arrive-depth.ensures.others in
    let size : vec_len there.marks ≡ length c.args.code.now =
    rw same_marks (omega (arith, before.marks.ok, c.loop-place.invariant.walk.sized)) in
    record {
      walk = walk_goes_on c.args.context c.args.code.now before.marks.items after.marks.items
          (brought before.goes_on before.depth) (brought after.goes_on after.depth)
          c.loop-place.place c.in-Some.next c.arrive-depth.result i before.leads before.agrees
          before.names after.leads after.agrees after.names there.agrees
          c.loop-place.invariant.walk c.loop-place-test.true (sym c.decode.ensures.value
          ∙ c.in-Some.is) (sym c.take_on.ensures.allowed ∙ c.if-not-take_on.false)
          c.arrive-depth.ensures.depth c.arrive-depth.ensures.arrival
          (rw same_names at (taken.names refl)) (rw (size, same_leads) at (taken.leads refl))
          (brings_some after.goes_on after.depth ∙ taken.goes_on refl)
          (λ leads. rw same_items at (taken.agrees refl leads)) (taken.brought refl)
          (brings_room after.goes_on after.depth (taken.room refl))
          (rw (size, same_items) at (taken.marks refl));
      room = taken.room refl;
      nothing = taken.nothing refl;
    }

pub returns-clause-whole : goal.returns-clause-whole
returns-clause-whole c = record {
  some = some_bytes _ (sym c.is_empty.ensures ∙ c.if-is_empty.false);
  place = c.loop-place.place;
  past = c.loop-place-test.false;
  walk = c.loop-place.invariant.walk;
}
