use Rattle.std.proofs.Common.{rules, ◌≡◌, true, arith, sym, refl, ◌∙◌}
use Rattle.edd_instructions.specs.Units.{leaves}
use Rattle.edd_unit_rules.specs.Marks.{brought, mark_at}
use Rattle.edd_unit_rules.proofs.MarkLaws.{mark_there}
use Rattle.edd_unit_rules.proofs.WalkGoes.{walk_goes_on, walk_again}
use Rattle.edd_unit_rules.proofs.WalkStarts.{walk_starts, brings_room, as_many}
use Rattle.edd_unit_rules.proofs.whole_unit.walked.Goals as goal

pub loop-place-init : goal.loop-place-init
loop-place-init c = record {
  walk = walk_starts c.args.context c.args.code.now c.in_ok-marks.marks.items
      (c.in_ok-marks.ensures.items_if_clones_equal (λ y k. search rules));
  room = omega arith;
  nothing = λ e. refl;
}

pub loop-place-preserved : goal.loop-place-preserved
loop-place-preserved c =
    let taken = c.if-not-take_on.ensures in
    let before = c.loop-place.walk in
    let after = c.take_on.new.self in
    let place = c.loop-place.place in
    let i = c.in-Some-decode.instruction in
    let brings = taken.brought refl in
    let there : mark_at before.marks.items place ≡ c.index.result.now =
    mark_there before.marks.items place c.index.result.now
    (omega (arith, c.loop-place.invariant.walk.sized, c.loop-place-test.true))
    c.index.ensures in
    record {
      walk = walk_goes_on c.args.context c.args.code.now before.marks.items after.marks.items
          (brought before.goes_on before.depth) (brought after.goes_on after.depth) place
          c.in-Some-decode.next c.in-Some.depth i true true true true true true true
          c.loop-place.invariant.walk c.loop-place-test.true (sym c.decode.ensures.value
          ∙ c.in-Some-decode.is) (taken.allowed refl) c.in-Some.ensures.room
          (rw there (sym c.in-Some.is ∙ c.arrival.ensures.value)) (rw (taken.names refl) refl)
          (rw (taken.leads refl) refl) (as_many (leaves i) _ _ brings)
          (λ _. rw (taken.agrees refl, taken.fits refl) refl) (λ _. brings)
          (brings_room after.goes_on after.depth (taken.room refl)) (taken.marks refl);
      room = taken.room refl;
      nothing = taken.nothing refl;
    }

pub returns-then-not-take_on : goal.returns-then-not-take_on
returns-then-not-take_on c =
    let before = c.loop-place.walk in
    let place = c.loop-place.place in
    let there : mark_at before.marks.items place ≡ c.index.result.now =
    mark_there before.marks.items place c.index.result.now
    (omega (arith, c.loop-place.invariant.walk.sized, c.loop-place-test.true))
    c.index.ensures in
    let unchanged : c.take_on.new.self.marks.items ≡ before.marks.items =
    c.take_on.ensures.kept c.if-not-take_on.true in
    record {
      walk = rw unchanged (walk_again c.args.context c.args.code.now before.marks.items
          (brought before.goes_on before.depth) place c.in-Some-decode.next c.in-Some.depth
          c.in-Some-decode.instruction true true true
          c.loop-place.invariant.walk c.loop-place-test.true (sym c.decode.ensures.value
          ∙ c.in-Some-decode.is) c.in-Some.ensures.room
          (rw there (sym c.arrival.ensures.value ∙ c.in-Some.is)));
      room = c.in-Some.ensures.room;
      nothing = λ e. absurd cc;
    }
