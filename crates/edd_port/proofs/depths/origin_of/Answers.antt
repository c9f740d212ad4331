use Rattle.std.proofs.Common.{◌≡◌, ℕ, ◌-◌, true, false, arith, sym, ap, subst, ◌∙◌}
use Rattle.edd_instructions.specs.declared.instruction.Instruction.{Instruction}
use Rattle.edd_instructions.specs.Units.{instructions, takes}
use Rattle.edd_unit_rules.specs.Standing.{jumps_to}
use Rattle.edd_unit_rules.proofs.Listing.{placed}
use Rattle.edd_port.specs.declared.depths.Segment.{Segment}
use Rattle.edd_port.specs.Origins.{IsLed, after_way}
use Rattle.edd_port.proofs.OriginTurns.{IsTurn, begins, goes_there, is_fresh, is_here, jumps_there, passes, rise_fits, stops, turns}
use Rattle.edd_port.proofs.depths.origin_of.Goals as goal

pub loop-at-init : goal.loop-at-init
loop-at-init c = begins c.requires.0 c.args.code.now c.args.place c.requires.1

pub returns-in_default : goal.returns-in_default
returns-in_default c = stops c.args.code.now (instructions c.args.code.now) c.args.place
    c.loop-at.segment c.loop-at.at c.loop-at.invariant (sym c.decode.ensures.value
    ∙ c.in_default.is)

pub overflow_sub-rest : goal.overflow_sub-rest
overflow_sub-rest c =
    let found : Instruction × ℕ = (c.in-Some.instruction, c.in-Some.next) in
    let xs = instructions c.args.code.now in
    let h = is_here c.args.code.now xs c.args.place c.loop-at.segment c.loop-at.at found
    c.loop-at.invariant (sym c.decode.ensures.value ∙ c.in-Some.is) in
    let fits = rise_fits xs c.loop-at.segment (placed c.loop-at.at found) c.requires.1.depths.0
    c.requires.1.depths.1 h c.loop-at.invariant.rises in
    omega (arith, fits.0, c.takes.ensures, c.from.ensures)

pub returns-then-is_jump_to : goal.returns-then-is_jump_to
returns-then-is_jump_to c =
    let found : Instruction × ℕ = (c.in-Some.instruction, c.in-Some.next) in
    let taken : takes c.in-Some.instruction ≡ c.from.result = omega (
      arith,
      c.takes.ensures,
      c.from.ensures,
    ) in
    let jumps : jumps_to c.args.place (placed c.loop-at.at found) ≡ true =
    sym (c.is_jump_to.ensures c.loop-at.at c.in-Some.next) ∙ c.if-is_jump_to.true in
    subst (λ n. IsLed (instructions c.args.code.now) c.args.place (record {
      start = c.loop-at.segment.start;
      rise = c.loop-at.segment.rise - n;
    })) taken
    (jumps_there c.args.code.now (instructions c.args.code.now) c.args.place c.loop-at.segment
    c.loop-at.at found c.loop-at.invariant (sym c.decode.ensures.value ∙ c.in-Some.is)
    c.loop-at-test.true jumps)

pub after-segment-requires : goal.after-segment-requires
after-segment-requires c =
    let found : Instruction × ℕ = (c.in-Some.instruction, c.in-Some.next) in
    let xs = instructions c.args.code.now in
    let h = is_here c.args.code.now xs c.args.place c.loop-at.segment c.loop-at.at found
    c.loop-at.invariant (sym c.decode.ensures.value ∙ c.in-Some.is) in
    let fits = rise_fits xs c.loop-at.segment (placed c.loop-at.at found) c.requires.1.depths.0
    c.requires.1.depths.1 h c.loop-at.invariant.rises in
    omega (arith, fits.1)

pub loop-at-preserved : goal.loop-at-preserved
loop-at-preserved c =
    let found : Instruction × ℕ = (c.in-Some.instruction, c.in-Some.next) in
    let xs = instructions c.args.code.now in
    let taken : c.from.result ≡ takes c.in-Some.instruction = omega (
      arith,
      c.takes.ensures,
      c.from.ensures,
    ) in
    let misses : jumps_to c.args.place (placed c.loop-at.at found) ≡ false =
    sym (c.is_jump_to.ensures c.loop-at.at c.in-Some.next) ∙ c.if-is_jump_to.false in
    let same = c.after-segment.ensures ∙ ap (λ n. after_way c.loop-at.segment.start
    (c.loop-at.segment.rise - n) c.in-Some.next c.onward.result) taken
    ∙ ap (after_way c.loop-at.segment.start
    (c.loop-at.segment.rise - takes c.in-Some.instruction) c.in-Some.next) c.onward.ensures in
    subst (λ (s : Segment). IsTurn c.args.code.now xs c.args.place s c.in-Some.next) (sym same)
    (turns c.args.code.now xs c.args.place c.loop-at.segment c.loop-at.at found
    c.loop-at.invariant (sym c.decode.ensures.value ∙ c.in-Some.is) c.loop-at-test.true
    c.in-Some.ensures.inside.0 c.in-Some.ensures.inside.1 misses)

pub returns-then-at-place : goal.returns-then-at-place
returns-then-at-place c = passes c.args.code.now (instructions c.args.code.now) c.args.place
    c.loop-at.segment c.loop-at.at c.loop-at.invariant c.if-at-place.true

pub returns-in_default-decode : goal.returns-in_default-decode
returns-in_default-decode c = stops c.args.code.now (instructions c.args.code.now) c.args.place
    c.loop-at.segment c.loop-at.at c.loop-at.invariant (sym c.decode-2.ensures.value
    ∙ c.in_default-decode.is)

pub returns-then-segment-at : goal.returns-then-segment-at
returns-then-segment-at c = goes_there c.args.code.now (instructions c.args.code.now) c.args.place
    c.loop-at.segment c.loop-at.at c.in-Some-decode.field-0 c.loop-at.invariant
    (sym c.decode-2.ensures.value ∙ c.in-Some-decode.is) (omega arith) c.if-segment-at.true

pub returns-else-segment-at : goal.returns-else-segment-at
returns-else-segment-at c = is_fresh c.args.code.now (instructions c.args.code.now) c.args.place
    c.loop-at.segment c.loop-at.at c.in-Some-decode.field-0 c.loop-at.invariant
    (sym c.decode-2.ensures.value ∙ c.in-Some-decode.is) (omega arith) c.if-segment-at.false
