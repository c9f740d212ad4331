use Rattle.std.proofs.Common.{arith}
use Rattle.edd_instructions.specs.Units.{instructions}
use Rattle.edd_port.proofs.OriginTurns.{enough_there, stands_there, traced}
use Rattle.edd_port.proofs.depths.stands_with.Goals as goal

pub overflow_sub-result : goal.overflow_sub-result
overflow_sub-result c = enough_there (instructions c.args.code.now) c.args.place c.loop-segment.at
    c.loop-segment.rise c.requires.1.depths.0 c.requires.1.depths.1 c.loop-segment.invariant
    c.in-Fresh.ensures

pub returns-in-Fresh : goal.returns-in-Fresh
returns-in-Fresh c = stands_there c.args.code.now c.args.place c.loop-segment.at
    c.loop-segment.rise c.args.count c.requires.1.depths.0 c.requires.1.depths.1
    c.loop-segment.invariant c.in-Fresh.ensures

pub overflow_add-rise : goal.overflow_add-rise
overflow_add-rise c =
    let parts = traced (instructions c.args.code.now) c.args.place c.loop-segment.at
    c.loop-segment.rise c.in-Led.segment c.requires.1.depths.0 c.requires.1.depths.1
    c.loop-segment.invariant c.in-Led.ensures in
    omega (arith, parts.1, parts.2)

pub overflow_sub-rise : goal.overflow_sub-rise
overflow_sub-rise c =
    let parts = traced (instructions c.args.code.now) c.args.place c.loop-segment.at
    c.loop-segment.rise c.in-Led.segment c.requires.1.depths.0 c.requires.1.depths.1
    c.loop-segment.invariant c.in-Led.ensures in
    parts.0

pub loop-segment-preserved : goal.loop-segment-preserved
loop-segment-preserved c =
    let parts = traced (instructions c.args.code.now) c.args.place c.loop-segment.at
    c.loop-segment.rise c.in-Led.segment c.requires.1.depths.0 c.requires.1.depths.1
    c.loop-segment.invariant c.in-Led.ensures in
    parts.3
