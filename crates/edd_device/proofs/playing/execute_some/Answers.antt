use Rattle.std.proofs.Common.{◌≡◌, ◌-◌, ◌≤◌, arith}
use Rattle.edd_image.specs.Contents.{contents_in}
use Rattle.edd_port.specs.Runs.{advanced}
use Rattle.edd_device.proofs.Trialling.{moves, at_most}
use Rattle.edd_device.proofs.playing.execute_some.Goals as goal

-- what was counted are the steps that were taken
count : (c : goal.After-taken) → c.taken.result - c.taken-before.result
    ≡ (advanced c.args.session.now c.args.left).steps
count c = omega (
  arith,
  c.taken.ensures,
  c.taken-before.ensures,
  c.advance.ensures.taken,
  c.requires.small,
  at_most (contents_in c.args.session.now.image) c.args.left c.args.session.now.state,
)

few : (c : goal.After-taken) → (advanced c.args.session.now c.args.left).steps ≤ c.args.left
few c = at_most (contents_in c.args.session.now.image) c.args.left c.args.session.now.state

pub overflow_cast-result : goal.overflow_cast-result
overflow_cast-result c = omega (arith, count c, few c, c.ranges.left.fits)

pub overflow_sub-result : goal.overflow_sub-result
overflow_sub-result c = omega (arith, count c, few c)

pub returns : goal.returns
returns c = record {
  budget = c.args.left;
  within = omega arith;
  image = c.advance.ensures.image;
  state = c.advance.ensures.state;
  taken = c.advance.ensures.taken;
  counts = omega (arith, count c, few c);
  some = omega (
    arith,
    count c,
    few c,
    moves (contents_in c.args.session.now.image) c.args.left c.args.session.now.state
        c.advance.result c.requires.runs c.requires.some c.advance.ensures.ending,
  );
}
