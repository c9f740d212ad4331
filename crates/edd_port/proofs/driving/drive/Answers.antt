use Rattle.std.proofs.Common.{◌≡◌, sym, subst, arith}
use Rattle.edd_port.specs.Runs.{Run, counted}
use Rattle.edd_port.proofs.DriveEnds.{Ends, sets_out, turns, falls, stops}
use Rattle.edd_port.proofs.driving.drive.Goals as goal

pub loop-fewer-init : goal.loop-fewer-init
loop-fewer-init g c =
    let small : c.args.session.now.taken ≡ counted c.args.session.now.taken =
    omega (arith, c.taken-taken.ensures, c.taken-taken.type_inv) in
    sets_out c.args.session.now c.args.steps (g.H.Host.book c.args.host.now) small

pub loop-fewer-smaller : goal.loop-fewer-smaller
loop-fewer-smaller g c = falls c.loop-fewer.left c.in-Ok.fewer c.loop-fewer.session
    c.go_on.new.session (g.H.Host.book c.loop-fewer.host) (g.H.Host.book c.go_on.new.host)
    c.in-Ok.ensures.on

pub loop-fewer-preserved : goal.loop-fewer-preserved
loop-fewer-preserved g c = turns _ _ _ _ _ _ _ _ _ c.loop-fewer.invariant c.in-Ok.ensures.on

pub returns-in-Err : goal.returns-in-Err
returns-in-Err g c =
    let kept : c.go_on.new.session ≡ c.loop-fewer.session = c.in-Err.ensures.kept in
    let e = stops c.args.session.now c.args.steps c.loop-fewer.left c.loop-fewer.session
    (g.H.Host.book c.args.host.now) (g.H.Host.book c.loop-fewer.host)
    (g.H.Host.book c.go_on.new.host)
    c.loop-fewer.invariant c.in-Err.end c.in-Err.ensures.stops in
    let e' : Ends c.args.session.now c.args.steps (g.H.Host.book c.args.host.now) c.in-Err.end
    c.go_on.new.session (g.H.Host.book c.go_on.new.host) =
    subst (λ (r : Run). Ends c.args.session.now c.args.steps (g.H.Host.book c.args.host.now)
    c.in-Err.end r (g.H.Host.book c.go_on.new.host)) (sym kept) e in
    record {
      image = e'.image;
      state = e'.state;
      taken = e'.taken;
      ends = e'.ends;
      spent = e'.spent;
      shows = e'.shows;
      used = e'.used;
      met = e'.met;
      valid = e'.valid;
      pairs = e'.pairs;
      refused = e'.refused;
      nothing = e'.nothing;
      failed = e'.failed;
    }
