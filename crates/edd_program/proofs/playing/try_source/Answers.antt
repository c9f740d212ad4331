use Rattle.std.proofs.Common.{ℕ, List, subst}
use Rattle.edd_compiler.specs.Images.{IsImageOf}
use Rattle.edd_program.specs.Reasons.{Blames, BlamesRun}
use Rattle.edd_program.proofs.StatusLaws.{on_err, tries_behind}
use Rattle.edd_program.proofs.playing.try_source.Goals as goal

pub returns-clause-stopped : goal.returns-clause-stopped
returns-clause-stopped g c =
    let text = c.in_ok-taken.taken.description.items in
    let script = c.in_ok-taken.taken.script.items in
    let bytes = c.in_ok-bytes.bytes.items in
    let run = c.args.run in
    on_err c.play_bytes.result c.play_bytes.ensures.stopped (λ s told.
    tries_behind (g.F.Files.account c.args.files.now) (g.W.Write.contents c.args.out.now)
    (g.W.Write.contents c.play_bytes.new.out) bytes script s c.args.source run text
    c.in_ok-taken.ensures.described
    (subst (λ (t : List ℕ). IsImageOf t bytes) c.deref.ensures.value c.in_ok-bytes.ensures.sound)
    c.in_ok-taken.ensures.scripted
    (subst (λ (b : List ℕ). Blames b script (BlamesRun b script run.method.now run.steps) s)
    c.deref-2.ensures.value
    (subst (λ (x : List ℕ). Blames c.deref-2.result.now x
    (BlamesRun c.deref-2.result.now x run.method.now run.steps) s) c.deref-3.ensures.value told)))
