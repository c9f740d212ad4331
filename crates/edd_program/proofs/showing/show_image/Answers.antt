use Rattle.std.proofs.Common.{ℕ, List, subst}
use Rattle.edd_program.specs.Reasons.{Blames, BlamesNoRun}
use Rattle.edd_program.proofs.StatusLaws.{shows_behind}
use Rattle.edd_program.proofs.showing.show_image.Goals as goal

pub returns-clause-stopped : goal.returns-clause-stopped
returns-clause-stopped g c =
    let bytes = c.in_ok-taken.taken.description.items in
    let script = c.in_ok-taken.taken.script.items in
    let told = c.with_hint.ensures.kept c.deref.result.now c.in-Err.ensures.stopped in
    shows_behind (g.F.Files.account c.args.files.now) (g.W.Write.contents c.args.out.now)
    (g.W.Write.contents c.show_bytes.new.out) bytes script c.with_hint.result c.args.showing
    c.in_ok-taken.ensures.described c.in_ok-taken.ensures.scripted
    (subst (λ (b : List ℕ). Blames b script BlamesNoRun c.with_hint.result)
    c.as_slice-bytes.ensures.value
    (subst (λ (s : List ℕ). Blames c.as_slice-bytes.result.now s BlamesNoRun c.with_hint.result)
    c.deref.ensures.value told))
