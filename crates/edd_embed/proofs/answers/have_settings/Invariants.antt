use Rattle.std.proofs.Common.{◌≡◌, drop}
use Rattle.edd_embed.specs.Playing.{have_settings}
use Rattle.edd_embed.proofs.answers.have_settings.Given as goal

abbrev pub invariant-loop-given : goal.invariant-loop-given
invariant-loop-given l = have_settings (drop l.given-index l.givens) l.rest
    ≡ have_settings l.givens l.settings
