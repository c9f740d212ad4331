use Rattle.std.proofs.Common.{sym, ◌∙◌}
use Rattle.edd_loader.proofs.TextTurns.{string_missing}
use Rattle.edd_loader.proofs.image.Image.text.Goals as goal

pub returns-then-not-has_string-clause-sound : goal.returns-then-not-has_string-clause-sound
returns-then-not-has_string-clause-sound c = string_missing _ _ _ _ c.counts.ensures
    (sym c.has_string.ensures ∙ c.if-not-has_string.true)
