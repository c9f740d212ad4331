use Rattle.std.proofs.Common.{◌≡◌, map, take}
use Rattle.edd_embed.specs.Playing.{change_of}
use Rattle.edd_embed.proofs.answers.answer_with.Given as goal

abbrev pub invariant-loop-setting : goal.invariant-loop-setting
invariant-loop-setting l = map (λ set. record { variable = set.0; value = set.1 }) l.sets.items
    ≡ map change_of (take l.setting-index l.settings)
