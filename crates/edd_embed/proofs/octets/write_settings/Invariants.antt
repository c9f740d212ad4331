use Rattle.edd_embed.proofs.Writing.{Written}
use Rattle.edd_embed.specs.Octets.{setting_of}
use Rattle.edd_octets.specs.Messages.{change_of}
use Rattle.edd_embed.proofs.octets.write_settings.Given as goal

abbrev pub invariant-loop-index : goal.invariant-loop-index
invariant-loop-index l =
    Written (λ set. setting_of (change_of set)) l.sets l.initial.room l.room l.index
