use Rattle.std.proofs.Common.{◌≡◌, map, drop}
use Rattle.edd_syntax.specs.Answers.{sets_fault}
use Rattle.edd_machine.specs.Types.{types_in}
use Rattle.edd_embed.specs.Playing.{change_of}
use Rattle.edd_embed.proofs.running.fault_of_settings.Given as goal

abbrev pub invariant-loop-setting : goal.invariant-loop-setting
invariant-loop-setting l = sets_fault (types_in l.image) (map change_of l.settings)
    ≡ sets_fault (types_in l.image) (map change_of (drop l.setting-index l.settings))
