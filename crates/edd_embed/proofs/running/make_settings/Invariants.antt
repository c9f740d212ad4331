use Rattle.std.proofs.Common.{◌≡◌, ◌<◌, map, drop, length}
use Rattle.std.specs.List.{AllByRecursion}
use Rattle.edd_syntax.specs.Answers.{values_set}
use Rattle.edd_embed.specs.Playing.{change_of}
use Rattle.edd_embed.proofs.running.make_settings.Given as goal

abbrev pub invariant-loop-setting : goal.invariant-loop-setting
invariant-loop-setting l = record {
  exist : AllByRecursion (λ set. set.variable.0 < length l.initial.values)
      (map change_of (drop l.setting-index l.settings));
  values : values_set l.initial.values (map change_of l.settings)
      ≡ values_set l.values (map change_of (drop l.setting-index l.settings));
}
