-- Which rule a unit breaks.
use Rattle.std.specs.Prelude.{Option, option_map}
use Rattle.edd_instructions.specs.declared.rules.UnitRule.{UnitRule}

-- the rule that is broken, without where it is
abbrev pub rule_in : {A : Type 0} → Option (UnitRule × A) → Option UnitRule
rule_in broken = option_map (λ b. b.0) broken
