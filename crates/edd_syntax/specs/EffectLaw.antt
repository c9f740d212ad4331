-- Arguments that the rules of the profile let through have an effect.
use Rattle.std.specs.Prelude.{◌≡◌, true, List}
use Rattle.edd_syntax.specs.declared.operators.Builtin.{Builtin}
use Rattle.edd_syntax.specs.Reference.{Target}
use Rattle.edd_syntax.specs.Expression.{Arguments}
use Rattle.edd_syntax.specs.Builtins.{parameters}
use Rattle.edd_syntax.specs.SubsetRules.{all_fit}
use Rattle.edd_syntax.specs.Device.{Environment}
use Rattle.edd_syntax.specs.MethodState.{State, Done}
use Rattle.edd_syntax.specs.Evaluation.{Given, Fitting, effect_of, call_builtin, evaluate_all}

-- a call with as many arguments as there are parameters, each of its sort, does what the function
-- does with them
abbrev pub FittingCallsHaveTheirEffect : Type 0
FittingCallsHaveTheirEffect = (env : Environment) (f : Builtin) (arguments : Arguments Target)
    (before after : State) (given : List Given) → all_fit (parameters f) arguments ≡ true
    → evaluate_all env arguments before ≡ Done given after
    → (fitting : Fitting (parameters f)) × (call_builtin env f given ≡ effect_of env f fitting)
