-- Arguments that fit the parameters are taken as they are.
use Rattle.std.proofs.Common.{◌≡◌, refl, ap, ◌∙◌, subst, true, ℤ, pos, List, [], ◌∷◌, Some, None}
use Rattle.std.specs.Prelude.{option_map}
use Rattle.std.proofs.lemmas.Bool.{and_parts}
use Rattle.edd_syntax.specs.declared.numbers.ItemNo.TheVariants as item_no
use Rattle.edd_syntax.specs.declared.numbers.MethNo.{MethNo}
use Rattle.edd_syntax.specs.declared.numbers.VarNo.{VarNo}
use Rattle.edd_syntax.specs.declared.operators.Parameter.{Parameter}
use Rattle.edd_syntax.specs.declared.operators.Parameter.TheVariants as parameter
use Rattle.edd_syntax.specs.Reference.{Target, Local, Item, Function}
use Rattle.edd_syntax.specs.Expression.{Expr, Literal, Reference, Value, Arguments, Nil, Cons}
use Rattle.edd_syntax.specs.Expression as expr
use Rattle.edd_syntax.specs.Text as texts
use Rattle.edd_syntax.specs.Words.{words_of}
use Rattle.edd_syntax.specs.Device.{Environment}
use Rattle.edd_syntax.specs.Builtins.{parameters}
use Rattle.edd_syntax.specs.SubsetRules.{fits, all_fit, is_device_variable, is_method}
use Rattle.edd_syntax.specs.MethodState.{State, Outcome, Done, Stopped, Action, pure, and_then}
use Rattle.edd_syntax.specs.Evaluation.{Given, Text, Number, FittingOne, Fitting, fitted_one, fitted, referred, effect_of, evaluate, evaluate_all}
use Rattle.edd_syntax.specs.EffectLaw.{FittingCallsHaveTheirEffect}

-- ---- what a plain reference names

variable_named : (e : Expr Target) → is_device_variable (Value e) ≡ true → (v : VarNo)
    × (referred e ≡ Some (Item (item_no.Variable v)))
variable_named (Reference (Item (item_no.Variable n))) fit = (n, refl)
variable_named (Reference (Item (item_no.Command n))) fit = absurd cc
variable_named (Reference (Item (item_no.Menu n))) fit = absurd cc
variable_named (Reference (Item (item_no.Collection n))) fit = absurd cc
variable_named (Reference (Item (item_no.Method n))) fit = absurd cc
variable_named (Reference (Item (item_no.Array n))) fit = absurd cc
variable_named (Reference (Local slot)) fit = absurd cc
variable_named (Reference (Function f)) fit = absurd cc
variable_named (Literal value) fit = absurd cc
variable_named _ fit = absurd cc

method_named : (e : Expr Target) → is_method (Value e) ≡ true → (m : MethNo)
    × (referred e ≡ Some (Item (item_no.Method m)))
method_named (Reference (Item (item_no.Method n))) fit = (n, refl)
method_named (Reference (Item (item_no.Variable n))) fit = absurd cc
method_named (Reference (Item (item_no.Command n))) fit = absurd cc
method_named (Reference (Item (item_no.Menu n))) fit = absurd cc
method_named (Reference (Item (item_no.Collection n))) fit = absurd cc
method_named (Reference (Item (item_no.Array n))) fit = absurd cc
method_named (Reference (Local slot)) fit = absurd cc
method_named (Reference (Function f)) fit = absurd cc
method_named (Literal value) fit = absurd cc
method_named _ fit = absurd cc

-- ---- one argument

abbrev IsTaken : Parameter → Given → Type 0
IsTaken p g = (x : FittingOne p) × (fitted_one p g ≡ Some x)

value_taken : (p : Parameter) (e : Expr Target) (value : ℤ) → fits p (Value e) ≡ true
    → IsTaken p (Number value (referred e))
value_taken parameter.Text e value fit = absurd cc
value_taken parameter.Number e value fit = (value, refl)
value_taken parameter.DeviceVariable e value fit =
    let named = variable_named e fit in (
      record { variable = named.0; value = value },
      ap (λ of. fitted_one parameter.DeviceVariable (Number value of)) named.1,
    )
value_taken parameter.Method e value fit =
    let named = method_named e fit in
    (named.0, ap (λ of. fitted_one parameter.Method (Number value of)) named.1)

-- ---- all arguments

abbrev AreTaken : List Parameter → List Given → Type 0
AreTaken ps given = (xs : Fitting ps) × (fitted ps given ≡ Some xs)

one_more : (p : Parameter) (ps : List Parameter) (g : Given) (given : List Given) → IsTaken p g
    → AreTaken ps given → AreTaken (p ∷ ps) (g ∷ given)
one_more p ps g given one rest = (
  (one.0, rest.0),
  ap (λ o. elim o [
    | Some first ↦ option_map (λ xs. (first, xs)) (fitted ps given)
    | None ↦ None
  ]) one.1 ∙ ap (option_map (λ xs. (one.0, xs))) rest.1,
)

-- what is given, where something is
abbrev given_in : Outcome (List Given) → List Given
given_in (Done given s) = given
given_in (Stopped why s) = []

-- with one argument in front
in_front : (ps : List Parameter) (p : Parameter) (g : Given) (o : Outcome (List Given))
    (given : List Given) (after : State)
    → ((others : List Given) (t : State) → o ≡ Done others t → AreTaken ps others)
    → IsTaken p g → and_then o (λ others. pure (g ∷ others)) ≡ Done given after
    → AreTaken (p ∷ ps) given
in_front ps p g (Done others t) given after rest one is =
    subst (AreTaken (p ∷ ps)) (ap given_in is) (one_more p ps g others one (rest others t refl))
in_front ps p g (Stopped why t) given after rest one is = absurd cc

-- the argument is evaluated first
evaluated_first : (ps : List Parameter) (p : Parameter) (e : Expr Target) (o : Outcome ℤ)
    (others : Action (List Given)) (given : List Given) (after : State)
    → ((s : State) (given : List Given) (t : State) → others s ≡ Done given t → AreTaken ps given)
    → fits p (Value e) ≡ true
    → and_then o (λ value s. and_then (others s) (λ xs. pure (Number value (referred e) ∷ xs)))
    ≡ Done given after → AreTaken (p ∷ ps) given
evaluated_first ps p e (Done value s) others given after rest fit is =
    in_front ps p (Number value (referred e)) (others s) given after (rest s)
    (value_taken p e value fit) is
evaluated_first ps p e (Stopped why s) others given after rest fit is = absurd cc

text_taken : (p : Parameter) (t : texts.Text) → fits p (expr.Text t) ≡ true
    → IsTaken p (Text (words_of t))
text_taken parameter.Text t fit = (words_of t, refl)
text_taken _ t fit = absurd cc

all_taken : (env : Environment) (ps : List Parameter) (arguments : Arguments Target)
    (before : State) (given : List Given) (after : State) → all_fit ps arguments ≡ true
    → evaluate_all env arguments before ≡ Done given after → AreTaken ps given
unfolding evaluate_all
all_taken env [] Nil before given after fit is =
    subst (AreTaken []) (ap given_in is) (tt, refl)
all_taken env [] (Cons first rest) before given after fit is = absurd cc
all_taken env (p ∷ ps) Nil before given after fit is = absurd cc
all_taken env (p ∷ ps) (Cons (expr.Text t) rest) before given after fit is =
    let fitting = and_parts (fits p (expr.Text t)) (all_fit ps rest) fit in
    in_front ps p (Text (words_of t)) (evaluate_all env rest before) given after
    (λ others u h. all_taken env ps rest before others u fitting.1 h)
    (text_taken p t fitting.0) is
all_taken env (p ∷ ps) (Cons (Value e) rest) before given after fit is =
    let fitting = and_parts (fits p (Value e)) (all_fit ps rest) fit in
    evaluated_first ps p e (evaluate env e before) (evaluate_all env rest) given after
    (λ s others u h. all_taken env ps rest s others u fitting.1 h) fitting.0 is

pub effects : FittingCallsHaveTheirEffect
effects env f arguments before after given fit is =
    let taken = all_taken env (parameters f) arguments before given after fit is in (
      taken.0,
      ap (λ o. elim o [
        | Some xs ↦ effect_of env f xs
        | None ↦ pure (pos 0)
      ]) taken.1,
    )
