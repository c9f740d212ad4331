-- Calls that break a rule, and those that don't.
use Rattle.std.proofs.Common.{◌≡◌, refl, ap, ◌∙◌, ◌<◌, ◌≤◌, Bool, true, false, not, ◌&&◌, ◌||◌, List, [], ◌∷◌, length, map, arith}
use Rattle.edd_breaches.specs.Told.{told_at}
use Rattle.edd_syntax.specs.declared.numbers.TokenNo.{TokenNo}
use Rattle.edd_syntax.specs.declared.reference.Target.{Target}
use Rattle.edd_syntax.specs.declared.reference.Target.TheVariants.{Function}
use Rattle.edd_syntax.specs.Expression as expr
use Rattle.edd_syntax.specs.Expression.{Argument, Arguments, arguments_from}
use Rattle.edd_syntax.specs.declared.operators.Parameter.{Parameter}
use Rattle.edd_syntax.specs.Builtins.{parameters}
use Rattle.edd_syntax.specs.SubsetRules.{all_fit, is_abort, call_breaches}
use Rattle.edd_syntax.specs.SubsetRules as rules
use Rattle.edd_syntax.specs.Refusal.{Mismatch, refused_if}
use Rattle.edd_types.specs.declared.sought.Sought.TheVariants as sought
use Rattle.edd_types.specs.declared.sought.Calls.{Calls}
use Rattle.edd_types.specs.declared.sought.Calls.TheVariants as sought_calls
use Rattle.edd_types.specs.Expressions.{all_fit_among, call_breaches_among, call_told}

-- ---- too many arguments, and too few

module _ {X : Type 0} (view : X → Argument Target) (which : Calls) where
  pub too_many : (ps : List Parameter) (xs : List X) → length ps < 1 → 1 ≤ length xs
      → false ≡ all_fit_among which ps (arguments_from (map view xs))
  too_many [] [] none some = absurd (omega arith)
  too_many [] (x ∷ xs) none some = refl
  too_many (p ∷ ps) xs none some = absurd (omega arith)

  pub too_few : (ps : List Parameter) (xs : List X) → 1 ≤ length ps → length xs < 1
      → false ≡ all_fit_among which ps (arguments_from (map view xs))
  too_few [] xs some none = absurd (omega arith)
  too_few (p ∷ ps) [] some none = refl
  too_few (p ∷ ps) (x ∷ xs) some none = absurd (omega arith)

-- ---- all that do not fit are the breaches of the rule

same_fit : (ps : List Parameter) (arguments : Arguments Target)
    → all_fit_among sought_calls.All ps arguments ≡ all_fit ps arguments
same_fit [] expr.Nil = refl
same_fit [] (expr.Cons first rest) = refl
same_fit (p ∷ ps) expr.Nil = refl
same_fit (p ∷ ps) (expr.Cons first rest) = ap (λ b. rules.fits p first && b) (same_fit ps rest)

pub same_breaches : (is_statement : Bool) (function : Target) (arguments : Arguments Target)
    → call_breaches_among sought_calls.All is_statement function arguments
    ≡ call_breaches is_statement function arguments
same_breaches is_statement (Function f) arguments =
    ap (λ b. refused_if (not b || (is_abort f && not is_statement)) Mismatch)
    (same_fit (parameters f) arguments)
same_breaches is_statement _ arguments = refl

-- ---- what is told of a call

module _ (which : Calls) (is_statement : Bool) (function : Target) (arguments : Arguments Target)
    (at : TokenNo) (fits : Bool) (breaches : call_breaches_among which is_statement function arguments
    ≡ refused_if (not fits) Mismatch) where
  pub call_fits : fits ≡ true → call_told (sought.Call which) is_statement function arguments at ≡ []
  call_fits is = ap (map (λ why. told_at why at)) breaches
      ∙ ap (λ b. map (λ why. told_at why at) (refused_if (not b) Mismatch)) is

  pub call_differs : fits ≡ false → call_told (sought.Call which) is_statement function arguments at
      ≡ told_at Mismatch at ∷ []
  call_differs is = ap (map (λ why. told_at why at)) breaches
      ∙ ap (λ b. map (λ why. told_at why at) (refused_if (not b) Mismatch)) is

pub ruleset calls = (call_fits, call_differs)
