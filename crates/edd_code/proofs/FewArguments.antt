-- Arguments that are too few or too many.
use Rattle.std.proofs.Common.{◌≡◌, refl, false, ◌<◌, ◌≤◌, List, [], ◌∷◌, length, map, arith}
use Rattle.std.specs.Prelude.{Option, None}
use Rattle.edd_syntax.specs.declared.reference.Target.{Target}
use Rattle.edd_syntax.specs.Expression.{Argument, arguments_from}
use Rattle.edd_syntax.specs.declared.operators.Parameter.{Parameter}
use Rattle.edd_syntax.specs.SubsetRules.{all_fit}
use Rattle.edd_code.specs.Arguments.{only, both}

module _ {X A : Type 0} (view : X → Argument Target) (kind : Argument Target → Option A) where
  pub none_is_not_one : (xs : List X) → length xs < 1
      → None ≡ only kind (arguments_from (map view xs))
  none_is_not_one [] h = refl
  none_is_not_one (x ∷ xs) h = absurd (omega arith)

  pub many_are_not_one : (xs : List X) → 2 ≤ length xs
      → None ≡ only kind (arguments_from (map view xs))
  many_are_not_one [] h = absurd (omega arith)
  many_are_not_one (x ∷ []) h = absurd (omega arith)
  many_are_not_one (x ∷ y ∷ xs) h = refl

module _ {X A B : Type 0} (view : X → Argument Target) (kind : Argument Target → Option A)
    (other : Argument Target → Option B) where
  pub few_are_not_two : (xs : List X) → length xs < 2
      → None ≡ both kind other (arguments_from (map view xs))
  few_are_not_two [] h = refl
  few_are_not_two (x ∷ []) h = refl
  few_are_not_two (x ∷ y ∷ xs) h = absurd (omega arith)

  pub many_are_not_two : (xs : List X) → 3 ≤ length xs
      → None ≡ both kind other (arguments_from (map view xs))
  many_are_not_two [] h = absurd (omega arith)
  many_are_not_two (x ∷ []) h = absurd (omega arith)
  many_are_not_two (x ∷ y ∷ []) h = absurd (omega arith)
  many_are_not_two (x ∷ y ∷ z ∷ xs) h = refl

pub ruleset not_one = (none_is_not_one, many_are_not_one)

pub ruleset not_two = (few_are_not_two, many_are_not_two)

-- ---- more arguments than parameters, and fewer

module _ {X : Type 0} (view : X → Argument Target) where
  pub too_many : (ps : List Parameter) (xs : List X) → length ps < 1 → 1 ≤ length xs
      → false ≡ all_fit ps (arguments_from (map view xs))
  too_many [] [] none some = absurd (omega arith)
  too_many [] (x ∷ xs) none some = refl
  too_many (p ∷ ps) xs none some = absurd (omega arith)

  pub too_few : (ps : List Parameter) (xs : List X) → 1 ≤ length ps → length xs < 1
      → false ≡ all_fit ps (arguments_from (map view xs))
  too_few [] xs some none = absurd (omega arith)
  too_few (p ∷ ps) [] some none = refl
  too_few (p ∷ ps) (x ∷ xs) some none = absurd (omega arith)
