-- What a checked description's method keeps, each fact of which is known where the description is
-- merely known to be checked.
use Rattle.std.proofs.Common.{◌≡◌, refl, ℕ, Bool, true, false, ◌≤◌, List, [], ◌∷◌}
use Rattle.std.specs.List.{AllByRecursion, AllByRecursion-prop}
use Rattle.std.proofs.Math.Bool.{Bool-set}
use mathlib.Core.HLevel.{×_prop, Unit-prop}
use Rattle.std.proofs.Math.Bridge.{le_prop}
use Rattle.std.proofs.Math.Logic.{∥∥₁_elim}
use Rattle.edd_syntax.specs.declared.numbers.Kind.{Kind}
use Rattle.edd_syntax.specs.declared.numbers.Kind.TheVariants as kind
use Rattle.edd_syntax.specs.declared.numbers.MethNo.{MethNo}
use Rattle.edd_syntax.specs.declared.reference.Target.{Target}
use Rattle.edd_syntax.specs.declared.reference.Target.TheVariants.{Local}
use Rattle.edd_syntax.specs.Execution.{body_of}
use Rattle.edd_syntax.specs.Item.{Description}
use Rattle.edd_syntax.specs.Resolution.{count_of}
use Rattle.edd_syntax.specs.Resolved.{IsChecked}
use Rattle.edd_syntax.specs.Size.{height_limit}
use Rattle.edd_syntax.specs.Statement.{Declarator, Stmt, Block, If, IfElse, While, Do, For, Switch, Body, Nil, Cons, Declare, Statement, slots_in}
use Rattle.edd_syntax.specs.SubsetRules.{body_expressions, call_mismatches, float_values, mismatches, subset_breaches, wrong_breaks, wrong_types}
use Rattle.edd_image.specs.declared.parts.Counts.{Counts}
use Rattle.edd_code.proofs.Fitting.{front_none}
use Rattle.edd_methods.specs.TreeExpressions.{EachSlot, EachSlotOf, HasSlots, IsSlotBelow}
use Rattle.edd_methods.proofs.CheckedBodies.{body_fits}
use Rattle.edd_methods.proofs.InsideLoops.{Inside, breaks_inside}
use Rattle.edd_methods.proofs.ResolvedBodies.{body_keeps}
use Rattle.edd_methods.proofs.ResolvedHeights.{NoneHigher, body_is_low}
use Rattle.edd_syntax.proofs.WithinLimits.{few_when_checked}
use Rattle.edd_methods.proofs.ResolvedReferences.{Refers, body_refers}

-- ---- each fact is one in which no choice is hidden

-- no breach
abbrev is_none : {A : Type 0} → List A → Bool
is_none [] = true
is_none (x ∷ rest) = false

none_is : {A : Type 0} (xs : List A) → is_none xs ≡ true → xs ≡ []
none_is [] h = refl
none_is (x ∷ rest) h = absurd cc

is_none_of : {A : Type 0} {xs : List A} → xs ≡ [] → is_none xs ≡ true
is_none_of h = rw h refl

module _ (limit : ℕ) where
  place_prop : (t : Target) → IsProp (IsSlotBelow limit t)
  place_prop (Local slot) = le_prop
  place_prop _ = λ x y. absurd x

  places_prop : (ds : List (Declarator Target)) → IsProp (EachSlotOf limit ds)
  places_prop [] = Unit-prop
  places_prop (d ∷ rest) = ×_prop (place_prop d.place) (places_prop rest)

  mutual
    statement_prop : (x : Stmt Target) → IsProp (HasSlots limit x)
    statement_prop (Block body) = body_prop body
    statement_prop (If condition first) = statement_prop first
    statement_prop (IfElse condition first otherwise) =
        ×_prop (statement_prop first) (statement_prop otherwise)
    statement_prop (While condition body) = statement_prop body
    statement_prop (Do body condition) = statement_prop body
    statement_prop (For initial condition update body) = statement_prop body
    statement_prop (Switch on body) = body_prop body
    statement_prop _ = Unit-prop

    body_prop : (b : Body Target) → IsProp (EachSlot limit b)
    body_prop Nil = Unit-prop
    body_prop (Cons (Declare declarators) rest) = ×_prop (places_prop declarators) (body_prop rest)
    body_prop (Cons (Statement first) rest) = ×_prop (statement_prop first) (body_prop rest)
    body_prop (Cons _ rest) = body_prop rest

-- ---- the facts

pub record BodyFacts (d : Description Target) (m : MethNo) : Type 0 where
  pub few_slots : slots_in (body_of d m) ≤ 64
  pub slots : EachSlot (slots_in (body_of d m)) (body_of d m)
  pub fit : AllByRecursion (λ p. call_mismatches p.is_statement p.expression ≡ [])
      (body_expressions (body_of d m))
  pub low : NoneHigher height_limit (body_expressions (body_of d m))
  pub few_items : (k : Kind) → count_of k d.items ≤ 4096
  pub refer : (counts : Counts) → count_of kind.Variable d.items ≡ counts.variables
      → count_of kind.Array d.items ≡ counts.arrays → count_of kind.Method d.items ≡ counts.methods
      → Refers counts (body_of d m)
  pub inside : Inside (body_of d m)

module _ (d : Description Target) (is : ∥ IsChecked d ∥₁) (m : MethNo) where
  no_breach : subset_breaches d ≡ []
  no_breach = none_is (subset_breaches d) (∥∥₁_elim is (Bool-set _ _) (λ c. is_none_of c.no_breach))

  typed : (mismatches d ≡ []) × (wrong_breaks d ≡ [])
  typed =
      let calls = front_none (wrong_types d) _ no_breach in
      let values = front_none (mismatches d) _ calls.1 in
      let breaks = front_none (float_values d) _ values.1 in
      (values.0, (front_none (wrong_breaks d) _ breaks.1).0)

  pub body_facts : BodyFacts d m
  body_facts = record {
    few_slots = ∥∥₁_elim is le_prop (λ c. (body_keeps d c.is_resolved m).0);
    slots = ∥∥₁_elim is (body_prop (slots_in (body_of d m)) (body_of d m))
        (λ c. (body_keeps d c.is_resolved m).1);
    fit = body_fits d typed.0 m;
    low = ∥∥₁_elim is (AllByRecursion-prop _ (λ p. le_prop) _) (λ c. body_is_low d c.is_resolved m);
    few_items = few_when_checked d is;
    refer = λ counts variables arrays methods. ∥∥₁_elim is
        (AllByRecursion-prop _ (λ p. Bool-set _ _) _)
        (λ c. body_refers d c.is_resolved counts variables arrays methods m);
    inside = breaks_inside d typed.1 m;
  }
