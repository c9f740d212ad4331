-- Actions that do the same, one after another.
use Rattle.std.proofs.Common.{◌≡◌, refl, ap, ◌∙◌, Bool, true, false, ℤ, pos}
use Rattle.edd_syntax.specs.MethodState.{Outcome, Done, Stopped, Action, pure, and_then}
use Rattle.edd_syntax.specs.Execution.{Completion, Normal, next}
use Rattle.edd_methods.specs.StatementEffects.{Same}

pub choice_same : (b : Bool) (f g f' g' : Action Completion) → Same f f' → Same g g'
    → Same (elim b as (λ _. Action Completion) [ true ↦ f | false ↦ g ])
    (elim b as (λ _. Action Completion) [ true ↦ f' | false ↦ g' ])
choice_same true f g f' g' yes' no' = yes'
choice_same false f g f' g' yes' no' = no'

pub next_same : (f g : Action Completion) → Same f g → (c : Completion) → Same (next f c) (next g c)
next_same f g h Normal s = h s
next_same f g h _ s = refl

-- a step, and a statement after it
pub step_then : {A : Type 0} {o : Outcome ℤ} (o' : Outcome A) (f g : Action Completion)
    → o ≡ and_then o' (λ _. pure (pos 1)) → Same f g
    → and_then (and_then o (λ _. pure Normal)) (next f) ≡ and_then o' (λ _. g)
step_then {A} o' f g e h = ap (λ x. and_then (and_then x (λ _. pure Normal)) (next f)) e ∙ rest o'
  where
    rest : (x : Outcome A) → and_then (and_then (and_then x (λ _. pure (pos 1))) (λ _. pure Normal))
        (next f) ≡ and_then x (λ _. g)
    rest (Done a s) = h s
    rest (Stopped why s) = refl

-- a step as a statement
pub step_alone : {A : Type 0} {o : Outcome ℤ} (o' : Outcome A) → o ≡ and_then o' (λ _. pure (pos 1))
    → and_then o (λ _. pure Normal) ≡ and_then o' (λ _. pure Normal)
step_alone {A} o' e = ap (λ x. and_then x (λ _. pure Normal)) e ∙ rest o'
  where
    rest : (x : Outcome A) → and_then (and_then x (λ _. pure (pos 1))) (λ _. pure Normal)
        ≡ and_then x (λ _. pure Normal)
    rest (Done a s) = refl
    rest (Stopped why s) = refl
