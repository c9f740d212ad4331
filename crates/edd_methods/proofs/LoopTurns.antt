-- The turns of a loop are those of the source.
use Rattle.std.proofs.Common.{◌≡◌, refl, ap, ◌∙◌, ℕ, zero, suc, Bool, true, false, ℤ, pos}
use Rattle.edd_syntax.specs.TwosComplement.{is_zero}
use Rattle.edd_syntax.specs.MethodState.{State, Outcome, Done, Stopped, Action, pure, and_then, ◌>>◌}
use Rattle.edd_syntax.specs.Execution.{Completion, Normal, Breaks, Returns, next_turn, turns, turns_of_do}
use Rattle.edd_methods.specs.StatementEffects.{unless_zero, always, Same, loop_turns}

behind_same : {A B : Type 0} (o : Outcome A) (f g : A → Action B) → ((x : A) → Same (f x) (g x))
    → and_then o f ≡ and_then o g
behind_same (Done x s) f g h = h x s
behind_same (Stopped why s) f g h = refl

pub then_same : {A B : Type 0} {o o' : Outcome A} (f g : A → Action B) → o ≡ o'
    → ((x : A) → Same (f x) (g x)) → and_then o f ≡ and_then o' g
then_same {o'} f g e h = ap (λ x. and_then x f) e ∙ behind_same o' f g h

pub test_same : (b : Bool) (f g : Action Completion) → Same f g
    → Same (elim b [ true ↦ pure Normal | false ↦ f ]) (elim b [ true ↦ pure Normal | false ↦ g ])
test_same true f g e s = refl
test_same false f g e s = e s

pub turn_same : (f g : Action Completion) → Same f g → (c : Completion)
    → Same (next_turn f c) (next_turn g c)
turn_same f g e Breaks s = refl
turn_same f g e Returns s = refl
turn_same f g e _ s = e s

-- a part that goes on after its action
goes_on : (o : Outcome ℤ) (last : Action ℤ) (f g : Action Completion) (s : State)
    → o ≡ always last s → Same f g → and_then o (unless_zero f) ≡ (last >> g) s
goes_on o last f g s e h = ap (λ x. and_then x (unless_zero f)) e ∙ rest (last s)
  where
    rest : (x : Outcome ℤ) → and_then (and_then x (λ _. pure (pos 1))) (unless_zero f)
        ≡ and_then x (λ _. g)
    rest (Done a t) = h t
    rest (Stopped why t) = refl

pub test_first : (n : ℕ) (front test back last : Action ℤ) (body turn : Action Completion)
    → Same front test → Same body turn → Same back (always last)
    → (s : State) → loop_turns n front body back s ≡ turns n test turn last s
unfolding loop_turns turns
test_first zero front test back last body turn in_front inside behind s = refl
test_first (suc n) front test back last body turn in_front inside behind s =
    then_same _ _ (in_front s) (λ a. test_same (is_zero a) _ _
    (λ t. then_same _ _ (inside t) (turn_same _ _ (λ u. goes_on (back u) last _ _ u (behind u)
    (test_first n front test back last body turn in_front inside behind)))))

pub test_last : (n : ℕ) (back test : Action ℤ) (body turn : Action Completion) → Same body turn
    → Same back test → (s : State) → loop_turns n (pure (pos 1)) body back s
    ≡ turns_of_do n turn test s
unfolding loop_turns turns_of_do
test_last zero back test body turn inside behind s = refl
test_last (suc n) back test body turn inside behind s =
    then_same _ _ (inside s) (turn_same _ _ (λ u. then_same _ _ (behind u)
    (λ a. test_same (is_zero a) _ _ (test_last n back test body turn inside behind))))
