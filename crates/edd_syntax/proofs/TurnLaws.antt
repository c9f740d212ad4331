-- A statement's outcome stays under more turns, by induction on the statement.
use Rattle.std.proofs.Common.{◌≡◌, refl, ap, ◌∙◌, ℕ, zero, suc, ◌≤◌, Bool, true, false, ℤ, arith}
use Rattle.std.specs.Ordering.{int_eq}
use Rattle.edd_syntax.specs.Reference.{Target}
use Rattle.edd_syntax.specs.Statement.{Stmt, Empty, Evaluate, Block, If, IfElse, While, Do, For, Switch, Break, Continue, Return, Body, Nil, Cons, Declare, Statement, CaseLabel, DefaultLabel}
use Rattle.edd_syntax.specs.TwosComplement.{wrap, is_zero}
use Rattle.edd_syntax.specs.Device.{Environment}
use Rattle.edd_syntax.specs.MethodState.{Outcome, Done, Stopped, OutOfTurns, Action, pure, and_then, ◌>>=◌, ◌>>◌}
use Rattle.edd_syntax.specs.Evaluation.{evaluate}
use Rattle.edd_syntax.specs.Execution.{Completion, Normal, Breaks, Continues, Returns, next, next_turn, left, turns, turns_of_do, optional, declare, execute, execute_all, execute_case, execute_default}
use Rattle.edd_syntax.specs.MoreTurns.{IsOver, Extends, StatementsStay}

-- ---- actions

pub same : {A : Type 0} (a : Action A) → Extends a a
same a s over = refl

-- one outcome and then two actions, of which the second extends the first
pub and_then_extends : {A B : Type 0} (o o' : Outcome A) (f g : A → Action B) → (IsOver o → o' ≡ o)
    → ((x : A) → Extends (f x) (g x)) → IsOver (and_then o f) → and_then o' g ≡ and_then o f
and_then_extends (Done x s) o' f g e h over = ap (λ r. and_then r g) (e tt) ∙ h x s over
and_then_extends (Stopped OutOfTurns s) o' f g e h over = absurd over
and_then_extends (Stopped _ s) o' f g e h over = ap (λ r. and_then r g) (e tt)

pub then_extends : {A B : Type 0} (a b : Action A) (f g : A → Action B) → Extends a b
    → ((x : A) → Extends (f x) (g x)) → Extends (a >>= f) (b >>= g)
then_extends a b f g e h s over = and_then_extends (a s) (b s) f g (e s) h over

abbrev branch : Bool → Action Completion → Action Completion → Action Completion
branch b yes' no' = elim b [ true ↦ yes' | false ↦ no' ]

branch_extends : (b : Bool) (f g f' g' : Action Completion) → Extends f f' → Extends g g'
    → Extends (branch b f g) (branch b f' g')
branch_extends true f g f' g' e h = e
branch_extends false f g f' g' e h = h

next_extends : (rest more : Action Completion) → Extends rest more → (c : Completion)
    → Extends (next rest c) (next more c)
next_extends rest more e Normal = e
next_extends rest more e x = same (pure x)

next_turn_extends : (rest more : Action Completion) → Extends rest more → (c : Completion)
    → Extends (next_turn rest c) (next_turn more c)
next_turn_extends rest more e Breaks = same (pure Normal)
next_turn_extends rest more e Returns = same (pure Returns)
next_turn_extends rest more e _ = e

-- ---- loops

turns_extend : (n m : ℕ) → n ≤ m
    → (test : Action ℤ) (body more : Action Completion) (last : Action ℤ) → Extends body more
    → Extends (turns n test body last) (turns m test more last)
unfolding turns
turns_extend zero m h test body more last e = λ s over. absurd over
turns_extend (suc n) zero h test body more last e = λ s over. absurd (omega arith)
turns_extend (suc n) (suc m) h test body more last e =
    then_extends test test _ _ (same test)
    (λ a. branch_extends (is_zero a) _ _ _ _ (same (pure Normal))
    (then_extends body more _ _ e
    (next_turn_extends _ _ (then_extends last last _ _ (same last)
    (λ _. turns_extend n m (omega arith) test body more last e)))))

turns_of_do_extend : (n m : ℕ) → n ≤ m → (body more : Action Completion) (test : Action ℤ)
    → Extends body more → Extends (turns_of_do n body test) (turns_of_do m more test)
unfolding turns_of_do
turns_of_do_extend zero m h body more test e = λ s over. absurd over
turns_of_do_extend (suc n) zero h body more test e = λ s over. absurd (omega arith)
turns_of_do_extend (suc n) (suc m) h body more test e =
    then_extends body more _ _ e (next_turn_extends _ _ (then_extends test test _ _ (same test)
    (λ a. branch_extends (is_zero a) _ _ _ _ (same (pure Normal))
    (turns_of_do_extend n m (omega arith) body more test e))))

-- ---- statements

module _ (env : Environment) (n m : ℕ) (h : n ≤ m) where
  left_extends : (c : Completion) → Extends (left c) (left c)
  left_extends c = same (left c)

  mutual
    unfolding execute

    stays : (s : Stmt Target) → Extends (execute env s n) (execute env s m)
    stays Empty = same (pure Normal)
    stays (Evaluate e) = same (evaluate env e >> pure Normal)
    stays (Block body) = stays_all body
    stays (If test first) = then_extends (evaluate env test) _ _ _ (same _)
        (λ a. branch_extends (is_zero a) _ _ _ _ (same (pure Normal)) (stays first))
    stays (IfElse test first otherwise) = then_extends (evaluate env test) _ _ _ (same _)
        (λ a. branch_extends (is_zero a) _ _ _ _ (stays otherwise) (stays first))
    stays (While test turn) = turns_extend n m h _ _ _ _ (stays turn)
    stays (Do turn test) = turns_of_do_extend n m h _ _ _ (stays turn)
    stays (For first test last turn) = then_extends (optional env first) _ _ _ (same _)
        (λ _. turns_extend n m h _ _ _ _ (stays turn))
    stays (Switch on body) = then_extends (evaluate env on) _ _ _ (same _)
        (λ a. then_extends _ _ left left (stays_case a body _ _ (stays_default body)) left_extends)
    stays Break = same (pure Breaks)
    stays Continue = same (pure Continues)
    stays Return = same (pure Returns)

    stays_all : (b : Body Target) → Extends (execute_all env b n) (execute_all env b m)
    stays_all Nil = same (pure Normal)
    stays_all (Cons (Declare declarators) rest) = then_extends (declare env declarators) _ _ _
        (same _) (next_extends _ _ (stays_all rest))
    stays_all (Cons (Statement s) rest) =
        then_extends _ _ _ _ (stays s) (next_extends _ _ (stays_all rest))
    stays_all (Cons _ rest) = stays_all rest

    stays_case : (a : ℤ) (b : Body Target) (otherwise more : Action Completion)
        → Extends otherwise more
        → Extends (execute_case env a b n otherwise) (execute_case env a b m more)
    stays_case a Nil otherwise more e = e
    stays_case a (Cons (CaseLabel label) rest) otherwise more e =
        branch_extends (int_eq a (wrap 32 label)) _ _ _ _ (stays_all rest)
        (stays_case a rest otherwise more e)
    stays_case a (Cons _ rest) otherwise more e = stays_case a rest otherwise more e

    stays_default : (b : Body Target) → Extends (execute_default env b n) (execute_default env b m)
    stays_default Nil = same (pure Normal)
    stays_default (Cons DefaultLabel rest) = stays_all rest
    stays_default (Cons _ rest) = stays_default rest

pub statements_stay : StatementsStay
statements_stay env statement n m h = stays env n m h statement
