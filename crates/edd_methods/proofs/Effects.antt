-- Parts of a run that results in the outcome of a statement.
use Rattle.std.proofs.Common.{◌≡◌, refl, subst, ◌∙◌, ℕ, suc, ◌≤◌, Bool, true, false, ℤ, pos, List, [], ◌∷◌, arith, Option}
use Rattle.std.specs.Prelude.{if◌then◌else◌}
use Rattle.edd_syntax.specs.declared.numbers.StrNo.{StrNo}
use Rattle.edd_syntax.specs.Words.{Words}
use Rattle.edd_syntax.specs.MethodState as source
use Rattle.edd_syntax.specs.MethodState.{State, Done, Stopped, Action}
use Rattle.edd_syntax.specs.Execution.{Completion, Normal, Breaks, Continues, Returns, next, next_turn, left}
use Rattle.edd_instructions.specs.declared.instruction.Instruction.{Instruction}
use Rattle.edd_instructions.specs.Steps.{Environment, act, go}
use Rattle.edd_code.proofs.BlockPlaces.{stand}
use Rattle.edd_code.specs.BlockEffects.{Outcome, Goes, Stops, Stuck}
use Rattle.edd_code.specs.Reports.{at}
use Rattle.edd_code.specs.MethodEffects.{Halted, CanBeTaken, Comes}
use Rattle.edd_methods.specs.StatementEffects.{one_operand, no_operand, OneOperand, NoOperand}
use Rattle.edd_methods.specs.Following.{Exits, least, Does}
use Rattle.edd_code.proofs.MethodSteps.{Leads}
use Rattle.edd_code.proofs.MethodRuns.{IsRead, goes_to}

-- ---- numbers of steps

least_suc : (n k : ℕ) (o : source.Outcome Completion) → least (suc n) k o ≤ suc (least n k o)
least_suc n k (Done Normal s) = omega arith
least_suc n k (Done _ s) = omega arith
least_suc n k (Stopped why s) = omega arith

least_le : (m n k : ℕ) (o : source.Outcome Completion) → m ≤ n → least m k o ≤ least n k o
least_le m n k (Done Returns s) h = h
least_le m n k (Done _ s) h = omega arith
least_le m n k (Stopped why s) h = h

module _ (text : StrNo → Option Words) (env : Environment) (code : List ℕ) where
  pub fewer : (m n : ℕ) {p : ℕ} {operands : List ℤ} {to : Exits} {s : State}
      (o : source.Outcome Completion) → m ≤ n → Does text env code n p operands to s o
      → Does text env code m p operands to s o
  fewer m n o h d = record {
    answers = d.answers;
    comes = λ k. let a = d.comes
        k in (a.0, omega (arith, a.1, least_le m n k o h), a.2);
  }

  -- ---- steps

  pub here : (n : ℕ) (to : Exits) (s : State) → CanBeTaken env s.answers
      → Does text env code n to.end [] to s (Done Normal s)
  here n to s valid = record { answers = valid; comes = λ k. (k, omega arith, refl) }

  -- a step in front, which counts for a turn
  pub turn_step : (n p q : ℕ) {operands : List ℤ} (left : List ℤ) (to : Exits) (s t : State)
      (o : source.Outcome Completion) → Leads text env code p q operands left s t
      → Does text env code n q left to t o → Does text env code (suc n) p operands to s o
  turn_step n p q left to s t o leads d =
      record {
        answers = d.answers;
        comes = λ k. let b = d.comes
            k in (suc b.0, omega (arith, b.1, least_suc n k o), leads b.0 ∙ b.2);
      }

  pub after_step : {n p q : ℕ} {operands left : List ℤ} {to : Exits} {s t : State}
      {o : source.Outcome Completion} → Leads text env code p q operands left s t
      → Does text env code n q left to t o → Does text env code n p operands to s o
  after_step {n} {p} {q} {operands} {left} {to} {s} {t} {o} leads d =
      fewer n (suc n) o (omega arith) (turn_step n p q left to s t o leads d)

  -- a test goes on at one of two places
  pub test_does : (b : Bool) (n p next there here : ℕ) (operands on_there on_here : List ℤ)
      (to : Exits) (s : State) (i : Instruction) (f g : Action Completion)
      → IsRead code (stand p i next)
      → act env i next (at code p operands s)
      ≡ (if b then go (at code p operands s) there on_there else go (at code p operands s) here
      on_here)
      → Does text env code n there on_there to s (f s)
      → Does text env code n here on_here to s (g s)
      → Does text env code n p operands to s
      ((elim b as (λ _. Action Completion) [ true ↦ f | false ↦ g ]) s)
  test_does true n p next there here operands on_there on_here to s i f g stands acts one two =
      after_step (goes_to text env code p next there operands on_there s i stands acts) one
  test_does false n p next there here operands on_there on_here to s i f g stands acts one two =
      after_step (goes_to text env code p next here operands on_here s i stands acts) two

  -- the code ends where its last part does
  pub ends_at : (n : ℕ) {p : ℕ} {operands : List ℤ} (q r out back : ℕ) (s : State)
      {o : source.Outcome Completion} → q ≡ r
      → Does text env code n p operands (record { end = q; out = out; back = back }) s o
      → Does text env code n p operands (record { end = r; out = out; back = back }) s o
  ends_at n {p} {operands} q r out back s {o} same d =
      subst (λ (x : ℕ). Does text env code n p operands (record { end = x; out = out; back = back })
      s o) same d

  pub begins_at : (n : ℕ) {p : ℕ} (q : ℕ) {operands : List ℤ} {to : Exits} (s : State)
      {o : source.Outcome Completion} → p ≡ q → Does text env code n p operands to s o
      → Does text env code n q operands to s o
  begins_at n q {operands} {to} s {o} same d =
      subst (λ (x : ℕ). Does text env code n x operands to s o) same d

  -- ---- a block, and what follows it

  pub value_does : (n : ℕ) {p q : ℕ} (to : Exits) {s : State} (o : Outcome State Halted) (f : ℤ
      → Action Completion) → OneOperand o → Comes text env code p q [] s o → ((a : ℤ) (t : State)
      → CanBeTaken env t.answers → Does text env code n q (a ∷ []) to t (f a t))
      → Does text env code n p [] to s (source.and_then (one_operand s o) f)
  value_does n to (Goes [] t) f is comes rest = absurd is
  value_does n to (Goes (a ∷ []) t) f is comes rest =
      let d = rest a t comes.0 in
      record {
        answers = d.answers;
        comes = λ k. let two = d.comes k in let one = comes.1
            two.0 in (one.0, omega (arith, one.1, two.1), one.2 ∙ two.2);
      }
  value_does n to (Goes (a ∷ b ∷ below) t) f is comes rest = absurd is
  value_does n to (Stops x) f is comes rest = record { answers = tt; comes = λ k. comes n }
  value_does n to Stuck f is comes rest = absurd is

  pub step_does : (n : ℕ) {p q : ℕ} (to : Exits) {s : State} (o : Outcome State Halted) (f : ℤ
      → Action Completion) → NoOperand o → Comes text env code p q [] s o
      → ((t : State) → CanBeTaken env t.answers → Does text env code n q [] to t (f (pos 1) t))
      → Does text env code n p [] to s (source.and_then (no_operand s o) f)
  step_does n to (Goes [] t) f is comes rest =
      let d = rest t comes.0 in
      record {
        answers = d.answers;
        comes = λ k. let two = d.comes k in let one = comes.1
            two.0 in (one.0, omega (arith, one.1, two.1), one.2 ∙ two.2);
      }
  step_does n to (Goes (a ∷ below) t) f is comes rest = absurd is
  step_does n to (Stops x) f is comes rest = record { answers = tt; comes = λ k. comes n }
  step_does n to Stuck f is comes rest = absurd is

  -- ---- a statement, and what follows it

  -- where the first is done, the rest follows from its end
  pub then_does : {n p : ℕ} (m : ℕ) {operands : List ℤ} (to : Exits) {s : State}
      (o : source.Outcome Completion) (rest : Action Completion)
      → Does text env code n p operands (record { end = m; out = to.out; back = to.back }) s o
      → ((t : State) → CanBeTaken env t.answers → Does text env code n m [] to t (rest t))
      → Does text env code n p operands to s (source.and_then o (next rest))
  then_does m to (Done Normal t) rest d h =
      let e = h t d.answers in
      record {
        answers = e.answers;
        comes = λ k. let two = e.comes k in let one = d.comes
            two.0 in (one.0, omega (arith, one.1, two.1), one.2 ∙ two.2);
      }
  then_does m to (Done Breaks t) rest d h =
      record { answers = d.answers; comes = d.comes }
  then_does m to (Done Continues t) rest d h =
      record { answers = d.answers; comes = d.comes }
  then_does m to (Done Returns t) rest d h =
      record { answers = d.answers; comes = d.comes }
  then_does m to (Stopped why t) rest d h =
      record { answers = d.answers; comes = d.comes }

  -- a jump after a statement
  pub then_jumps : {n p : ℕ} (m q out back : ℕ) {operands : List ℤ} {s : State}
      (o : source.Outcome Completion) → ((t : State) → Leads text env code m q [] [] t t)
      → Does text env code n p operands (record { end = m; out = out; back = back }) s o
      → Does text env code n p operands (record { end = q; out = out; back = back }) s o
  then_jumps m q out back (Done Normal t) leads d =
      record {
        answers = d.answers;
        comes = λ k. let one = d.comes
            (suc k) in (one.0, omega (arith, one.1), one.2 ∙ leads t k);
      }
  then_jumps m q out back (Done Breaks t) leads d =
      record { answers = d.answers; comes = d.comes }
  then_jumps m q out back (Done Continues t) leads d =
      record { answers = d.answers; comes = d.comes }
  then_jumps m q out back (Done Returns t) leads d =
      record { answers = d.answers; comes = d.comes }
  then_jumps m q out back (Stopped why t) leads d =
      record { answers = d.answers; comes = d.comes }

  -- The body of a loop: a jump after it leads back, where more of the loop follows, and one at
  -- `out` leads to the end.
  pub turn_does : (n : ℕ) {p : ℕ} (m out back : ℕ) (to : Exits) {s : State} (o : source.Outcome
      Completion) (more : Action Completion) → ((t : State) → Leads text env code m back [] [] t t)
      → ((t : State) → Leads text env code out to.end [] [] t t)
      → Does text env code (suc n) p [] (record { end = m; out = out; back = back }) s o
      → ((t : State) → CanBeTaken env t.answers → Does text env code n back [] to t (more t))
      → Does text env code (suc n) p [] to s (source.and_then o (next_turn more))
  turn_does n m out back to (Done Normal t) more turns leaves d h =
      let e = h t d.answers in
      record {
        answers = e.answers;
        comes = λ k. let two = e.comes k in let one =
            d.comes (suc two.0) in (
              one.0,
              omega (arith, one.1, two.1, least_suc n k (more t)),
              one.2 ∙ turns t two.0 ∙ two.2,
            );
      }
  turn_does n m out back to (Done Continues t) more turns leaves d h =
      let e = h t d.answers in
      record {
        answers = e.answers;
        comes = λ k. let two = e.comes k in let one = d.comes
            two.0 in (one.0, omega (arith, one.1, two.1, least_suc n k (more t)), one.2 ∙ two.2);
      }
  turn_does n m out back to (Done Breaks t) more turns leaves d h =
      record {
        answers = d.answers;
        comes = λ k. let one = d.comes
            (suc k) in (one.0, omega (arith, one.1), one.2 ∙ leaves t k);
      }
  turn_does n m out back to (Done Returns t) more turns leaves d h =
      record { answers = d.answers; comes = d.comes }
  turn_does n m out back to (Stopped why t) more turns leaves d h =
      record { answers = d.answers; comes = d.comes }

  -- the statements of a switch: a jump after them leads to `out`, and one there to the end
  pub left_does : {n p : ℕ} (m out : ℕ) {operands : List ℤ} (to : Exits) {s : State}
      (o : source.Outcome Completion) → ((t : State) → Leads text env code m out [] [] t t)
      → ((t : State) → Leads text env code out to.end [] [] t t)
      → Does text env code n p operands (record { end = m; out = out; back = to.back }) s o
      → Does text env code n p operands to s (source.and_then o left)
  left_does m out to (Done Normal t) ends leaves d =
      record {
        answers = d.answers;
        comes = λ k. let one = d.comes (suc (suc k)) in (
          one.0,
          omega (arith, one.1),
          one.2 ∙ ends t (suc k) ∙ leaves t k,
        );
      }
  left_does m out to (Done Breaks t) ends leaves d =
      record {
        answers = d.answers;
        comes = λ k. let one = d.comes
            (suc k) in (one.0, omega (arith, one.1), one.2 ∙ leaves t k);
      }
  left_does m out to (Done Continues t) ends leaves d =
      record { answers = d.answers; comes = d.comes }
  left_does m out to (Done Returns t) ends leaves d =
      record { answers = d.answers; comes = d.comes }
  left_does m out to (Stopped why t) ends leaves d =
      record { answers = d.answers; comes = d.comes }
