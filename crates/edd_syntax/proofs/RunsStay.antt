-- A whole run that isn't out of turns stays the same with more turns.
use Rattle.std.proofs.Common.{◌≡◌, ◌≢◌, refl, ap, ◌∙◌, ℕ, ◌≤◌, List, [], ◌∷◌}
use Rattle.edd_syntax.specs.declared.numbers.MethNo.{MethNo}
use Rattle.edd_syntax.specs.Device.{environment}
use Rattle.edd_syntax.specs.Item.{Description}
use Rattle.edd_syntax.specs.Reference.{Target}
use Rattle.edd_syntax.specs.Statement.{Block, slots_in}
use Rattle.edd_syntax.specs.MethodState.{Outcome, Done, Stopped, Aborted, OutOfTurns, stop}
use Rattle.edd_syntax.specs.Execution as ending
use Rattle.edd_syntax.specs.Execution.{Completion, ended, execute, execute_all, run_body, run_listed, after_body, run, body_of, opening, aborting}
use Rattle.edd_syntax.specs.MoreTurns.{IsOver, Extends, BodiesStay, RunsStay}
use Rattle.edd_syntax.proofs.TurnLaws.{same, and_then_extends, statements_stay}

is_over : (o : Outcome Completion) → (ended o).ending ≢ ending.OutOfTurns → IsOver o
is_over (Done x s) h = tt
is_over (Stopped OutOfTurns s) h = absurd (h refl)
is_over (Stopped _ s) h = tt

pub bodies_stay : BodiesStay
unfolding run_body execute
bodies_stay env body n m h s over =
    ap ended (statements_stay env (Block body) n m h s (is_over (execute_all env body n s) over))

-- ---- abort methods

module _ (unit : Description Target) (n m : ℕ) (h : n ≤ m) where
  body_stays : (method : MethNo) → Extends (execute_all (environment unit) (body_of unit method) n)
      (execute_all (environment unit) (body_of unit method) m)
  unfolding execute
  body_stays method = statements_stay (environment unit) (Block (body_of unit method)) n m h

  listed_stay : (methods : List MethNo) → Extends (run_listed n unit methods)
      (run_listed m unit methods)
  unfolding run_listed
  listed_stay [] = same (stop Aborted)
  listed_stay (method ∷ rest) = λ s over.
      let start = aborting (slots_in (body_of unit method)) rest s in
      and_then_extends (execute_all (environment unit) (body_of unit method) n start)
      (execute_all (environment unit) (body_of unit method) m start)
      (λ completion. run_listed n unit rest) (λ completion. run_listed m unit rest)
      (body_stays method start) (λ completion. listed_stay rest) over

  after_body_stays : (o o' : Outcome Completion) → (IsOver o → o' ≡ o)
      → IsOver (after_body n unit o) → after_body m unit o' ≡ after_body n unit o
  after_body_stays (Done x s) o' same over = ap (after_body m unit) (same tt)
  after_body_stays (Stopped Aborted s) o' same over =
      ap (after_body m unit) (same tt) ∙ listed_stay s.abort_methods s over
  after_body_stays (Stopped OutOfTurns s) o' same over = absurd over
  after_body_stays (Stopped _ s) o' same over = ap (after_body m unit) (same tt)

pub runs_stay : RunsStay
unfolding run
runs_stay unit method n m h values answers over =
    let body = body_of unit method in
    let start = opening (slots_in body) values answers in
    ap ended (after_body_stays unit n m h (execute_all (environment unit) body n start)
    (execute_all (environment unit) body m start) (body_stays unit n m h method start)
    (is_over (after_body n unit (execute_all (environment unit) body n start)) over))
