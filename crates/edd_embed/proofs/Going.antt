-- A machine that was answered.
use Rattle.std.proofs.Common.{◌≡◌, ◌∙◌, ℕ, ℤ, List, Option, Some, None, sym, ap, subst}
use Rattle.edd_syntax.specs.Answers.{Answer, answer_fault, values_set}
use Rattle.edd_image.specs.Contents.{contents_in}
use Rattle.edd_instructions.specs.declared.requests.Request.{Request}
use Rattle.edd_instructions.specs.declared.records.Status.TheVariants.{Asking}
use Rattle.edd_instructions.specs.AbortMethods.{answered_in}
use Rattle.edd_instructions.specs.Steps.{State}
use Rattle.edd_instructions.specs.Validity.{IsValid}
use Rattle.edd_machine.specs.declared.machine.Machine.{Machine}
use Rattle.edd_machine.specs.Running.{IsMachine, state_of}
use Rattle.edd_machine.specs.Types.{types_in}
use Rattle.edd_port.specs.Refusals.{CodeFits, code_of, refusal, sets_of, without_sets}
use Rattle.edd_port.proofs.Accepted.{ready, sets_first, taken}
use Rattle.edd_embed.specs.declared.sessions.PlainSession.{PlainSession}
use Rattle.edd_embed.specs.Sessions.{Answers, state_in}
use Rattle.edd_embed.proofs.Standing.{run_of_machine, session_of_machine}

module _ (b : List ℕ) (m n : Machine) (values after : List ℤ) (a : Answer)
    (is : IsMachine b m values) (accepted : refusal (types_in b) m.status a ≡ None)
    (fits : CodeFits a) (made : after ≡ values_set values (sets_of a)) (code : Option ℤ) (coded : code ≡ code_of a)
    (goes : (vs : List ℤ) → state_of b n vs
    ≡ (answered_in (contents_in b) (state_of b m vs) (without_sets code)).state)
    (keeps : (vs : List ℤ) (r : Request) → IsMachine b m vs → m.status ≡ Asking r
    → IsMachine b n vs) where
  asks : (r : Request) × (m.status ≡ Asking r) × (answer_fault (types_in b) a ≡ None)
  asks = taken (types_in b) m.status a accepted

  -- the machine over the values with the sets made
  pub answered_is : IsMachine b n after
  answered_is = keeps after asks.0
      (subst (λ (vs : List ℤ). IsMachine b m vs) (sym made) (ready b m values a is accepted fits))
      asks.1

  -- is at the state that the answer leads to
  pub answered_state : state_of b n after
      ≡ (answered_in (contents_in b) (state_of b m values) a).state
  answered_state =
      goes after
      ∙ ap (λ (vs : List ℤ). (answered_in (contents_in b) (state_of b m vs)
      (without_sets code)).state) made
      ∙ ap (λ (z : Option ℤ). (answered_in (contents_in b)
      (state_of b m (values_set values (sets_of a))) (without_sets z)).state) coded
      ∙ sets_first (contents_in b) (state_of b m values) a

  -- a session in which it was kept is the answered one
  pub answers : (old new : PlainSession) → IsValid b
      → state_in b old values ≡ Some (state_of b m values)
      → state_in b new after ≡ Some (state_of b n after) → new.taken ≡ old.taken
      → Answers b old values a new after
  answers old new valid stood stands counted = record {
    before = state_of b m values;
    stood = stood;
    run = run_of_machine b m values valid is;
    taken_up = accepted;
    fits = fits;
    stands = stands ∙ ap (λ (s : State). Some s) answered_state;
    taken = counted;
    is = session_of_machine b n after new valid answered_is stands;
  }
