-- The numbers of a session of a program in C stand for a session.
use Rattle.std.proofs.Common.{◌≡◌, refl, sym, subst, ◌∙◌, ℕ, ℤ, List, Option, Some, None}
use Rattle.std.specs.Prelude.{option_map}
use Rattle.edd_syntax.specs.declared.numbers.MethNo.{MethNo}
use Rattle.edd_syntax.specs.Answers.{Answer, SetFault, answer_fault}
use Rattle.edd_syntax.specs.DeviceValues.{AreDeviceValues, VariableType}
use Rattle.edd_image.specs.Contents.{contents_in}
use Rattle.edd_instructions.specs.declared.records.Status.{Status}
use Rattle.edd_instructions.specs.declared.records.Status.TheVariants as status
use Rattle.edd_instructions.specs.declared.requests.Request.{Request}
use Rattle.edd_instructions.specs.AbortMethods.{answered_in}
use Rattle.edd_instructions.specs.Steps.{State}
use Rattle.edd_machine.specs.Types.{types_in}
use Rattle.edd_port.specs.Refusals.{BadSet, refusal}
use Rattle.edd_port.specs.Runs.{OpensIn, Run, advanced}
use Rattle.edd_embed.specs.declared.sessions.PlainSession.{PlainSession}
use Rattle.edd_embed.specs.Sessions.{run_of, state_in}
use Rattle.edd_promise.specs.Embedded.{Advanced, Answered, ComesPlain, StandsFor, Started}
use Rattle.edd_promise.specs.Sessions as calls
use Rattle.edd_promise.specs.Sessions.{Comes, IsSession, Past, nothing_done, with_answer, with_run}

-- an answer that is not refused is taken for the request that is pending
record IsTaken (types : List VariableType) (st : Status) (answer : Answer) : Type 0 where
  request : Request
  asks : st ≡ status.Asking request
  valid : answer_fault types answer ≡ None

no_fault : (o : Option SetFault) → option_map BadSet o ≡ None → o ≡ None
no_fault None is = refl
no_fault (Some f) is = absurd cc

is_taken : (types : List VariableType) (st : Status) (answer : Answer)
    → refusal types st answer ≡ None → IsTaken types st answer
is_taken types (status.Asking r) answer is = record {
  request = r;
  asks = refl;
  valid = no_fault (answer_fault types answer) is;
}
is_taken types _ answer is = absurd cc

module _ (b : List ℕ) (method : MethNo) (device : List ℤ) where
  -- the run at a state of the image; how many instructions it took is kept by the numbers
  abbrev at : State → Run
  at s = record { image = b; state = s; taken = 0 }

  record Stands (past : Past) (p : PlainSession) (values : List ℤ) : Type 0 where
    first : State
    opens : OpensIn b method device first
    accepted : AreDeviceValues (types_in b) device
    now : State
    comes : Comes (at first) past (at now)
    stands : state_in b p values ≡ Some now

  -- two states for which the same numbers stand are one
  one_state : (o : Option State) (s t : State) → o ≡ Some s → o ≡ Some t → s ≡ t
  one_state o s t is also = let same : Some s ≡ Some t = sym is ∙ also in cc

  come : (past : Past) (p : PlainSession) (values : List ℤ)
      → ComesPlain b method device past p values → Stands past p values
  come past p values (Started _ starts) = record {
    first = starts.state;
    opens = starts.opens;
    accepted = starts.accepted;
    now = starts.state;
    comes = calls.Started;
    stands = starts.stands;
  }
  come past p values (Advanced earlier old _ before _ budget shown comes advances) =
      let then = come earlier old before comes in
      let same : then.now ≡ advances.before =
      one_state (state_in b old before) then.now advances.before then.stands advances.stood in
      let after : State = (advanced (run_of b old advances.before) budget).state in record {
        first = then.first;
        opens = then.opens;
        accepted = then.accepted;
        now = after;
        comes = calls.Advanced earlier (at advances.before) (at after) budget
            (subst (λ (s : State). Comes (at then.first) earlier (at s)) same then.comes)
            (record { image = refl; state = refl });
        stands = advances.stands;
      }
  come past p values (Answered earlier old _ before _ answer comes answers) =
      let then = come earlier old before comes in
      let same : then.now ≡ answers.before =
      one_state (state_in b old before) then.now answers.before then.stands answers.stood in
      let taken = is_taken (types_in b) answers.before.status answer answers.taken_up in
      let after : State = (answered_in (contents_in b) answers.before answer).state in record {
        first = then.first;
        opens = then.opens;
        accepted = then.accepted;
        now = after;
        comes = calls.Answered earlier (at answers.before) (at after)
            (record { request = taken.request; answer = answer })
            (subst (λ (s : State). Comes (at then.first) earlier (at s)) same then.comes)
            (record { asks = taken.asks; valid = taken.valid; fits = answers.fits; is = refl });
        stands = answers.stands;
      }

  pub sessions_stand : (past : Past) (p : PlainSession) (values : List ℤ)
      → ComesPlain b method device past p values
      → (now : Run) × StandsFor b method device past p values now
  sessions_stand past p values comes = let is = come past p values comes in (
    at is.now,
    record {
      session = record {
        first = at is.first;
        image = refl;
        opens = is.opens;
        accepted = is.accepted;
        comes = is.comes;
      };
      stands = is.stands;
    },
  )
