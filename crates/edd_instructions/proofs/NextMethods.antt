-- What follows an abort makes no request, and changes no state that runs or asks.
use Rattle.std.proofs.Common.{◌≡◌, refl, Bool, true, false, List, [], ◌∷◌, Option, Some, None}
use Rattle.edd_syntax.specs.declared.numbers.MethNo.{MethNo}
use Rattle.edd_instructions.specs.declared.requests.Request.{Request}
use Rattle.edd_instructions.specs.declared.records.Status.{Status}
use Rattle.edd_instructions.specs.declared.records.Status.TheVariants.{Running, Asking, Ended, Aborted, Trapped}
use Rattle.edd_instructions.specs.Steps.{State}
use Rattle.edd_instructions.specs.Execution.{AsksNothing}
use Rattle.edd_instructions.specs.AbortMethods.{Start, aborting, start_listed, next_at, next}
use Rattle.edd_instructions.proofs.Followed.{IsLive}

module _ (start_of : MethNo → Option Start) where
  by_start : (rest : List MethNo) (s : State) (r : Request)
      → ((start_listed start_of rest s).status ≡ Asking r → ⊥) → (o : Option Start)
      → State.status (elim o [
        | Some start ↦ aborting start rest s
        | None ↦ start_listed start_of rest s
      ]) ≡ Asking r → ⊥
  by_start rest s r later (Some start) e = cc
  by_start rest s r later None e = later e

  never_asks : (methods : List MethNo) (s : State) (r : Request)
      → (start_listed start_of methods s).status ≡ Asking r → ⊥
  never_asks [] s r e = cc
  never_asks (m ∷ rest) s r e = by_start rest s r (never_asks rest s r) (start_of m) e

  pub next_asks_nothing : AsksNothing (next start_of)
  next_asks_nothing s r = by_status s.status s.is_aborting refl
    where
      by_status : (st : Status) (on : Bool) → s.status ≡ st
          → (next_at start_of st on s).status ≡ Asking r → s.status ≡ Asking r
      by_status Running on is e = e
      by_status (Asking q) on is e = e
      by_status Ended true is e = absurd (never_asks s.abort_methods s r e)
      by_status Ended false is e = e
      by_status Aborted true is e = e
      by_status Aborted false is e = absurd (never_asks s.abort_methods s r e)
      by_status (Trapped why) on is e = e

  pub next_of_live : (s : State) → IsLive s.status → next start_of s ≡ s
  next_of_live s = by_status s.status
    where
      by_status : (st : Status) → IsLive st → next_at start_of st s.is_aborting s ≡ s
      by_status Running l = refl
      by_status (Asking r) l = refl
      by_status Ended l = absurd l
      by_status Aborted l = absurd l
      by_status (Trapped why) l = absurd l
