-- Which requests a run makes that no answer meets.
use Rattle.std.proofs.Common.{◌≡◌, ℕ, zero, suc, ℤ, pos, negsuc, Bool, true, false, List, [], ◌∷◌, ◌++◌, Option, Some, None, refl, sym, ap, subst, ◌∙◌, append-nil}
use Rattle.std.specs.Prelude.{option_map, Result, Ok, Err, if◌then◌else◌, IfSome}
use Rattle.std.specs.Ordering.{int_eq}
use Rattle.edd_syntax.specs.declared.answer.Trap.{Trap}
use Rattle.edd_instructions.specs.declared.instruction.Ask.{Ask}
use Rattle.edd_syntax.specs.Builtins.{numbers_taken}
use Rattle.edd_instructions.specs.declared.instruction.Instruction.{Instruction}
use Rattle.edd_instructions.specs.declared.instruction.Instruction.TheVariants as instruction
use Rattle.edd_instructions.specs.declared.requests.Request.{Request}
use Rattle.edd_instructions.specs.declared.records.Status.{Status}
use Rattle.edd_instructions.specs.declared.records.Status.TheVariants as status
use Rattle.edd_image.specs.Front.{◌>>=◌}
use Rattle.edd_instructions.specs.Decoding.{instruction_at}
use Rattle.edd_instructions.specs.AbortMethods.{Start, execute_in, follow_with, next, start_in, step_in}
use Rattle.edd_image.specs.Contents.{Contents}
use Rattle.edd_instructions.specs.Reading.{environment_of}
use Rattle.edd_instructions.proofs.Followed.{IsLive}
use Rattle.edd_instructions.proofs.NextMethods.{next_asks_nothing, next_of_live}
use Rattle.edd_syntax.specs.AbortMethods.{listed}
use Rattle.edd_syntax.specs.declared.numbers.MethNo.{MethNo}
use Rattle.edd_instructions.specs.Execution.{Outcome, request_in}
use Rattle.edd_instructions.specs.Steps.{State, Environment, Effect, go, on_top, on_two, push_or_trap, ask_with, act_ask, act, if_running, step}
use Rattle.edd_port.specs.Drives.{standing}
use Rattle.edd_port.proofs.Cuts.{by_running}
use Rattle.edd_port.proofs.Outcomes.{without_steps, at_rest, steps_on, gets_stuck}

-- ---- one step

-- what the effect emits is the request that comes after it
abbrev Emits : Option Effect → Type 0
Emits o = IfSome o (λ e. request_in e.emitted ≡ standing e.state.status)

top : (operands : List ℤ) (f : ℤ → List ℤ → Option Effect)
    → ((a : ℤ) (below : List ℤ) → Emits (f a below)) → Emits (on_top operands f)
top [] f h = tt
top (a ∷ below) f h = h a below

two : (operands : List ℤ) (f : ℤ → ℤ → List ℤ → Option Effect)
    → ((a b : ℤ) (below : List ℤ) → Emits (f a b below)) → Emits (on_two operands f)
two [] f h = tt
two (b ∷ []) f h = tt
two (b ∷ a ∷ below) f h = h a b below

either : (test : Bool) (x y : Option Effect) → Emits x → Emits y → Emits (if test then x else y)
either true x y h k = h
either false x y h k = k

module _ (s : State) (runs : s.status ≡ status.Running) where
  -- no request is pending in a state that runs
  none : [] ≡ standing s.status
  none = ap standing (sym runs)

  pushes : (next : ℕ) (below : List ℤ) (r : Result ℤ Trap) → Emits (push_or_trap s next below r)
  pushes next below (Ok z) = none
  pushes next below (Err why) = refl

  asks : (request : Ask) (next : ℕ) → Emits (act_ask request next s)
  asks request next = by_count (numbers_taken request.kind)
    where
      by_count : (n : ℕ) → Emits (ask_with n request next s)
      by_count zero = refl
      by_count (suc zero) = top s.operands _ (λ x below. refl)
      by_count (suc (suc n)) = two s.operands _ (λ x y below. refl)

  adds : (o : Option (List MethNo)) (next : ℕ) → Emits (elim o [
    | Some methods ↦ go (record s { abort_methods = methods }) next (pos 0 ∷ s.operands)
    | None ↦ go s next (negsuc 0 ∷ s.operands)
  ])
  adds (Some methods) next = none
  adds None next = none

  acts : (env : Environment) (i : Instruction) (next : ℕ) → Emits (act env i next s)
  unfolding act
  acts env instruction.End next = refl
  acts env (instruction.Store v) next = top s.operands _ (λ a below. none)
  acts env (instruction.SetLocal slot) next = top s.operands _ (λ a below. none)
  acts env instruction.Pop next = top s.operands _ (λ a below. none)
  acts env instruction.Duplicate next = top s.operands _ (λ a below. none)
  acts env (instruction.ReadElement array) next =
      top s.operands _ (λ number below. pushes next below _)
  acts env (instruction.Operate op) next = two s.operands _ (λ a b below. pushes next below _)
  acts env (instruction.Compare op) next = two s.operands _ (λ a b below. none)
  acts env instruction.Negate next = top s.operands _ (λ a below. none)
  acts env instruction.Not next = top s.operands _ (λ a below. none)
  acts env instruction.Complement next = top s.operands _ (λ a below. none)
  acts env (instruction.JumpIfZero to) next = top s.operands _ (λ a below. none)
  acts env (instruction.JumpIfNotZero to) next = top s.operands _ (λ a below. none)
  acts env (instruction.Case label to) next =
      top s.operands _ (λ a below. either (int_eq a label) (go s to below) (go s next s.operands)
      none none)
  acts env instruction.Number next = top s.operands _ (λ a below. none)
  acts env (instruction.Ask request) next = asks request next
  acts env instruction.Abort next = refl
  acts env (instruction.AddAbortMethod m) next = adds (listed s.is_aborting s.abort_methods m) next
  acts env _ next = none

  found : (env : Environment) (o : Option (Instruction × ℕ)) → Emits (o >>= λ x. act env x.0 x.1 s)
  found env None = tt
  found env (Some x) = acts env x.0 x.1

  emits : (env : Environment) → Emits (step env s)
  unfolding step
  emits env = subst (λ (st : Status). Emits
      (if_running st (instruction_at s.unit.code s.place >>= λ x. act env x.0 x.1 s))) (sym runs)
      (found env (instruction_at s.unit.code s.place))

-- ---- what follows

none_standing : (st : Status) → ((r : Request) → st ≡ status.Asking r → ⊥) → standing st ≡ []
none_standing (status.Asking r) never = absurd (never r refl)
none_standing _ never = refl

-- no request is pending where what follows leads that was not pending before
pub follows_standing : (start_of : MethNo → Option Start) (s : State)
    → standing (next start_of s).status ≡ standing s.status
follows_standing start_of s = by_status s.status refl
  where
    quiet : (r : Request) → (next start_of s).status ≡ status.Asking r → s.status ≡ status.Asking r
    quiet r e = next_asks_nothing start_of s r e

    live : IsLive s.status → standing (next start_of s).status ≡ standing s.status
    live l = ap (λ (t : State). standing t.status) (next_of_live start_of s l)

    still : (st : Status) → s.status ≡ st → ((r : Request) → st ≡ status.Asking r → ⊥)
        → standing (next start_of s).status ≡ standing s.status
    still st is never = none_standing (next start_of s).status (λ r e. never r (sym is ∙ quiet r e))
        ∙ sym (ap standing is ∙ none_standing st never)

    by_status : (st : Status) → s.status ≡ st
        → standing (next start_of s).status ≡ standing s.status
    by_status status.Ended is = still status.Ended is (λ r e. cc)
    by_status status.Aborted is = still status.Aborted is (λ r e. cc)
    by_status (status.Trapped why) is = still (status.Trapped why) is (λ r e. cc)
    by_status _ is = live (subst IsLive (sym is) tt)

followed_emits : (start_of : MethNo → Option Start) (x : Option Effect) → Emits x
    → Emits (option_map (follow_with (next start_of)) x)
followed_emits start_of None h = tt
followed_emits start_of (Some e) h = h ∙ sym (follows_standing start_of e.state)

pub emits_what_stands : (c : Contents) (s : State) → s.status ≡ status.Running → (e : Effect)
    → step_in c s ≡ Some e → request_in e.emitted ≡ standing e.state.status
emits_what_stands c s runs e is = subst (λ (o : Option Effect). Emits o) is
    (followed_emits (start_in c) (step (environment_of c) s) (emits s runs (environment_of c)))

-- ---- a run without answers

-- the request pending at the start and those that are made are the one pending at the end
abbrev Leaves : State → Outcome → Type 0
Leaves s o = standing s.status ++ o.requests ≡ standing o.state.status

pub one_stands : (c : Contents) (n : ℕ) (s : State) → Leaves s (execute_in c n s [])
one_stands c zero s = subst (λ (o : Outcome). Leaves s o) (sym (without_steps c s))
    (append-nil (standing s.status))
one_stands c (suc n) s =
    by_running {P = λ (st : Status). s.status ≡ st → Leaves s (execute_in c (suc n) s [])} s.status
    (λ runs. by_step (λ t. one_stands c n t) runs (step_in c s) refl)
    (λ st never is. subst (λ (o : Outcome). Leaves s o)
    (sym (at_rest c (suc n) s (λ e. never (sym is ∙ e)))) (append-nil (standing s.status)))
    refl
  where
    by_step : ((t : State) → Leaves t (execute_in c n t [])) → s.status ≡ status.Running
        → (x : Option Effect) → step_in c s ≡ x → Leaves s (execute_in c (suc n) s [])
    by_step more runs None is = subst (λ (o : Outcome). Leaves s o)
        (sym (gets_stuck c n s runs is)) (append-nil (standing s.status))
    by_step more runs (Some e) is =
        let o : Outcome = execute_in c n e.state [] in
        let first : request_in e.emitted ≡ standing e.state.status =
        emits_what_stands c s runs e is in
        subst (λ (x : Outcome). Leaves s x) (sym (steps_on c n s [] e runs is))
        (ap (λ (st : Status). standing st ++ (request_in e.emitted ++ o.requests)) runs
        ∙ ap (λ (rs : List Request). rs ++ o.requests) first ∙ more e.state)
