-- The values that a run of an image leaves are those that its changes leave, in their order.
use Rattle.std.proofs.Common.{◌≡◌, ℕ, zero, suc, ℤ, pos, negsuc, Bool, true, false, List, [], ◌∷◌, ◌++◌, Option, Some, None, Result, Ok, Err, refl, sym, ap, subst, ◌∙◌}
use Rattle.std.specs.Prelude.{⊤, if◌then◌else◌, slice_set}
use Rattle.std.specs.Ordering.{int_eq}
use Rattle.edd_syntax.specs.declared.answer.Trap.{Trap}
use Rattle.edd_syntax.specs.declared.numbers.MethNo.{MethNo}
use Rattle.edd_syntax.specs.AbortMethods.{listed}
use Rattle.edd_syntax.specs.Answers.{Abort, Answer, Change, Go, values_set}
use Rattle.edd_syntax.specs.Builtins.{numbers_taken}
use Rattle.edd_image.specs.Contents.{Contents}
use Rattle.edd_image.specs.Front.{◌>>=◌}
use Rattle.edd_instructions.specs.declared.instruction.Ask.{Ask}
use Rattle.edd_instructions.specs.declared.instruction.Instruction.{Instruction}
use Rattle.edd_instructions.specs.declared.instruction.Instruction.TheVariants as instruction
use Rattle.edd_instructions.specs.declared.records.Status.{Status}
use Rattle.edd_instructions.specs.declared.records.Status.TheVariants as status
use Rattle.edd_instructions.specs.AbortMethods.{Start, aborting, execute_in, next_at, start_in, start_listed}
use Rattle.edd_instructions.specs.Decoding.{instruction_at}
use Rattle.edd_instructions.specs.Execution.{Outcome, answered}
use Rattle.edd_instructions.specs.Reading.{environment_of}
use Rattle.edd_instructions.specs.Steps.{Effect, Environment, State, act, ask_with, go, if_running, on_top, on_two, push_or_trap, step}
use Rattle.edd_promise.proofs.EveryRun.{every_run, follow}

values_joined : (values : List ℤ) (first more : List Change)
    → values_set values (first ++ more) ≡ values_set (values_set values first) more
values_joined values [] more = refl
values_joined values (set ∷ rest) more =
    values_joined (slice_set values set.variable.0 set.value) rest more

-- ---- a step

-- the effect leaves the values that its changes leave
abbrev Keeps : State → Option Effect → Type 0
Keeps s None = ⊤
Keeps s (Some e) = e.state.values ≡ values_set s.values e.changes

module _ (s : State) where
  top : (operands : List ℤ) (f : ℤ → List ℤ → Option Effect)
      → ((a : ℤ) (below : List ℤ) → Keeps s (f a below)) → Keeps s (on_top operands f)
  top [] f keeps = tt
  top (a ∷ below) f keeps = keeps a below

  two : (operands : List ℤ) (f : ℤ → ℤ → List ℤ → Option Effect)
      → ((a b : ℤ) (below : List ℤ) → Keeps s (f a b below)) → Keeps s (on_two operands f)
  two [] f keeps = tt
  two (b ∷ []) f keeps = tt
  two (b ∷ a ∷ below) f keeps = keeps a b below

  pushes : (next : ℕ) (below : List ℤ) (r : Result ℤ Trap) → Keeps s (push_or_trap s next below r)
  pushes next below (Ok z) = refl
  pushes next below (Err why) = refl

  ask_keeps : (numbers : ℕ) (a : Ask) (next : ℕ) → Keeps s (ask_with numbers a next s)
  ask_keeps zero a next = refl
  ask_keeps (suc zero) a next = top s.operands _ (λ x below. refl)
  ask_keeps (suc (suc n)) a next = two s.operands _ (λ x y below. refl)

  either : (t : Bool) (o p : Option Effect) → Keeps s o → Keeps s p → Keeps s (if t then o else p)
  either true o p first second = first
  either false o p first second = second

  lists : (next : ℕ) (o : Option (List MethNo))
      → Keeps s (elim o as (λ _. Option Effect) [
        | Some methods ↦ go (record s { abort_methods = methods }) next (pos 0 ∷ s.operands)
        | None ↦ go s next (negsuc 0 ∷ s.operands)
      ])
  lists next (Some methods) = refl
  lists next None = refl

  act_keeps : (env : Environment) (i : Instruction) (next : ℕ) → Keeps s (act env i next s)
  unfolding act
  act_keeps env instruction.End next = refl
  act_keeps env (instruction.Push n) next = refl
  act_keeps env (instruction.Variable v) next = refl
  act_keeps env (instruction.Store v) next = top s.operands _ (λ a below. refl)
  act_keeps env (instruction.GetLocal slot) next = refl
  act_keeps env (instruction.SetLocal slot) next = top s.operands _ (λ a below. refl)
  act_keeps env instruction.Pop next = top s.operands _ (λ a below. refl)
  act_keeps env instruction.Duplicate next = top s.operands _ (λ a below. refl)
  act_keeps env (instruction.ReadElement array) next =
      top s.operands _ (λ a below. pushes next below _)
  act_keeps env (instruction.Operate op) next = two s.operands _ (λ a b below. pushes next below _)
  act_keeps env (instruction.Compare op) next = two s.operands _ (λ a b below. refl)
  act_keeps env instruction.Negate next = top s.operands _ (λ a below. refl)
  act_keeps env instruction.Not next = top s.operands _ (λ a below. refl)
  act_keeps env instruction.Complement next = top s.operands _ (λ a below. refl)
  act_keeps env (instruction.Jump to) next = refl
  act_keeps env (instruction.JumpIfZero to) next = top s.operands _ (λ a below. refl)
  act_keeps env (instruction.JumpIfNotZero to) next = top s.operands _ (λ a below. refl)
  act_keeps env (instruction.Case label to) next =
      top s.operands _ (λ a below. either (int_eq a label) _ _ (refl) (refl))
  act_keeps env (instruction.Text t) next = refl
  act_keeps env instruction.Number next = top s.operands _ (λ a below. refl)
  act_keeps env (instruction.Item item quals) next = refl
  act_keeps env (instruction.DataConst n) next = refl
  act_keeps env (instruction.DataVar v mask quals) next = refl
  act_keeps env (instruction.Enumerator n text help) next = refl
  act_keeps env (instruction.Response n class text) next = refl
  act_keeps env (instruction.Member name item label help) next = refl
  act_keeps env (instruction.Element n v label help) next = refl
  act_keeps env (instruction.Ask request) next = ask_keeps (numbers_taken request.kind) request next
  act_keeps env instruction.Abort next = refl
  act_keeps env (instruction.AddAbortMethod m) next =
      lists next (listed s.is_aborting s.abort_methods m)

  found_keeps : (env : Environment) (o : Option (Instruction × ℕ))
      → Keeps s (o >>= λ found. act env found.0 found.1 s)
  found_keeps env None = tt
  found_keeps env (Some found) = act_keeps env found.0 found.1

  running_keeps : (st : Status) (o : Option Effect) → Keeps s o → Keeps s (if_running st o)
  running_keeps status.Running o keeps = keeps
  running_keeps _ o keeps = tt

  step_keeps : (env : Environment) → Keeps s (step env s)
  unfolding step
  step_keeps env = running_keeps s.status _ (found_keeps env (instruction_at s.unit.code s.place))

answer_keeps : (s : State) (a : Answer)
    → (answered s a).state.values ≡ values_set s.values (answered s a).changes
answer_keeps s (Go code sets) = refl
answer_keeps s Abort = refl

-- ---- what follows

module _ (c : Contents) where
  listed_keeps : (methods : List MethNo) (s : State)
      → (start_listed (start_in c) methods s).values ≡ s.values
  listed_keeps [] s = refl
  listed_keeps (m ∷ rest) s = by (listed_keeps rest s) (start_in c m)
    where
      by : (start_listed (start_in c) rest s).values ≡ s.values → (o : Option Start)
          → (elim o as (λ _. State) [
            | Some start ↦ aborting start rest s
            | None ↦ start_listed (start_in c) rest s
          ]).values ≡ s.values
      by later None = later
      by later (Some start) = refl

  next_keeps : (st : Status) (is : Bool) (s : State)
      → (next_at (start_in c) st is s).values ≡ s.values
  next_keeps status.Ended true s = listed_keeps s.abort_methods s
  next_keeps status.Aborted false s = listed_keeps s.abort_methods s
  next_keeps status.Ended false s = refl
  next_keeps status.Aborted true s = refl
  next_keeps status.Running is s = refl
  next_keeps (status.Asking r) is s = refl
  next_keeps (status.Trapped why) is s = refl

  follow_keeps : (s : State) → (follow c s).values ≡ s.values
  follow_keeps s = next_keeps s.status s.is_aborting s

  -- ---- a run

  abbrev Left : ℕ → State → List Answer → Outcome → Type 0
  Left n s answers o = o.state.values ≡ values_set s.values o.changes

  -- after one effect, what follows it, and the rest
  behind : (s : State) (e : Effect) (o : Outcome)
      → e.state.values ≡ values_set s.values e.changes
      → o.state.values ≡ values_set (follow c e.state).values o.changes
      → o.state.values ≡ values_set s.values (e.changes ++ o.changes)
  behind s e o first rest =
      rest
      ∙ ap (λ (values : List ℤ). values_set values o.changes) (follow_keeps e.state ∙ first)
      ∙ sym (values_joined s.values e.changes o.changes)

  pub values_left : (n : ℕ) (s : State) (answers : List Answer)
      → Left n s answers (execute_in c n s answers)
  values_left = every_run c Left (record {
    rests = λ n s answers ending rests. refl;
    steps = λ n s answers e o running is rest. behind s e o (subst (Keeps s) is (step_keeps s (environment_of c))) rest;
    answers = λ n s r a rest o asks fine left. behind s (answered s a) o (answer_keeps s a) left;
  })
