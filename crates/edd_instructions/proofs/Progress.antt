-- An instruction that finds its operands has an effect, which keeps what a state keeps and goes one
-- of the instruction's ways.
use Rattle.std.proofs.Common.{◌≡◌, ℕ, zero, suc, ◌+◌, ◌-◌, ◌≤◌, Bool, true, false, cond, ℤ, pos, negsuc, List, [], ◌∷◌, length, Option, Some, None, Result, Ok, Err, refl, sym, subst, ◌⊎◌, inl, inr, arith, length-set}
use Rattle.std.proofs.lemmas.Int.{ints}
use Rattle.std.specs.Prelude.{slice_index_or, slice_set}
use Rattle.std.specs.List.{AllByRecursion}
use Rattle.std.specs.Ordering.{int_eq}
use Rattle.edd_syntax.specs.declared.answer.Trap as trap
use Rattle.edd_syntax.specs.declared.numbers.MethNo.{MethNo}
use Rattle.edd_syntax.specs.AbortMethods.{listed}
use Rattle.edd_syntax.specs.TwosComplement.{store, operate, is_zero}
use Rattle.edd_syntax.specs.DeviceValues.{VariableType, type_at, value_at, AreDeviceValues}
use Rattle.edd_instructions.specs.declared.requests.Request.{Request}
use Rattle.edd_instructions.specs.declared.records.Status.{Status}
use Rattle.edd_instructions.specs.declared.records.Status.TheVariants.{Running, Asking, Ended, Aborted, Trapped}
use Rattle.edd_instructions.specs.declared.instruction.Ask.{Ask}
use Rattle.edd_syntax.specs.Builtins.{numbers_taken}
use Rattle.edd_syntax.proofs.KnownByNumber.{few_numbers}
use Rattle.edd_instructions.specs.declared.instruction.Instruction.{Instruction}
use Rattle.edd_instructions.specs.declared.instruction.Instruction.TheVariants as instruction
use Rattle.edd_instructions.specs.declared.unit.Sort.{Sort}
use Rattle.edd_instructions.specs.declared.unit.Sort.TheVariants.{Attribute, Method}
use Rattle.edd_instructions.specs.declared.unit.Way.{Way}
use Rattle.edd_instructions.specs.Units.{takes, leaves, onward, jump}
use Rattle.edd_instructions.specs.Steps.{State, Environment, Effect, Fits, width_of, go, give, ask_for, on_top, on_two, push_or_trap, ask_with, act_ask, act}
use Rattle.edd_syntax.specs.Elements.{element_variable, element_value}
use Rattle.edd_instructions.proofs.Widths.{value_fits, wrap_fits, compare_fits, minus_fits, not_fits, complement_fits, operate_fits, store_in_range}

-- ---- operands, slots and values

abbrev pub AllFit : Sort → List ℤ → Type 0
AllFit sort xs = AllByRecursion (Fits sort) xs

pub zero_fits : (sort : Sort) → Fits sort (pos 0)
zero_fits Attribute = omega (arith, ints)
zero_fits Method = omega (arith, ints)

less_fits : (sort : Sort) → Fits sort (negsuc 0)
less_fits Attribute = omega (arith, ints)
less_fits Method = omega (arith, ints)

slot_fits : (sort : Sort) (slots : List ℤ) (slot : ℕ) → AllFit sort slots
    → Fits sort (slice_index_or slots slot (pos 0))
slot_fits sort [] slot fit = zero_fits sort
slot_fits sort (x ∷ xs) zero fit = fit.0
slot_fits sort (x ∷ xs) (suc slot) fit = slot_fits sort xs slot fit.1

set_fits : (sort : Sort) (slots : List ℤ) (slot : ℕ) (z : ℤ) → AllFit sort slots → Fits sort z
    → AllFit sort (slice_set slots slot z)
set_fits sort [] slot z fit h = fit
set_fits sort (x ∷ xs) zero z fit h = (h, fit.1)
set_fits sort (x ∷ xs) (suc slot) z fit h = (fit.0, set_fits sort xs slot z fit.1 h)

value_stored : (types : List VariableType) (values : List ℤ) (v : ℕ) (a : ℤ)
    → AreDeviceValues types values
    → AreDeviceValues types (slice_set values v
    (store (type_at types (record { 0 = v })).type (type_at types (record { 0 = v })).size a))
value_stored [] values v a are = nothing values are
  where
    nothing : (values : List ℤ) → AreDeviceValues [] values
        → AreDeviceValues [] (slice_set values v
        (store (type_at [] (record { 0 = v })).type (type_at [] (record { 0 = v })).size a))
    nothing [] h = h
    nothing (y ∷ ys) h = absurd h
value_stored (x ∷ types) [] v a are = are
value_stored (x ∷ types) (y ∷ values) zero a are = (store_in_range x a, are.1)
value_stored (x ∷ types) (y ∷ values) (suc v) a are = (are.0, value_stored types values v a are.1)

-- ---- what an instruction leaves

-- how many operands there are where a way leads, `more` of which are still to come
abbrev pub Arrives : Instruction → ℕ → State → State → (more : ℕ) → Type 0
Arrives i next s t more = (w : Way) × ((onward i next ≡ Some w) ⊎ (jump i ≡ Some w))
    × ((t.place ≡ w.to) × (more + length t.operands ≡ length s.operands - takes i + w.leaves))

abbrev pub Arrived : Instruction → ℕ → State → State → Status → Type 0
Arrived i next s t Running = Arrives i next s t 0
Arrived i next s t (Asking r) = Arrives i next s t 1
Arrived i next s t Ended = Unit {0}
Arrived i next s t Aborted = Unit {0}
Arrived i next s t (Trapped why) = Unit {0}

pub record Kept (env : Environment) (s t : State) : Type 0 where
  pub unit : t.unit ≡ s.unit
  pub slot_count : length t.slots ≡ length s.slots
  pub slots : AllFit s.unit.sort t.slots
  pub values : AreDeviceValues env.types t.values

pub record Goes (env : Environment) (i : Instruction) (next : ℕ) (s : State) (e : Effect) : Type 0
  where
    pub kept : Kept env s e.state
    pub operands : AllFit s.unit.sort e.state.operands
    pub arrived : Arrived i next s e.state e.state.status

abbrev pub Acts : Environment → Instruction → ℕ → State → Option Effect → Type 0
Acts env i next s o = (e : Effect) × (o ≡ Some e) × Goes env i next s e

module _ (env : Environment) (s : State) (running : s.status ≡ Running)
    (slots_fit : AllFit s.unit.sort s.slots) (values_are : AreDeviceValues env.types s.values) where
  same : Kept env s s
  same = record { unit = refl; slot_count = refl; slots = slots_fit; values = values_are }

  keeps : (t : State) → t.unit ≡ s.unit → t.slots ≡ s.slots → t.values ≡ s.values → Kept env s t
  keeps t u sl v = record {
    unit = u;
    slot_count = let e : length t.slots ≡ length s.slots = cc in e;
    slots = subst (λ (l : List ℤ). AllFit s.unit.sort l) (sym sl) slots_fit;
    values = subst (λ (l : List ℤ). AreDeviceValues env.types l) (sym v) values_are;
  }

  top_acts : (i : Instruction) (next : ℕ) (ops : List ℤ) (f : ℤ → List ℤ → Option Effect)
      → AllFit s.unit.sort ops → 1 ≤ length ops
      → ((a : ℤ) (below : List ℤ) → length ops ≡ suc (length below) → Fits s.unit.sort a
      → AllFit s.unit.sort below → Acts env i next s (f a below))
      → Acts env i next s (on_top ops f)
  top_acts i next [] f fit le h = absurd (omega arith)
  top_acts i next (a ∷ below) f fit le h = h a below refl fit.0 fit.1

  two_act : (i : Instruction) (next : ℕ) (ops : List ℤ) (f : ℤ → ℤ → List ℤ → Option Effect)
      → AllFit s.unit.sort ops → 2 ≤ length ops
      → ((a b : ℤ) (below : List ℤ) → length ops ≡ suc (suc (length below)) → Fits s.unit.sort a
      → Fits s.unit.sort b → AllFit s.unit.sort below → Acts env i next s (f a b below))
      → Acts env i next s (on_two ops f)
  two_act i next [] f fit le h = absurd (omega arith)
  two_act i next (b ∷ []) f fit le h = absurd (omega arith)
  two_act i next (b ∷ a ∷ below) f fit le h = h a b below refl fit.1.0 fit.0 fit.1.1

  -- on to the next instruction
  onward_acts : (i : Instruction) (next n : ℕ) (e : Effect) → leaves i ≡ Some n
      → e.state.status ≡ s.status → e.state.place ≡ next → length e.state.operands
      ≡ length s.operands - takes i + n → Kept env s e.state → AllFit s.unit.sort e.state.operands
      → Acts env i next s (Some e)
  onward_acts i next n e l st p o k fit =
      let w : Way = record { to = next; leaves = n } in
      let is : onward i next ≡ Some w = rw l refl in
      let on : e.state.status ≡ Running = cc in (
        e,
        refl,
        record {
          kept = k;
          operands = fit;
          arrived = subst (λ (x : Status). Arrived i next s e.state x) (sym on)
              (w, inl is, (p, omega arith));
        },
      )

  jump_acts : (i : Instruction) (next : ℕ) (e : Effect) (w : Way) → jump i ≡ Some w
      → e.state.status ≡ s.status → e.state.place ≡ w.to → length e.state.operands
      ≡ length s.operands - takes i + w.leaves → Kept env s e.state
      → AllFit s.unit.sort e.state.operands → Acts env i next s (Some e)
  jump_acts i next e w j st p o k fit =
      let on : e.state.status ≡ Running = cc in (
        e,
        refl,
        record {
          kept = k;
          operands = fit;
          arrived = subst (λ (x : Status). Arrived i next s e.state x) (sym on)
              (w, inr j, (p, omega arith));
        },
      )

  -- the machine waits for an answer
  ask_acts : (i : Instruction) (next : ℕ) (ops : List ℤ) (r : Request) → leaves i ≡ Some 1
      → 1 + length ops ≡ length s.operands - takes i + 1 → AllFit s.unit.sort ops
      → Acts env i next s (ask_for s next ops r)
  ask_acts i next ops r l o fit =
      let w : Way = record { to = next; leaves = 1 } in
      let is : onward i next ≡ Some w = rw l refl in (
        _,
        refl,
        record {
          kept = keeps _ refl refl refl;
          operands = fit;
          arrived = (w, inl is, (refl, o));
        },
      )

  -- the run is over
  over_acts : (i : Instruction) (next : ℕ) (e : Effect) → Arrived i next s e.state e.state.status
      → Kept env s e.state → AllFit s.unit.sort e.state.operands → Acts env i next s (Some e)
  over_acts i next e a k fit = (e, refl, record { kept = k; operands = fit; arrived = a })

  go_acts : (i : Instruction) (next n : ℕ) (ops : List ℤ) → leaves i ≡ Some n
      → length ops ≡ length s.operands - takes i + n → AllFit s.unit.sort ops
      → Acts env i next s (go s next ops)
  go_acts i next n ops l o fit = onward_acts i next n _ l refl refl o (keeps _ refl refl refl) fit

  give_acts : (i : Instruction) (next : ℕ) (ops : List ℤ) (r : _) → leaves i ≡ Some 0
      → length ops ≡ length s.operands - takes i + 0 → AllFit s.unit.sort ops
      → Acts env i next s (give s next ops r)
  give_acts i next ops r l o fit = onward_acts i next 0 _ l refl refl o (keeps _ refl refl refl) fit

  push_acts : (i : Instruction) (next : ℕ) (below : List ℤ) (r : Result ℤ trap.Trap)
      → leaves i ≡ Some 1 → suc (length below) ≡ length s.operands - takes i + 1
      → AllFit s.unit.sort below → ((z : ℤ) → r ≡ Ok z → Fits s.unit.sort z)
      → Acts env i next s (push_or_trap s next below r)
  push_acts i next below (Ok z) l o fit h = go_acts i next 1 (z ∷ below) l o (h z refl, fit)
  push_acts i next below (Err why) l o fit h = over_acts i next _ tt (keeps _ refl refl refl) fit

  choice_acts : (i : Instruction) (next : ℕ) (test : Bool) (a b : Option Effect)
      → Acts env i next s a → Acts env i next s b → Acts env i next s (cond test a b)
  choice_acts i next true a b p q = p
  choice_acts i next false a b p q = q

  place_acts : (i : Instruction) (next : ℕ) (test : Bool) (p q : ℕ) (ops : List ℤ)
      → Acts env i next s (go s p ops) → Acts env i next s (go s q ops)
      → Acts env i next s (go s (cond test p q) ops)
  place_acts i next true p q ops h k = h
  place_acts i next false p q ops h k = k

  to_target : (i : Instruction) (next to : ℕ) (ops : List ℤ)
      → jump i ≡ Some (record { to = to; leaves = 0 }) → length ops ≡ length s.operands - takes i
      + 0 → AllFit s.unit.sort ops → Acts env i next s (go s to ops)
  to_target i next to ops j o fit = jump_acts i next _ _ j refl refl o (keeps _ refl refl refl) fit

  request_acts : (request : Ask) (next : ℕ) → AllFit s.unit.sort s.operands
      → takes (instruction.Ask request) ≤ length s.operands
      → Acts env (instruction.Ask request) next s (act_ask request next s)
  request_acts request next fit le =
      by_count (numbers_taken request.kind) refl (few_numbers request.kind)
    where
      by_count : (n : ℕ) → numbers_taken request.kind ≡ n → n ≤ 2
          → Acts env (instruction.Ask request) next s (ask_with n request next s)
      by_count zero is few = ask_acts _ next s.operands _ refl (omega (arith, is)) fit
      by_count (suc zero) is few = top_acts _ next s.operands _ fit
          (omega (arith, le, is))
          (λ a below e fa fb. ask_acts _ next below _ refl (omega (arith, e, is)) fb)
      by_count (suc (suc zero)) is few = two_act _ next s.operands _ fit
          (omega (arith, le, is))
          (λ a b below e fa fb fc. ask_acts _ next below _ refl (omega (arith, e, is)) fc)
      by_count (suc (suc (suc n))) is few = absurd (omega arith)

  -- an instruction that finds its operands has an effect
  pub instruction_acts : (i : Instruction) (next : ℕ) → AllFit s.unit.sort s.operands
      → takes i ≤ length s.operands → Acts env i next s (act env i next s)
  unfolding act
  instruction_acts instruction.End next fit le = over_acts _ next _ tt (keeps _ refl refl refl) fit
  instruction_acts (instruction.Push n) next fit le = go_acts _ next 1 _ refl (omega arith)
      (wrap_fits s.unit.sort (pos n), fit)
  instruction_acts (instruction.Variable v) next fit le = go_acts _ next 1 _ refl (omega arith)
      (wrap_fits s.unit.sort (value_at s.values v), fit)
  instruction_acts (instruction.Store v) next fit le = top_acts _ next s.operands _ fit le
      (λ a below e fa fb.
      let t = type_at env.types v in
      onward_acts _ next 1 _ refl refl refl (omega (arith, e))
      (record {
        unit = refl;
        slot_count = refl;
        slots = slots_fit;
        values = value_stored env.types s.values v.0 a values_are;
      })
      (wrap_fits s.unit.sort (store t.type t.size a), fb))
  instruction_acts (instruction.GetLocal slot) next fit le = go_acts _ next 1 _ refl (omega arith)
      (slot_fits s.unit.sort s.slots slot slots_fit, fit)
  instruction_acts (instruction.SetLocal slot) next fit le = top_acts _ next s.operands _ fit le
      (λ a below e fa fb.
      onward_acts _ next 1 _ refl refl refl (omega (arith, e))
      (record {
        unit = refl;
        slot_count = length-set s.slots slot a;
        slots = set_fits s.unit.sort s.slots slot a slots_fit fa;
        values = values_are;
      }) fit)
  instruction_acts instruction.Pop next fit le = top_acts _ next s.operands _ fit le
      (λ a below e fa fb. go_acts _ next 0 _ refl (omega (arith, e)) fb)
  instruction_acts instruction.Duplicate next fit le = top_acts _ next s.operands _ fit le
      (λ a below e fa fb. go_acts _ next 2 _ refl (omega (arith, e)) (fa, (fa, fb)))
  instruction_acts (instruction.ReadElement array) next fit le = top_acts _ next s.operands _ fit le
      (λ number below e fa fb. push_acts _ next below
      (element_value env.elements (width_of s.unit.sort) s.values array number) refl
      (omega (arith, e)) fb
      (λ z r. value_fits s.unit.sort s.values (element_variable env.elements array number) z r))
  instruction_acts (instruction.Operate op) next fit le = two_act _ next s.operands _ fit le
      (λ a b below e fa fb fc. push_acts _ next below (operate (width_of s.unit.sort) op a b) refl
      (omega (arith, e)) fc (λ z r. operate_fits s.unit.sort op a b z fa fb r))
  instruction_acts (instruction.Compare op) next fit le = two_act _ next s.operands _ fit le
      (λ a b below e fa fb fc. go_acts _ next 1 _ refl (omega (arith, e))
      (compare_fits s.unit.sort op a b, fc))
  instruction_acts instruction.Negate next fit le = top_acts _ next s.operands _ fit le
      (λ a below e fa fb. go_acts _ next 1 _ refl (omega (arith, e)) (minus_fits s.unit.sort a, fb))
  instruction_acts instruction.Not next fit le = top_acts _ next s.operands _ fit le
      (λ a below e fa fb. go_acts _ next 1 _ refl (omega (arith, e)) (not_fits s.unit.sort a, fb))
  instruction_acts instruction.Complement next fit le = top_acts _ next s.operands _ fit le
      (λ a below e fa fb. go_acts _ next 1 _ refl (omega (arith, e))
      (complement_fits s.unit.sort a fa, fb))
  instruction_acts (instruction.Jump to) next fit le = to_target _ next to _ refl (omega arith) fit
  instruction_acts (instruction.JumpIfZero to) next fit le = top_acts _ next s.operands _ fit le
      (λ a below e fa fb. place_acts _ next (is_zero a) to next below
      (to_target _ next to _ refl (omega (arith, e)) fb)
      (go_acts _ next 0 _ refl (omega (arith, e)) fb))
  instruction_acts (instruction.JumpIfNotZero to) next fit le = top_acts _ next s.operands _ fit le
      (λ a below e fa fb. place_acts _ next (is_zero a) next to below
      (go_acts _ next 0 _ refl (omega (arith, e)) fb)
      (to_target _ next to _ refl (omega (arith, e)) fb))
  instruction_acts (instruction.Case label to) next fit le = top_acts _ next s.operands _ fit le
      (λ a below e fa fb. choice_acts _ next (int_eq a label) _ _
      (to_target _ next to _ refl (omega (arith, e)) fb)
      (go_acts _ next 1 _ refl (omega (arith, e)) fit))
  instruction_acts instruction.Number next fit le = top_acts _ next s.operands _ fit le
      (λ a below e fa fb. give_acts _ next _ _ refl (omega (arith, e)) fb)
  instruction_acts (instruction.Ask request) next fit le = request_acts request next fit le
  instruction_acts (instruction.AddAbortMethod m) next fit le =
      by_list (listed s.is_aborting s.abort_methods m)
    where
      by_list : (o : Option (List MethNo)) → Acts env (instruction.AddAbortMethod m) next s
          (elim o [
            | Some methods ↦ go (record s { abort_methods = methods }) next (pos 0 ∷ s.operands)
            | None ↦ go s next (negsuc 0 ∷ s.operands)
          ])
      by_list (Some methods) = onward_acts _ next 1 _ refl refl refl (omega arith)
          (keeps _ refl refl refl) (zero_fits s.unit.sort, fit)
      by_list None = go_acts _ next 1 _ refl (omega arith) (less_fits s.unit.sort, fit)
  instruction_acts instruction.Abort next fit le = over_acts _ next _ tt (keeps _ refl refl refl)
      fit
  instruction_acts _ next fit le =
      give_acts _ next _ _ refl (omega arith) fit
