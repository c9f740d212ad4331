-- A running state of a valid unit has a step, to a state again; and so a valid unit opens.
use Rattle.std.proofs.Common.{◌≡◌, ℤ, ℕ, zero, suc, ◌+◌, ◌-◌, ◌<◌, ◌≤◌, true, nat_eq, nat_lt, pos, List, [], ◌∷◌, length, Option, Some, None, refl, sym, ap, subst, ◌∙◌, ◌⊎◌, inl, inr, arith}
use Rattle.std.specs.Prelude.{IsTrue, replicate}
use Rattle.std.specs.List.{AllByRecursion}
use Rattle.std.proofs.lemmas.Bool.{or_left, eq-eqb, ltb-true, and_parts, eqb-true}
use Rattle.std.proofs.lemmas.List.{length-replicate}
use Rattle.edd_syntax.specs.DeviceValues.{AreDeviceValues}
use Rattle.edd_instructions.specs.declared.records.Status.{Status}
use Rattle.edd_instructions.specs.declared.records.Status.TheVariants.{Running, Asking, Ended, Aborted, Trapped}
use Rattle.edd_instructions.specs.declared.instruction.Instruction.{Instruction}
use Rattle.edd_instructions.specs.declared.unit.Sort.{Sort}
use Rattle.edd_instructions.specs.declared.unit.Way.{Way}
use Rattle.edd_instructions.specs.declared.unit.Context.{Context}
use Rattle.edd_image.specs.Front.{◌>>=◌}
use Rattle.edd_instructions.specs.Decoding.{instruction_at}
use Rattle.edd_instructions.specs.Units.{Placed, before, instructions_from, instructions, end_of, takes, onward, jump, ways, is_start, AreDepths, IsFresh, IsValidUnit}
use Rattle.edd_instructions.specs.Steps.{RunningUnit, State, Environment, Effect, StandsWith, Stands, IsState, opening, act, step, if_running}
use Rattle.edd_instructions.proofs.KnownInstructions.{pick, Known, all_known, of_two, if_some_at}
use Rattle.edd_instructions.proofs.Lengths.{instruction_inside}
use Rattle.edd_instructions.proofs.Progress.{AllFit, Arrives, Arrived, zero_fits, instruction_acts}

-- ---- ways

-- a way of which a fact holds
on_way : (P : Way → Type 0) (x : Placed) (w : Way) → AllByRecursion P (ways x)
    → (onward x.instruction x.next ≡ Some w) ⊎ (jump x.instruction ≡ Some w) → P w
on_way P x w h (inl e) = if_some_at P (onward x.instruction x.next) w
    (of_two P (onward x.instruction x.next) (jump x.instruction) h).0 e
on_way P x w h (inr e) = if_some_at P (jump x.instruction) w
    (of_two P (onward x.instruction x.next) (jump x.instruction) h).1 e

-- ---- the next state

-- where a way leads there is an instruction, with the number of operands that belongs there
stands_again : (context : Context) (code : List ℕ) (depth : ℕ → ℕ)
    → AreDepths (instructions code) depth → (x : Placed) → Known context code depth x
    → (s t : State) (more : ℕ) → length s.operands ≡ depth x.place
    → Arrives x.instruction x.next s t more → StandsWith code t.place (more + length t.operands)
stands_again context code depth d x k s t more here way =
    let w = way.0 in
    let lands_there : is_start (instructions code) w.to ≡ true =
    on_way (λ v. is_start (instructions code) v.to ≡ true) x w k.lands_on way.1 in
    let number : depth w.to ≡ depth x.place - takes x.instruction + w.leaves =
    on_way (λ v. depth v.to ≡ depth x.place - takes x.instruction + v.leaves) x w k.agrees
    way.1 in
    record {
      at_start = subst (λ (q : ℕ). IsTrue (is_start (instructions code) q)) (sym way.2.0)
          lands_there;
      depth = depth;
      depths = d;
      operands = way.2.1 ∙ ap (λ (n : ℕ). n - takes x.instruction + w.leaves) here ∙ sym number
          ∙ ap depth (sym way.2.0);
    }

stands_by : (context : Context) (code : List ℕ) (depth : ℕ → ℕ)
    → AreDepths (instructions code) depth → (x : Placed) → Known context code depth x
    → (s t : State) (st : Status) → length s.operands ≡ depth x.place → t.unit.code ≡ code
    → Arrived x.instruction x.next s t st → Stands t st
stands_by context code depth d x k s t Running here same way =
    subst (λ (c : List ℕ). StandsWith c t.place (length t.operands)) (sym same)
    (subst (λ (n : ℕ). StandsWith code t.place n) (omega arith)
    (stands_again context code depth d x k s t 0 here way))
stands_by context code depth d x k s t (Asking r) here same way =
    subst (λ (c : List ℕ). StandsWith c t.place (suc (length t.operands))) (sym same)
    (subst (λ (n : ℕ). StandsWith code t.place n) (omega arith)
    (stands_again context code depth d x k s t 1 here way))
stands_by context code depth d x k s t Ended here same way = tt
stands_by context code depth d x k s t Aborted here same way = tt
stands_by context code depth d x k s t (Trapped why) here same way = tt

step_is : (env : Environment) (s : State) (found : Instruction × ℕ) (o : Option Effect)
    → s.status ≡ Running → instruction_at s.unit.code s.place ≡ Some found
    → act env found.0 found.1 s ≡ o → step env s ≡ o
unfolding step
step_is env s found o running at acted =
    ap (λ (st : Status). if_running st (instruction_at s.unit.code s.place
    >>= (λ f. act env f.0 f.1 s))) running
    ∙ ap (λ (x : Option (Instruction × ℕ)). x >>= (λ f. act env f.0 f.1 s)) at
    ∙ acted

-- the next state, on the same unit
pub next_in_unit : (context : Context) (env : Environment) (s : State)
    → IsValidUnit context s.unit.code → IsState context env s → s.status ≡ Running
    → (e : Effect) × (step env s ≡ Some e) × (IsState context env e.state × (e.state.unit ≡ s.unit))
next_in_unit context env s valid is running =
    let code = s.unit.code in
    let here : StandsWith code s.place (length s.operands) = subst (λ (st : Status). Stands s st)
    running is.stands in
    let depth = here.depth in
    let at = pick (Known context code depth) (instructions code) s.place
    (all_known context code depth valid here.depths) here.at_start in
    let x = at.0 in
    let k = at.2 in
    let count : length s.operands ≡ depth x.place = here.operands ∙ ap depth (sym at.1) in
    let enough : takes x.instruction ≤ length s.operands =
    subst (λ (n : ℕ). takes x.instruction ≤ n) (sym count) k.enough in
    let fit = subst (λ (so : Sort). AllFit so s.operands) (sym is.sort) is.operands in
    let slots = subst (λ (so : Sort). AllFit so s.slots) (sym is.sort) is.slots in
    let acts = instruction_acts env s running slots is.values x.instruction x.next fit enough in
    let e = acts.0 in
    let goes = acts.2 in
    let found : instruction_at code s.place ≡ Some (x.instruction, x.next) =
    subst (λ (q : ℕ). instruction_at code q ≡ Some (x.instruction, x.next)) at.1 k.stands in (
      e,
      step_is env s (x.instruction, x.next) (Some e) running found acts.1,
      (
        record {
          sort = ap (λ (u : RunningUnit). u.sort) goes.kept.unit ∙ is.sort;
          stands = stands_by context code depth here.depths x k s e.state e.state.status count
              (ap (λ (u : RunningUnit). u.code) goes.kept.unit) goes.arrived;
          operands = subst (λ (so : Sort). AllFit so e.state.operands) is.sort goes.operands;
          slot_count = goes.kept.slot_count ∙ is.slot_count;
          slots = subst (λ (so : Sort). AllFit so e.state.slots) is.sort goes.kept.slots;
          variable_count = is.variable_count;
          values = goes.kept.values;
        },
        goes.kept.unit,
      ),
    )

pub next_state : (context : Context) (env : Environment) (s : State)
    → IsValidUnit context s.unit.code → IsState context env s → s.status ≡ Running
    → (e : Effect) × (step env s ≡ Some e) × IsState context env e.state
next_state context env s valid is running = let next = next_in_unit context env s valid is
    running in (next.0, next.1, next.2.0)

-- ---- the opening of a unit

-- the places rise, each instruction beginning where the one before it ends
abbrev pub Rising : ℕ → List Placed → Type 0
Rising place [] = Unit {0}
Rising place (x ∷ xs) = (x.place ≡ place) × (place < x.next) × Rising x.next xs

rising_before : (place : ℕ) (o : Option (Instruction × ℕ)) (f : ℕ → List Placed)
    → ((found : Instruction × ℕ) → o ≡ Some found → (place < found.1) × Rising found.1 (f found.1))
    → Rising place (before place o f)
rising_before place None f h = tt
rising_before place (Some found) f h = (refl, (h found refl).0, (h found refl).1)

rising_from : (n : ℕ) (code : List ℕ) (place : ℕ) → Rising place (instructions_from n code place)
unfolding instructions_from
rising_from zero code place = tt
rising_from (suc n) code place = rising_before place (instruction_at code place) _
    (λ found e. ((instruction_inside code place found e).0, rising_from n code found.1))

rising : (code : List ℕ) → Rising 0 (instructions code)
unfolding instructions
rising code = rising_from (length code) code 0

first_stands : (place : ℕ) (xs : List Placed) (size : ℕ) → Rising place xs → end_of place xs ≡ size
    → place < size → (x : Placed) × (others : List Placed) × (xs ≡ x ∷ others) × (x.place ≡ place)
first_stands place [] size rises ends lt = absurd (omega (arith, ends, lt))
first_stands place (x ∷ others) size rises ends lt = (x, others, refl, rises.0)

start_is_first : (x : Placed) (xs : List Placed) → is_start (x ∷ xs) x.place ≡ true
start_is_first x xs = or_left (nat_eq x.place x.place) (is_start xs x.place)
    (eq-eqb x.place x.place refl)

nothing_before : (xs : List Placed) (q : ℕ) → q ≡ 0 → IsFresh xs q
nothing_before [] q e = tt
nothing_before (x ∷ xs) q e = ((λ lt. absurd (omega (arith, lt, e))), nothing_before xs q e)

zeros_fit : (sort : Sort) (n : ℕ) → AllFit sort (replicate n (pos 0))
zeros_fit sort zero = tt
zeros_fit sort (suc n) = (zero_fits sort, zeros_fit sort n)

pub opens : (context : Context) (env : Environment) (code : List ℕ) (values : List ℤ)
    → IsValidUnit context code → length env.types ≡ context.counts.variables
    → AreDeviceValues env.types values
    → IsState context env (opening (record { sort = context.sort; code = code }) context.slots
    values)
opens context env code values valid count are =
    let xs = instructions code in
    let parts = and_parts (nat_lt 0 (length code)) _ valid.chain in
    let chain = and_parts (nat_eq (end_of 0 xs) (length code)) _ parts.1 in
    let first = first_stands 0 xs (length code) (rising code)
    (eqb-true (end_of 0 xs) (length code) chain.0) (ltb-true 0 (length code) parts.0) in
    let x = first.0 in
    let depth = valid.depths.0 in
    let d = valid.depths.1 in
    let fresh : AllByRecursion (λ y. IsFresh xs y.place → depth y.place ≡ 0) (x ∷ first.1) =
    subst (λ (ys : List Placed). AllByRecursion (λ y. IsFresh xs y.place → depth y.place ≡ 0)
    ys) first.2 d.fresh in
    let is_fresh : IsFresh xs x.place = nothing_before xs x.place first.3 in
    let start : is_start xs 0 ≡ true = subst (λ (q : ℕ). is_start xs q ≡ true) first.3
    (subst (λ (ys : List Placed). is_start ys x.place ≡ true) (sym first.2)
    (start_is_first x first.1)) in
    record {
      sort = refl;
      stands = record {
        at_start = start;
        depth = depth;
        depths = d;
        operands = sym (fresh.0 is_fresh) ∙ ap depth first.3;
      };
      operands = tt;
      slot_count = length-replicate context.slots (pos 0);
      slots = zeros_fit context.sort context.slots;
      variable_count = count;
      values = are;
    }
