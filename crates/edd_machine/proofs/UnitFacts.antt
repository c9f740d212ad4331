-- What the rules on a unit say of the instruction at which a running state is.
use Rattle.std.proofs.Common.{◌≡◌, ℕ, ◌+◌, ◌-◌, ◌<◌, ◌≤◌, true, nat_lt, List, length, Option, Some, None, refl, sym, ap, subst, ◌∙◌, arith}
use Rattle.std.specs.Prelude.{IfSome}
use Rattle.std.specs.List.{AllByRecursion}
use Rattle.std.specs.Option.{option_map_or}
use Rattle.edd_instructions.specs.declared.instruction.Instruction.{Instruction}
use Rattle.edd_instructions.specs.declared.records.Status.{Status}
use Rattle.edd_instructions.specs.declared.records.Status.TheVariants.{Running}
use Rattle.edd_instructions.specs.declared.unit.Context.{Context}
use Rattle.edd_instructions.specs.declared.unit.Sort.{Sort}
use Rattle.edd_instructions.specs.declared.unit.Sort.TheVariants.{Attribute, Method}
use Rattle.edd_instructions.specs.declared.unit.Way.{Way}
use Rattle.edd_instructions.specs.Decoding.{instruction_at}
use Rattle.edd_instructions.specs.References.{names_exist}
use Rattle.edd_instructions.specs.Units.{Placed, instructions, takes, leaves, onward, jump, ways, is_start, is_forward, is_allowed, IsValidUnit}
use Rattle.edd_instructions.specs.Steps.{State, Environment, StandsWith, Stands, IsState}
use Rattle.edd_instructions.proofs.KnownInstructions.{each_two, each, pick, Known, all_known, of_two, if_some_at}
use Rattle.edd_unit_rules.proofs.Listing.{within}

ways_small : (depth : ℕ → ℕ) (xs : List Placed) (ws : List Way)
    → AllByRecursion (λ x. depth x.place ≤ 128) xs
    → AllByRecursion (λ w. is_start xs w.to ≡ true) ws → AllByRecursion (λ w. depth w.to ≤ 128) ws
ways_small depth xs ws bounded landing = each ws (λ w e.
    let p = pick (λ x. depth x.place ≤ 128) xs w.to bounded e in
    subst (λ (q : ℕ). depth q ≤ 128) p.1 p.2) landing

room_from : (i : Instruction) (next n : ℕ) (o : Option ℕ) → leaves i ≡ o
    → IfSome (onward i next) (λ w. n + w.leaves ≤ 128) → IfSome o (λ k. n + k ≤ 128)
room_from i next n None e h = tt
room_from i next n (Some k) e h = if_some_at (λ w. n + w.leaves ≤ 128) (onward i next)
    (record { to = next; leaves = k }) h (rw e refl)

-- ---- a running state

-- what is known of the instruction that was decoded
pub record Facts (context : Context) (s : State) (i : Instruction) : Type 0 where
  pub enough : takes i ≤ length s.operands
  pub full : length s.operands ≤ 128
  pub room : IfSome (leaves i) (λ n. length s.operands - takes i + n ≤ 128)
  pub allowed : is_allowed context.version context.sort i ≡ true
  pub exist : names_exist context i ≡ true
  -- in an attribute a jump leads forward
  pub forward : context.sort ≡ Attribute → option_map_or (λ w. nat_lt s.place w.to) (jump i) true
      ≡ true

forward_in : (sort : Sort) (x : Placed) → is_forward sort x ≡ true → sort ≡ Attribute
    → option_map_or (λ w. nat_lt x.place w.to) (jump x.instruction) true ≡ true
forward_in Attribute x h e = h
forward_in Method x h e = absurd cc

module _ (context : Context) (env : Environment) (s : State)
    (valid : IsValidUnit context s.unit.code) (is : IsState context env s)
    (running : s.status ≡ Running) where
  here : StandsWith s.unit.code s.place (length s.operands)
  here = subst (λ (st : Status). Stands s st) running is.stands

  at_instruction : (x : Placed) × (x.place ≡ s.place) × Known context s.unit.code here.depth x
  at_instruction = pick (Known context s.unit.code here.depth) (instructions s.unit.code) s.place
      (all_known context s.unit.code here.depth valid here.depths) here.at_start

  pub inside : s.place ≤ length s.unit.code
  inside =
      let p = pick (λ x. x.place < length s.unit.code) (instructions s.unit.code) s.place
      (within s.unit.code) here.at_start in
      omega (arith, p.1, p.2)

  found_there : instruction_at s.unit.code s.place
      ≡ Some (at_instruction.0.instruction, at_instruction.0.next)
  found_there = subst (λ (q : ℕ). instruction_at s.unit.code q
      ≡ Some (at_instruction.0.instruction, at_instruction.0.next)) at_instruction.1
      at_instruction.2.stands

  pub not_nothing : instruction_at s.unit.code s.place ≡ None → ⊥
  not_nothing e =
      let impossible : ◌≡◌ {A = Option (Instruction × ℕ)}
      (Some (at_instruction.0.instruction, at_instruction.0.next)) None = sym found_there ∙ e in
      cc

  pub facts : (found : Instruction × ℕ) → instruction_at s.unit.code s.place ≡ Some found
      → Facts context s found.0
  facts found e =
      let x = at_instruction.0 in
      let k = at_instruction.2 in
      let depth = here.depth in
      let same' : Some (x.instruction, x.next) ≡ Some found = sym found_there ∙ e in
      let same : (x.instruction, x.next) ≡ found = cc in
      let count : length s.operands ≡ depth x.place = here.operands
      ∙ ap depth (sym at_instruction.1) in
      let small = ways_small depth (instructions s.unit.code) (ways x) here.depths.bounded
      k.lands_on in
      let sums = each_two {R = λ w. length s.operands - takes x.instruction + w.leaves ≤ 128}
      (ways x) (λ w p q. omega (arith, p, q, count)) k.agrees small in
      let ahead = (of_two (λ w. length s.operands - takes x.instruction + w.leaves ≤ 128)
      (onward x.instruction x.next) (jump x.instruction) sums).0 in
      let deepest = pick (λ y. depth y.place ≤ 128) (instructions s.unit.code) s.place
      here.depths.bounded here.at_start in
      let full : length s.operands ≤ 128 =
      subst (λ (n : ℕ). n ≤ 128) (ap depth deepest.1 ∙ sym here.operands) deepest.2 in
      let own : Facts context s x.instruction = record {
        enough = omega (arith, count, k.enough);
        full = full;
        room = room_from x.instruction x.next (length s.operands - takes x.instruction)
            (leaves x.instruction) refl ahead;
        allowed = k.allowed;
        exist = k.exists;
        forward = λ e. subst (λ (q : ℕ). option_map_or (λ w. nat_lt q w.to) (jump x.instruction)
            true ≡ true) at_instruction.1 (forward_in context.sort x k.forward e);
      } in
      subst (λ (i : Instruction). Facts context s i) (ap (λ (p : Instruction × ℕ). p.0) same) own
