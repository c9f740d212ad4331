-- What the rules on a unit say of each of its instructions.
use Rattle.std.proofs.Common.{◌≡◌, ℕ, zero, suc, ◌-◌, ◌+◌, ◌≤◌, Bool, true, nat_eq, nat_lt, List, [], ◌∷◌, ◌++◌, length, Option, Some, None, refl, subst, inl, inr}
use Rattle.std.specs.Prelude.{IfSome}
use Rattle.std.specs.List.{AllByRecursion, list_all}
use Rattle.std.specs.Option.{option_to_list}
use Rattle.std.proofs.lemmas.Bool.{and_parts, or_cases, eqb-true}
use Rattle.edd_instructions.specs.declared.instruction.Instruction.{Instruction}
use Rattle.edd_instructions.specs.declared.unit.Context.{Context}
use Rattle.edd_instructions.specs.declared.unit.Way.{Way}
use Rattle.edd_instructions.specs.Decoding.{instruction_at}
use Rattle.edd_instructions.specs.References.{names_exist}
use Rattle.edd_instructions.specs.Units.{Placed, before, instructions_from, instructions, end_of, takes, ways, is_start, is_forward, is_allowed, lands, AreDepths, IsValidUnit}

pub each_two : {X : Type 0} {P Q R : X → Type 0} (xs : List X) → ((x : X) → P x → Q x → R x)
    → AllByRecursion P xs → AllByRecursion Q xs → AllByRecursion R xs
each_two [] f g h = tt
each_two (x ∷ xs) f g h = (f x g.0 h.0, each_two xs f g.1 h.1)

pub each : {X : Type 0} {P Q : X → Type 0} (xs : List X) → ((x : X) → P x → Q x)
    → AllByRecursion P xs → AllByRecursion Q xs
each [] f h = tt
each (x ∷ xs) f h = (f x h.0, each xs f h.1)

-- what is known of each instruction is known of the one that starts at a place
pub pick : (P : Placed → Type 0) (xs : List Placed) (q : ℕ) → AllByRecursion P xs
    → is_start xs q ≡ true → (x : Placed) × (x.place ≡ q) × P x
pick P [] q h e = absurd cc
pick P (x ∷ xs) q h e = elim (or_cases (nat_eq x.place q) (is_start xs q) e) [
  | inl here ↦ (x, eqb-true x.place q here, h.0)
  | inr there ↦ pick P xs q h.1 there
]

pub all_pass : {X : Type 0} (p : X → Bool) (xs : List X) → list_all p xs ≡ true
    → AllByRecursion (λ x. p x ≡ true) xs
all_pass p [] e = tt
all_pass p (x ∷ xs) e =
    let parts = and_parts (p x) (list_all p xs) e in
    (parts.0, all_pass p xs parts.1)

-- each of the instructions is where it is said to be
abbrev pub StandsIn : List ℕ → Placed → Type 0
StandsIn code x = instruction_at code x.place ≡ Some (x.instruction, x.next)

stand_before : (code : List ℕ) (place : ℕ) (o : Option (Instruction × ℕ)) (f : ℕ → List Placed)
    → instruction_at code place ≡ o → ((next : ℕ) → AllByRecursion (StandsIn code) (f next))
    → AllByRecursion (StandsIn code) (before place o f)
stand_before code place None f e h = tt
stand_before code place (Some found) f e h = (e, h found.1)

stand_from : (n : ℕ) (code : List ℕ) (place : ℕ)
    → AllByRecursion (StandsIn code) (instructions_from n code place)
unfolding instructions_from
stand_from zero code place = tt
stand_from (suc n) code place = stand_before code place (instruction_at code place) _ refl
    (λ next. stand_from n code next)

all_stand : (code : List ℕ) → AllByRecursion (StandsIn code) (instructions code)
unfolding instructions
all_stand code = stand_from (length code) code 0

-- what the rules say of one instruction
pub record Known (context : Context) (code : List ℕ) (depth : ℕ → ℕ) (x : Placed) : Type 0 where
  pub stands : StandsIn code x
  pub enough : takes x.instruction ≤ depth x.place
  pub agrees : AllByRecursion (λ w. depth w.to ≡ depth x.place - takes x.instruction + w.leaves)
      (ways x)
  pub lands_on : AllByRecursion (λ w. is_start (instructions code) w.to ≡ true) (ways x)
  pub forward : is_forward context.sort x ≡ true
  pub allowed : is_allowed context.version context.sort x.instruction ≡ true
  pub exists : names_exist context x.instruction ≡ true

pub all_known : (context : Context) (code : List ℕ) (depth : ℕ → ℕ) → IsValidUnit context code
    → AreDepths (instructions code) depth
    → AllByRecursion (Known context code depth) (instructions code)
all_known context code depth valid d =
    let xs = instructions code in
    let chain = and_parts (nat_eq (end_of 0 xs) (length code)) _
    (and_parts (nat_lt 0 (length code)) _ valid.chain).1 in
    let allowed = all_pass (λ x. is_allowed context.version context.sort x.instruction) xs
    chain.1 in
    let exists = all_pass (λ x. names_exist context x.instruction) xs valid.references in
    let landing = all_pass (lands context.sort xs) xs valid.jumps in
    let first = each_two {R = λ x. StandsIn code x × (takes x.instruction ≤ depth x.place)} xs
    (λ x p q. (p, q)) (all_stand code) d.enough in
    let ways_known = each_two
    {R = λ x. AllByRecursion (λ w. depth w.to ≡ depth x.place - takes x.instruction + w.leaves)
    (ways x) × AllByRecursion (λ w. is_start xs w.to ≡ true) (ways x)
    × (is_forward context.sort x ≡ true)} xs
    (λ x p q. let parts = and_parts (is_forward context.sort x) _
    q in (p, all_pass (λ w. is_start xs w.to) (ways x) parts.1, parts.0)) d.agree landing in
    let rules = each_two {R = λ x. (is_allowed context.version context.sort x.instruction ≡ true)
    × (names_exist context x.instruction ≡ true)} xs (λ x p q. (p, q)) allowed exists in
    let two = each_two {R = λ x. (StandsIn code x × (takes x.instruction ≤ depth x.place))
    × (AllByRecursion (λ w. depth w.to ≡ depth x.place - takes x.instruction + w.leaves)
    (ways x) × AllByRecursion (λ w. is_start xs w.to ≡ true) (ways x)
    × (is_forward context.sort x ≡ true))} xs (λ x p q. (p, q)) first ways_known in
    each_two {R = Known context code depth} xs (λ x p q. record {
      stands = p.0.0;
      enough = p.0.1;
      agrees = p.1.0;
      lands_on = p.1.1;
      forward = p.1.2;
      allowed = q.0;
      exists = q.1;
    }) two rules

-- ---- ways

pub of_two : (P : Way → Type 0) (o j : Option Way)
    → AllByRecursion P (option_to_list o ++ option_to_list j) → IfSome o P × IfSome j P
of_two P None None h = (tt, tt)
of_two P None (Some w) h = (tt, h.0)
of_two P (Some v) None h = (h.0, tt)
of_two P (Some v) (Some w) h = (h.0, h.1.0)

pub if_some_at : (P : Way → Type 0) (o : Option Way) (w : Way) → IfSome o P → o ≡ Some w → P w
if_some_at P None w h e = absurd cc
if_some_at P (Some v) w h e = let same : v ≡ w = cc in subst P same h
