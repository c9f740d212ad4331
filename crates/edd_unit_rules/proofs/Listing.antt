-- The instructions of a unit, as a walk over its bytes meets them.
use Rattle.std.proofs.Common.{◌≡◌, ℕ, zero, suc, ◌+◌, ◌<◌, ◌≤◌, List, [], ◌∷◌, length, Option, Some, None, refl, sym, ap, arith}
use Rattle.std.specs.List.{AllByRecursion}
use Rattle.edd_instructions.specs.declared.instruction.Instruction.{Instruction}
use Rattle.edd_instructions.specs.Decoding.{instruction_at}
use Rattle.edd_instructions.specs.Units.{Placed, before, instructions_from, instructions}
use Rattle.edd_instructions.proofs.Lengths.{instruction_inside}
use Rattle.edd_unit_rules.proofs.DepthLaws.{Rising}

abbrev pub placed : ℕ → Instruction × ℕ → Placed
placed place found = record { place = place; instruction = found.0; next = found.1 }

-- the instructions from a place on
abbrev pub from_place : List ℕ → ℕ → List Placed
from_place code place = instructions_from (length code) code place

before_same : (place : ℕ) (o : Option (Instruction × ℕ)) (f g : ℕ → List Placed)
    → ((found : Instruction × ℕ) → o ≡ Some found → f found.1 ≡ g found.1)
    → before place o f ≡ before place o g
before_same place None f g h = refl
before_same place (Some found) f g h = ap (λ (xs : List Placed). placed place found ∷ xs)
    (h found refl)

before_nothing : (place : ℕ) (o : Option (Instruction × ℕ)) (f : ℕ → List Placed)
    → ((found : Instruction × ℕ) → o ≡ Some found → ⊥) → before place o f ≡ []
before_nothing place None f h = refl
before_nothing place (Some found) f h = absurd (h found refl)

nothing_past : (n : ℕ) (code : List ℕ) (place : ℕ) → length code ≤ place
    → instructions_from n code place ≡ []
unfolding instructions_from
nothing_past zero code place le = refl
nothing_past (suc n) code place le = before_nothing place (instruction_at code place) _
    (λ found e. omega (arith, instruction_inside code place found e))

-- more turns than bytes change nothing
enough_turns : (n m : ℕ) (code : List ℕ) (place : ℕ) → length code ≤ n + place
    → length code ≤ m + place → instructions_from n code place ≡ instructions_from m code place
unfolding instructions_from
enough_turns zero m code place p q = sym (nothing_past m code place (omega (arith, p)))
enough_turns (suc n) zero code place p q = nothing_past (suc n) code place (omega (arith, q))
enough_turns (suc n) (suc m) code place p q = before_same place (instruction_at code place) _ _
    (λ found e.
    let inside = instruction_inside code place found e in
    enough_turns n m code found.1 (omega (arith, p, inside)) (omega (arith, q, inside)))

stops_by : (n : ℕ) (code : List ℕ) (place : ℕ) → instruction_at code place ≡ None
    → instructions_from n code place ≡ []
unfolding instructions_from
stops_by zero code place e = refl
stops_by (suc n) code place e = rw e refl

goes_by : (n : ℕ) (code : List ℕ) (place : ℕ) (found : Instruction × ℕ) → length code ≤ n
    → instruction_at code place ≡ Some found → instructions_from n code place ≡ placed place found
    ∷ instructions_from n code found.1
unfolding instructions_from
goes_by zero code place found le e =
    absurd (omega (arith, instruction_inside code place found e, le))
goes_by (suc n) code place found le e =
    let inside = instruction_inside code place found e in
    rw e (ap (λ (xs : List Placed). placed place found ∷ xs)
    (enough_turns n (suc n) code found.1 (omega (arith, le, inside))
    (omega (arith, le, inside))))

-- there is no whole instruction at the place
pub walk_stops : (code : List ℕ) (place : ℕ) → instruction_at code place ≡ None
    → from_place code place ≡ []
walk_stops code place e = stops_by (length code) code place e

-- there is an instruction at the place, and the walk goes on after it
pub walk_goes : (code : List ℕ) (place : ℕ) (found : Instruction × ℕ) → instruction_at code place
    ≡ Some found → from_place code place ≡ placed place found ∷ from_place code found.1
walk_goes code place found e = goes_by (length code) code place found (omega arith) e

-- ---- places

rising_before : (place : ℕ) (o : Option (Instruction × ℕ)) (f : ℕ → List Placed)
    → ((found : Instruction × ℕ) → o ≡ Some found → (place < found.1) × Rising found.1 (f found.1))
    → Rising place (before place o f)
rising_before place None f h = tt
rising_before place (Some found) f h = (refl, (h found refl).0, (h found refl).1)

rising_from : (n : ℕ) (code : List ℕ) (place : ℕ) → Rising place (instructions_from n code place)
unfolding instructions_from
rising_from zero code place = tt
rising_from (suc n) code place = rising_before place (instruction_at code place) _
    (λ found e. ((instruction_inside code place found e).0, rising_from n code found.1))

pub rising : (code : List ℕ) → Rising 0 (instructions code)
unfolding instructions
rising code = rising_from (length code) code 0

within_before : (size place : ℕ) (o : Option (Instruction × ℕ)) (f : ℕ → List Placed)
    → ((found : Instruction × ℕ) → o ≡ Some found
    → (place < size) × AllByRecursion (λ x. x.place < size) (f found.1))
    → AllByRecursion (λ x. x.place < size) (before place o f)
within_before size place None f h = tt
within_before size place (Some found) f h = h found refl

within_from : (n : ℕ) (code : List ℕ) (place : ℕ)
    → AllByRecursion (λ x. x.place < length code) (instructions_from n code place)
unfolding instructions_from
within_from zero code place = tt
within_from (suc n) code place = within_before (length code) place (instruction_at code place) _
    (λ found e.
    let inside = instruction_inside code place found e in
    (omega (arith, inside), within_from n code found.1))

-- each instruction begins inside the code
pub within : (code : List ℕ) → AllByRecursion (λ x. x.place < length code) (instructions code)
unfolding instructions
within code = within_from (length code) code 0
