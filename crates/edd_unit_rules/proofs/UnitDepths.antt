-- The pass over the code of a unit whose ways all lead to instructions.
use Rattle.std.proofs.Common.{◌≡◌, ℕ, ◌<◌, ◌≤◌, true, nat_eq, List, [], ◌∷◌, length, replicate, Option, Some, None, sym, ap, subst, ◌∙◌, inl, inr}
use Rattle.std.specs.List.{AllByRecursion, list_all}
use Rattle.std.proofs.lemmas.Bool.{and_parts, or_cases, eqb-true}
use Rattle.edd_instructions.specs.declared.instruction.Instruction.{Instruction}
use Rattle.edd_instructions.specs.declared.unit.Sort.{Sort}
use Rattle.edd_instructions.specs.declared.unit.Way.{Way}
use Rattle.edd_image.specs.Front.{◌>>=◌}
use Rattle.edd_instructions.specs.Decoding.{instruction_at}
use Rattle.edd_instructions.specs.Units.{Placed, instructions, is_start, is_forward, lands, ways, HasDepths}
use Rattle.edd_unit_rules.specs.Depths.{Table, visit, visit_all}
use Rattle.edd_unit_rules.proofs.DepthLaws.{each_two, LiesInside, sound, complete, depth_in}
use Rattle.edd_unit_rules.proofs.Listing.{placed, from_place, walk_goes, rising, within}

-- what holds of each instruction's place holds of each start
pub at_start : (P : ℕ → Type 0) (xs : List Placed) (q : ℕ) → AllByRecursion (λ x. P x.place) xs
    → is_start xs q ≡ true → P q
at_start P [] q h e = absurd cc
at_start P (x ∷ xs) q h e = elim (or_cases (nat_eq x.place q) (is_start xs q) e) [
  | inl here ↦ subst P (eqb-true x.place q here) h.0
  | inr there ↦ at_start P xs q h.1 there
]

at_ways : (P : ℕ → Type 0) (xs : List Placed) (ws : List Way) → AllByRecursion (λ x. P x.place) xs
    → list_all (λ w. is_start xs w.to) ws ≡ true → AllByRecursion (λ w. P w.to) ws
at_ways P xs [] h e = tt
at_ways P xs (w ∷ ws) h e =
    let parts = and_parts (is_start xs w.to) (list_all (λ v. is_start xs v.to) ws) e in
    (at_start P xs w.to h parts.0, at_ways P xs ws h parts.1)

pub at_each : (P : ℕ → Type 0) (sort : Sort) (xs ys : List Placed)
    → AllByRecursion (λ x. P x.place) xs → list_all (lands sort xs) ys ≡ true
    → AllByRecursion (λ x. AllByRecursion (λ w. P w.to) (ways x)) ys
at_each P sort xs [] h e = tt
at_each P sort xs (y ∷ ys) h e =
    let parts = and_parts (lands sort xs y) (list_all (lands sort xs) ys) e in
    let inner = and_parts (is_forward sort y) (list_all (λ w. is_start xs w.to) (ways y)) parts.0 in
    (at_ways P xs (ways y) h inner.1, at_each P sort xs ys h parts.1)

all_inside : (sort : Sort) (code : List ℕ)
    → list_all (lands sort (instructions code)) (instructions code) ≡ true
    → AllByRecursion (LiesInside (length code)) (instructions code)
all_inside sort code e = each_two (instructions code) (λ x p q. (p, q)) (within code)
    (at_each (λ q. q < length code) sort (instructions code) (instructions code) (within code) e)

-- ---- the turns of the pass

pub pass_goes : (code : List ℕ) (place : ℕ) (found : Instruction × ℕ) (table t : Table)
    (total : Option Table) → instruction_at code place ≡ Some found
    → visit table (placed place found) ≡ Some t
    → visit_all table (from_place code place) ≡ total → visit_all t (from_place code found.1)
    ≡ total
unfolding visit_all
pass_goes code place found table t total e v so_far =
    let step : visit_all table (from_place code place)
    ≡ (visit table (placed place found) >>= λ visited. visit_all visited
    (from_place code found.1)) = ap (visit_all table) (walk_goes code place found e) in
    rw v at (sym step) ∙ so_far

-- ---- what the whole pass decides

pub passes : (sort : Sort) (code : List ℕ) (t : Table)
    → list_all (lands sort (instructions code)) (instructions code) ≡ true
    → visit_all (replicate (length code) None) (from_place code 0) ≡ Some t
    → HasDepths (instructions code)
unfolding instructions
passes sort code t landing e = (
  depth_in t,
  sound (instructions code) (length code) t (rising code)
      (all_inside sort code landing) e,
)

pub refuses : (sort : Sort) (code : List ℕ)
    → list_all (lands sort (instructions code)) (instructions code) ≡ true
    → visit_all (replicate (length code) None) (from_place code 0) ≡ None
    → HasDepths (instructions code) → ⊥
unfolding instructions
refuses sort code landing e depths =
    let made = complete (instructions code) (length code) (rising code)
    (all_inside sort code landing) (λ depth bounded. at_each (λ q. depth q ≤ 128) sort
    (instructions code) (instructions code) bounded landing) depths in
    let no : None ≡ Some made.0 = sym e ∙ made.1 in
    cc
