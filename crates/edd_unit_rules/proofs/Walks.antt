-- What one turn of a walk over the instructions of a unit does to a test of them all.
use Rattle.std.proofs.Common.{◌≡◌, ℕ, zero, suc, ◌++◌, ◌<◌, Bool, true, false, ◌&&◌, ◌||◌, nat_eq, nat_lt, List, length, get_or, set, Option, Some, None, refl, sym, ap, ◌∙◌, arith, inl, inr, get_or-set_same, get_or-set_other, subst}
use Rattle.std.specs.List.{list_all}
use Rattle.std.specs.Option.{option_to_list, option_map_or}
use Rattle.edd_instructions.specs.declared.unit.Way.{Way}
use Rattle.std.proofs.lemmas.Bool.{cases_Bool, and_left, and_right, or_left, or_right, cases_eq, eq-eqb, ne_eqb, lt-ltb}
use Rattle.edd_instructions.specs.declared.instruction.Instruction.{Instruction}
use Rattle.edd_instructions.specs.declared.unit.Context.{Context}
use Rattle.edd_instructions.specs.Decoding.{instruction_at}
use Rattle.edd_instructions.specs.Units.{Placed, instructions, end_of, is_allowed, is_chain, is_start}
use Rattle.edd_unit_rules.proofs.Listing.{placed, from_place, walk_goes, walk_stops}

-- ---- a test of each instruction

pub all_goes : (p : Placed → Bool) (code : List ℕ) (place : ℕ) (found : Instruction × ℕ)
    (total : Bool) → instruction_at code place ≡ Some found → p (placed place found) ≡ true
    → list_all p (from_place code place) ≡ total → list_all p (from_place code found.1) ≡ total
all_goes p code place found total e passes so_far =
    let step : list_all p (from_place code place)
    ≡ (p (placed place found) && list_all p (from_place code found.1)) =
    ap (list_all p) (walk_goes code place found e) in
    rw passes at (sym step) ∙ so_far

pub all_fails : (p : Placed → Bool) (code : List ℕ) (place : ℕ) (found : Instruction × ℕ)
    (total : Bool) → instruction_at code place ≡ Some found → p (placed place found) ≡ false
    → list_all p (from_place code place) ≡ total → total ≡ false
all_fails p code place found total e fails so_far =
    let step : list_all p (from_place code place)
    ≡ (p (placed place found) && list_all p (from_place code found.1)) =
    ap (list_all p) (walk_goes code place found e) in
    sym so_far ∙ step ∙ and_left (p (placed place found)) _ fails

pub all_done : (p : Placed → Bool) (code : List ℕ) (place : ℕ) (total : Bool)
    → instruction_at code place ≡ None → list_all p (from_place code place) ≡ total → total ≡ true
all_done p code place total e so_far = sym so_far ∙ ap (list_all p) (walk_stops code place e)

-- ---- the end of the last instruction

pub end_goes : (code : List ℕ) (place : ℕ) (found : Instruction × ℕ) (total : ℕ)
    → instruction_at code place ≡ Some found → end_of place (from_place code place) ≡ total
    → end_of found.1 (from_place code found.1) ≡ total
end_goes code place found total e so_far = sym (ap (end_of place) (walk_goes code place found e))
    ∙ so_far

pub end_done : (code : List ℕ) (place total : ℕ) → instruction_at code place ≡ None
    → end_of place (from_place code place) ≡ total → total ≡ place
end_done code place total e so_far = sym so_far ∙ ap (end_of place) (walk_stops code place e)

pub chain_fails : (context : Context) (code : List ℕ)
    → list_all (λ x. is_allowed context.version context.sort x.instruction) (from_place code 0)
    ≡ false → false ≡ is_chain context code
unfolding instructions
chain_fails context code e =
    sym (and_right (nat_lt 0 (length code)) _
    (and_right (nat_eq (end_of 0 (instructions code)) (length code)) _ e))

pub chain_ends : (context : Context) (code : List ℕ) (place : ℕ) → 0 < length code
    → end_of 0 (from_place code 0) ≡ place
    → list_all (λ x. is_allowed context.version context.sort x.instruction) (from_place code 0)
    ≡ true → nat_eq place (length code) ≡ is_chain context code
unfolding instructions
chain_ends context code place some ends passes =
    sym (rw (lt-ltb 0 (length code) some, ends, passes) (and_true (nat_eq place (length code))))
  where
    and_true : (b : Bool) → (b && true) ≡ b
    and_true true = refl
    and_true false = refl

-- ---- the starts so far

pub marks_go : (code : List ℕ) (place : ℕ) (found : Instruction × ℕ) (marks : List Bool) (q : ℕ)
    (total : Bool) → instruction_at code place ≡ Some found → place < length marks
    → (get_or marks q false || is_start (from_place code place) q) ≡ total
    → (get_or (set marks place true) q false || is_start (from_place code found.1) q) ≡ total
marks_go code place found marks q total e inside so_far =
    let step : is_start (from_place code place) q
    ≡ (nat_eq place q || is_start (from_place code found.1) q) =
    ap (λ (xs : List Placed). is_start xs q) (walk_goes code place found e) in
    elim (cases_eq q place) [
      | inl same ↦
          let here : nat_eq place q ≡ true = eq-eqb place q (sym same) in
          let marked : get_or (set marks place true) q false ≡ true =
          subst (λ (k : ℕ). get_or (set marks place true) k false ≡ true) (sym same)
          (get_or-set_same marks place true false inside) in
          or_left _ _ marked ∙ sym (or_right (get_or marks q false) _ (step ∙ or_left _ _ here))
          ∙ so_far
      | inr other ↦
          let apart : nat_eq place q ≡ false = ne_eqb place q (λ e'. other (sym e')) in
          let kept : get_or (set marks place true) q false ≡ get_or marks q false =
          get_or-set_other marks place q true false other in
          let same : is_start (from_place code found.1) q ≡ is_start (from_place code place) q =
          rw apart at (sym step) in
          rw (kept, same) so_far
    ]

pub some_bytes : (n : ℕ) → nat_eq n 0 ≡ false → 0 < n
some_bytes zero e = absurd cc
some_bytes (suc n) e = omega arith

-- ---- where ways lead

pub if_any : (p : Way → Bool) (a b : Option Way) → list_all p (option_to_list a ++ option_to_list b)
    ≡ (option_map_or p a true && option_map_or p b true)
if_any p None None = refl
if_any p None (Some w) = elim (cases_Bool (p w)) [ inl e ↦ rw e refl | inr e ↦ rw e refl ]
if_any p (Some v) None = refl
if_any p (Some v) (Some w) = elim (cases_Bool (p w)) [ inl e ↦ rw e refl | inr e ↦ rw e refl ]
