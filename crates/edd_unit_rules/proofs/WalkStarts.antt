-- A walk at the start of a unit, and what its two forms bring to a turn.
use Rattle.std.proofs.Common.{◌≡◌, ℕ, zero, suc, ◌<◌, ◌≤◌, Bool, true, false, ◌||◌, List, length, get_or, replicate, Option, Some, None, refl, sym, ap, ◌∙◌, arith}
use Rattle.std.specs.Prelude.{IfSome, is_some, option_map, nat_lt, ◌==◌}
use Rattle.std.proofs.lemmas.Bool.{and_parts, eqb-true}
use Rattle.std.specs.List.{list_any}
use Rattle.std.proofs.lemmas.List.{length-replicate}
use Rattle.edd_instructions.specs.declared.unit.Context.{Context}
use Rattle.edd_instructions.specs.declared.instruction.Instruction.{Instruction}
use Rattle.edd_instructions.specs.declared.rules.UnitRule.TheVariants.{Chain}
use Rattle.edd_instructions.specs.Decoding.{instruction_at}
use Rattle.edd_instructions.specs.Units.{UnitKeeps, end_of, instructions, is_allowed, is_start}
use Rattle.edd_unit_rules.specs.declared.marks.Mark.{Mark}
use Rattle.edd_unit_rules.specs.declared.marks.Mark.TheVariants.{Unknown}
use Rattle.edd_unit_rules.specs.Depths.{Table, visit_all}
use Rattle.edd_unit_rules.specs.Marks.{brought, depths, is_known, is_settled, mark_at, stood_on}
use Rattle.edd_unit_rules.specs.Standing.{jumps_to}
use Rattle.edd_unit_rules.specs.Walks.{from_place, IsWalk}
use Rattle.edd_unit_rules.proofs.MarkLaws.{nothing_known, nothing_stands}
use Rattle.edd_unit_rules.proofs.Walks.{all_fails, chain_fails, end_done}

-- nothing is known of any place
unknown_at : (n q : ℕ) → mark_at (replicate n Unknown) q ≡ Unknown
unknown_at zero q = refl
unknown_at (suc n) zero = refl
unknown_at (suc n) (suc q) = unknown_at n q

pub walk_starts : (context : Context) (code : List ℕ) (marks : List Mark)
    → marks ≡ replicate (length code) Unknown → IsWalk context code marks None 0 true true true
walk_starts context code marks empty =
    let n = length code in
    let all = from_place code 0 in
    let unknown : (q : ℕ) → mark_at marks q ≡ Unknown = λ q. ap (λ (m : List Mark). mark_at m q)
    empty ∙ unknown_at n q in
    record {
      inside = omega arith;
      sized = ap (λ (m : List Mark). length m) empty ∙ length-replicate n Unknown;
      room = tt;
      fit = λ q. rw (unknown q) tt;
      same_end = refl;
      same_allowed = refl;
      same_names = refl;
      same_leads = refl;
      same_pass = λ _. ap (λ (t : Table). visit_all t all) (ap depths empty ∙ nothing_known n);
      marked = λ q. ap (λ b. b || is_start all q)
          (ap (λ (m : List Mark). get_or (stood_on m) q false) empty ∙ nothing_stands n q);
      ahead = λ q e. e;
      awaited = λ q e. let no : true ≡ false = sym (ap is_settled (unknown q)) ∙ e in absurd cc;
      targets = λ _ q e. ap (λ (m : Mark). is_known m || list_any (jumps_to q) all) (unknown q) ∙ e;
    }

-- ---- what is brought

pub brings_room : (goes_on : Bool) (depth : ℕ) → depth ≤ 128
    → IfSome (brought goes_on depth) (λ d. d ≤ 128)
brings_room true depth room = room
brings_room false depth room = tt

pub brings_nothing : (goes_on : Bool) (depth : ℕ) → goes_on ≡ false → brought goes_on depth ≡ None
brings_nothing goes_on depth e = ap (λ (b : Bool). brought b depth) e

pub brings_some : (goes_on : Bool) (depth : ℕ) → is_some (brought goes_on depth) ≡ goes_on
brings_some true depth = refl
brings_some false depth = refl

pub as_many : {A B : Type 0} (o : Option A) (f : A → B) (after : Option B) → after ≡ option_map f o
    → is_some after ≡ is_some o
as_many None f after e = ap is_some e
as_many (Some x) f after e = ap is_some e

-- ---- code that is no chain

pub stops_short : (context : Context) (code : List ℕ) (marks : List Mark) (brings : Option ℕ)
    (place : ℕ) (leads agrees names : Bool) → IsWalk context code marks brings place leads agrees
    names → place < length code → instruction_at code place ≡ None → ¬ UnitKeeps context code Chain
unfolding instructions
stops_short context code marks brings place leads agrees names walk lt nothing chain =
    let filled = (and_parts (nat_lt 0 (length code)) _ chain).1 in
    let ends : end_of 0 (from_place code 0) ≡ length code = eqb-true (end_of 0 (instructions code))
    (length code) (and_parts (end_of 0 (instructions code) == length code) _ filled).0 in
    omega (arith, lt, sym ends ∙ end_done code place _ nothing walk.same_end)

pub not_allowed : (context : Context) (code : List ℕ) (marks : List Mark) (brings : Option ℕ)
    (place : ℕ) (found : Instruction × ℕ) (leads agrees names : Bool)
    → IsWalk context code marks brings place leads agrees names → instruction_at code place
    ≡ Some found → is_allowed context.version context.sort found.0 ≡ false
    → ¬ UnitKeeps context code Chain
not_allowed context code marks brings place found leads agrees names walk here refused chain =
    let never : false ≡ true =
    chain_fails context code
    (all_fails (λ x. is_allowed context.version context.sort x.instruction) code place found _
    here refused walk.same_allowed) ∙ chain in
    absurd cc
