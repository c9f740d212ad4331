-- How far a walk over a unit has come, and what it has seen.
use Rattle.std.specs.Prelude.{◌≡◌, ℕ, ◌<◌, ◌≤◌, Bool, true, false, ◌&&◌, ◌||◌, List, length, replicate, Option, Some, None, IfSome, nat_lt, slice_index_or, if◌then◌else◌}
use Rattle.std.specs.List.{list_all, list_any}
use Rattle.std.specs.Option.{option_map_or}
use Rattle.edd_instructions.specs.declared.instruction.Instruction.{Instruction}
use Rattle.edd_instructions.specs.declared.unit.Context.{Context}
use Rattle.edd_instructions.specs.declared.unit.Sort.{Sort}
use Rattle.edd_image.specs.Front.{◌>>=◌}
use Rattle.edd_instructions.specs.References.{names_exist}
use Rattle.edd_instructions.specs.Units.{Placed, instructions_from, end_of, is_allowed, is_start, jump}
use Rattle.edd_unit_rules.specs.declared.marks.Mark.{Mark}
use Rattle.edd_unit_rules.specs.declared.survey.Survey.{Survey}
use Rattle.edd_unit_rules.specs.declared.walk.Walk.{Walk}
use Rattle.edd_unit_rules.specs.Depths.{Table, enter, visit_all}
use Rattle.edd_unit_rules.specs.Marks.{agrees_with, brought, depth_known, depths, is_known, is_settled, mark_at, note_at, stood_on}
use Rattle.edd_unit_rules.specs.Standing.{may_lead, leads_inside, jumps_to}

-- the instructions from a place on
abbrev pub from_place : List ℕ → ℕ → List Placed
from_place code place = instructions_from (length code) code place

-- what the instruction before brings, if it goes on, entered at the place
abbrev pub carry : Option ℕ → ℕ → Table → Option Table
carry None place t = Some t
carry (Some depth) place t = enter t place depth

-- the instruction before brings it to a place inside
abbrev pub brought_inside : ℕ → ℕ → Option ℕ → Bool
brought_inside size place None = true
brought_inside size place (Some depth) = nat_lt place size

-- the marks where the instruction at the place jumps, if it leads inside, with so many operands
abbrev pub jump_noted : Sort → (size place : ℕ) → Instruction → List Mark → (rest : ℕ) → List Mark
jump_noted sort size place i marks rest =
    option_map_or (λ w. if may_lead sort size place w.to then note_at marks w.to rest else marks)
    (jump i) marks

-- where it jumps, no other number of operands is known
abbrev pub jump_agrees : Instruction → List Mark → (rest : ℕ) → Bool
jump_agrees i marks rest = option_map_or (λ w. agrees_with (mark_at marks w.to) rest) (jump i) true

-- With these marks the walk is at the place, to which the instruction before brings so many
-- operands, if it goes on. All instructions before were allowed. It has seen whether each way from
-- them leads inside, whether the numbers of operands agree and fit, and whether all that they name
-- exists. What that and the instructions from there on say is so said of all of them.
pub record IsWalk (context : Context) (code : List ℕ) (marks : List Mark) (brought : Option ℕ)
    (place : ℕ) (leads agrees names : Bool) : Type 0 where
  pub inside : place ≤ length code
  pub sized : length marks ≡ length code
  pub room : IfSome brought (λ depth. depth ≤ 128)
  pub fit : (q : ℕ) → IfSome (depth_known (mark_at marks q)) (λ depth. depth ≤ 128)
  pub same_end : end_of place (from_place code place) ≡ end_of 0 (from_place code 0)
  pub same_allowed : list_all (λ x. is_allowed context.version context.sort x.instruction)
      (from_place code place) ≡ list_all
      (λ x. is_allowed context.version context.sort x.instruction) (from_place code 0)
  pub same_names : (names && list_all (λ x. names_exist context x.instruction)
      (from_place code place)) ≡ list_all (λ x. names_exist context x.instruction)
      (from_place code 0)
  pub same_leads : (leads && (brought_inside (length code) place brought
      && list_all (leads_inside context.sort (length code)) (from_place code place)))
      ≡ list_all (leads_inside context.sort (length code)) (from_place code 0)
  -- the numbers of operands are looked at only as long as each way leads inside
  pub same_pass : leads ≡ true
      → (if agrees then carry brought place (depths marks)
      >>= (λ t. visit_all t (from_place code place)) else None)
      ≡ visit_all (replicate (length code) None) (from_place code 0)
  pub marked : (q : ℕ) → (slice_index_or (stood_on marks) q false
      || is_start (from_place code place) q) ≡ is_start (from_place code 0) q
  -- what is ahead is a part of all
  pub ahead : (q : ℕ) → list_any (jumps_to q) (from_place code place) ≡ true
      → list_any (jumps_to q) (from_place code 0) ≡ true
  -- only targets are awaited
  pub awaited : (q : ℕ) → is_settled (mark_at marks q) ≡ false
      → list_any (jumps_to q) (from_place code 0) ≡ true
  -- each target is known or ahead
  pub targets : leads ≡ true → (q : ℕ) → list_any (jumps_to q) (from_place code 0) ≡ true
      → (is_known (mark_at marks q) || list_any (jumps_to q) (from_place code place)) ≡ true

-- a walk that has reached the place and has seen nothing wrong
pub record IsWalkAt (context : Context) (code : List ℕ) (w : Walk) (place : ℕ) : Type 0 where
  pub walk : IsWalk context code w.marks.items (brought w.goes_on w.depth) place true true true
  pub room : w.depth ≤ 128
  pub nothing : w.goes_on ≡ false → w.depth ≡ 0

-- a walk that has gone over a whole unit, which is not empty
pub record IsSurveyOf (context : Context) (code : List ℕ) (s : Survey) : Type 0 where
  pub some : 0 < length code
  pub place : ℕ
  pub past : length code ≤ place
  pub walk : IsWalk context code s.marks.items (brought s.goes_on s.depth) place s.leads s.agrees
      s.names
