-- From where the number of operands at a place of a unit follows.
use Rattle.std.specs.Prelude.{◌≡◌, ℕ, ◌+◌, ◌<◌, true, false, List, Option, Some, None}
use Rattle.edd_instructions.specs.declared.unit.Way.{Way}
use Rattle.edd_instructions.specs.Units.{Placed, AreDepths, is_start}
use Rattle.edd_port.specs.declared.depths.Origin.{Origin}
use Rattle.edd_port.specs.declared.depths.Origin.TheVariants.{Missing, Fresh, Led}
use Rattle.edd_port.specs.declared.depths.Segment.{Segment}

-- Whatever fits the instructions, it has so many operands more at one place than at another: a rise
-- of 128 says that it has as many.
abbrev pub Rises : List Placed → (from rise to : ℕ) → Type 0
Rises xs from rise to = (depth : ℕ → ℕ) → AreDepths xs depth → depth to + 128 ≡ depth from + rise

-- a run from this place on, after an instruction with this way onward, if it has one
abbrev pub after_way : (start rest next : ℕ) → Option Way → Segment
after_way start rest next (Some way) = record { start = start; rise = rest + way.leaves }
after_way start rest next None = record { start = next; rise = 128 }

-- an instruction of a run leads to the place: the start of the run is before it
pub record IsLed (xs : List Placed) (place : ℕ) (s : Segment) : Type 0 where
  pub before : s.start < place
  pub start : is_start xs s.start ≡ true
  pub there : is_start xs place ≡ true
  pub rises : Rises xs s.start s.rise place

-- what is said of a place among the instructions
abbrev pub IsOriginOf : List Placed → (place : ℕ) → Origin → Type 0
IsOriginOf xs place Missing = is_start xs place ≡ false
IsOriginOf xs place Fresh = (is_start xs place ≡ true)
    × ((depth : ℕ → ℕ) → AreDepths xs depth → depth place ≡ 0)
IsOriginOf xs place (Led s) = IsLed xs place s
