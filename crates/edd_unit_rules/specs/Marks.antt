-- What a walk over a unit knows of its places.
use Rattle.std.specs.Prelude.{ℕ, ◌==◌, Bool, true, false, List, map, Option, Some, None, slice_index_or, slice_set, if◌then◌else◌}
use Rattle.edd_unit_rules.specs.declared.marks.Mark.{Mark}
use Rattle.edd_unit_rules.specs.declared.marks.Mark.TheVariants.{Unknown, Awaited, Stands}
use Rattle.edd_unit_rules.specs.Depths.{Table}

-- how many operands are known to be at the place
abbrev pub depth_known : Mark → Option ℕ
depth_known Unknown = None
depth_known (Awaited depth) = Some depth
depth_known (Stands depth) = Some depth

-- there is an instruction
abbrev pub is_stood_on : Mark → Bool
is_stood_on Unknown = false
is_stood_on (Awaited depth) = false
is_stood_on (Stands depth) = true

-- no jump leads there, or there is an instruction
abbrev pub is_settled : Mark → Bool
is_settled Unknown = true
is_settled (Awaited depth) = false
is_settled (Stands depth) = true

-- the numbers of operands that the marks say, place by place
abbrev pub depths : List Mark → Table
depths marks = map depth_known marks

-- whether there is an instruction, place by place
abbrev pub stood_on : List Mark → List Bool
stood_on marks = map is_stood_on marks

-- how many operands the instruction before brings, if it goes on
abbrev pub brought : Bool → ℕ → Option ℕ
brought goes_on depth = if goes_on then Some depth else None

-- How many operands there are where the instruction before brings so many, if it goes on, and so
-- many are known: none where nothing says how many, and no number where others are brought than are
-- known.
abbrev pub arrival : (brought known : Option ℕ) → Option ℕ
arrival None None = Some 0
arrival None (Some before) = Some before
arrival (Some depth) None = Some depth
arrival (Some depth) (Some before) = if before == depth then Some depth else None

-- the mark at a place, and none past the end
abbrev pub mark_at : List Mark → ℕ → Mark
mark_at marks place = slice_index_or marks place Unknown

-- something is known of the place
abbrev pub is_known : Mark → Bool
is_known Unknown = false
is_known (Awaited depth) = true
is_known (Stands depth) = true

-- what is known of the place doesn't differ
abbrev pub agrees_with : Mark → ℕ → Bool
agrees_with Unknown depth = true
agrees_with (Awaited known) depth = known == depth
agrees_with (Stands known) depth = known == depth

-- the marks where so many operands are noted at a place that has this mark
abbrev pub note_by : Mark → List Mark → ℕ → ℕ → List Mark
note_by Unknown marks place depth = slice_set marks place (Awaited depth)
note_by (Awaited known) marks place depth = marks
note_by (Stands known) marks place depth = marks

-- the marks where a jump brings so many operands to the place
abbrev pub note_at : List Mark → ℕ → ℕ → List Mark
note_at marks place depth = note_by (mark_at marks place) marks place depth
