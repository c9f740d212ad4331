-- Which way bytes are written, by what is at their place.
use Rattle.std.specs.Prelude.{List, [], ◌∷◌, ◌++◌, Option, Some, None, ⊤}
use Rattle.std.specs.List.{Contains}
use Rattle.edd_system.specs.declared.way.Identity.{Identity}
use Rattle.edd_system.specs.declared.way.Standing.{Standing}
use Rattle.edd_system.specs.declared.way.Standing.TheVariants.{Free, Plain, Fixed, Stream}
use Rattle.edd_system.specs.declared.way.Way.{Way}
use Rattle.edd_system.specs.declared.way.Way.TheVariants.{Beside, AsItIs, Refused}

-- the file that is there was opened
abbrev pub IsOpened : Standing → List Identity → Type 0
IsOpened Free opened = ⊥
IsOpened (Plain identity) opened = Contains opened identity
IsOpened (Fixed identity) opened = Contains opened identity
IsOpened Stream opened = ⊥

-- there is nothing, or a plain file
abbrev pub IsReplaceable : Standing → Type 0
IsReplaceable Free = ⊤
IsReplaceable (Plain _) = ⊤
IsReplaceable (Fixed _) = ⊥
IsReplaceable Stream = ⊥

-- the way for what is there: a file that was opened is refused, and of the others plain files
-- and new ones are written beside their place, and all else is written as it is
abbrev pub IsWay : Standing → List Identity → Way → Type 0
IsWay standing opened Refused = IsOpened standing opened
IsWay standing opened Beside = ¬ (IsOpened standing opened) × IsReplaceable standing
IsWay standing opened AsItIs = ¬ (IsOpened standing opened) × ¬ (IsReplaceable standing)

-- the opened files after one more was opened, if it is a file
abbrev pub with_opened : Option Identity → List Identity → List Identity
with_opened None opened = opened
with_opened (Some identity) opened = opened ++ identity ∷ []
