use Rattle.std.proofs.Common.{map, drop, Some}
use Rattle.edd_syntax.specs.WordsView.{text_bytes}
use Rattle.edd_syntax.specs.NameRules.{faults_along}
use Rattle.edd_syntax.specs.Numbers.{kind_of}
use Rattle.edd_syntax.specs.Resolution.{along}
use Rattle.edd_name_meanings.specs.Directory.{description_of}
use Rattle.edd_name_meanings.specs.Paths.{Reaches}
use Rattle.edd_name_meanings.specs.Places.{place_along}
use Rattle.edd_name_meanings.proofs.follow.follow.Given as goal

-- at this step, the rest of the path has the faults and the meaning of the whole
abbrev pub invariant-loop-member : goal.invariant-loop-member
invariant-loop-member l =
    Reaches (description_of l.names) l.allowed
    (faults_along (description_of l.names) l.allowed (text_bytes l.path.base) (kind_of l.fn.from)
    (Some l.fn.from) (map text_bytes l.path.members.items))
    (place_along (description_of l.names) l.path.at (kind_of l.fn.from) (Some l.fn.from)
    (map text_bytes l.path.members.items))
    (along (description_of l.names) l.fn.from (map text_bytes l.path.members.items))
    l.here (map text_bytes (drop l.member-index l.path.members.items))
