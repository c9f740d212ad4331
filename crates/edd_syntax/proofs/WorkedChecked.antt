-- A worked description that is resolved and checked: `c.m = 300;` in a method, where c is a
-- collection whose member m is x.
use Rattle.std.proofs.Common.{refl, []}
use Rattle.std.specs.Prelude.{codes}
use Rattle.edd_syntax.specs.Reference.{Path}
use Rattle.edd_syntax.specs.Item.{Description}
use Rattle.edd_syntax.specs.Statement.{slots_of}
use Rattle.edd_syntax.specs.TwosComplement.{wrap}
use Rattle.edd_syntax.specs.Words.{words_of, pieces, unescape}
use Rattle.edd_syntax.specs.WellFormed.{are_items}
use Rattle.edd_syntax.specs.ResolvedTrees.{resolved_unit, resolved_stmt, resolved_by}
use Rattle.edd_syntax.specs.Accepted.{IsAccepted}
use Rattle.edd_syntax.specs.Resolved.{IsResolved, IsChecked}
use Rattle.std.proofs.Common.{◌∷◌}
use Rattle.edd_syntax.proofs.WorkedNames.{source, named, dotted, sets, the_x}

abbrev written : Description Path
written = source (named (codes "x")) (sets (dotted (codes "c") (codes "m")) 300 ∷ [])

member_assignment_is_resolved : IsResolved (source the_x (sets the_x 300 ∷ []))
unfolding are_items resolved_unit resolved_stmt resolved_by slots_of
member_assignment_is_resolved = record {
  unit = written;
  well_formed = refl;
  meanings = refl;
  no_breach = refl;
}

member_assignment_is_checked : IsChecked (source the_x (sets the_x 300 ∷ []))
unfolding wrap
member_assignment_is_checked =
    record { is_resolved = member_assignment_is_resolved; no_breach = refl }

member_assignment_is_accepted : IsAccepted written
unfolding resolved_unit resolved_stmt resolved_by slots_of wrap words_of pieces unescape
member_assignment_is_accepted =
    record { resolved = source the_x (sets the_x 300 ∷ []); meanings = refl; no_breach = refl }
