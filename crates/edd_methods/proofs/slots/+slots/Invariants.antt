use Rattle.std.proofs.Common.{◌≡◌, ◌+◌, ◌*◌, ◌∷◌, [], drop, map}
use Rattle.edd_syntax.specs.Size.{body_nodes, statement_nodes}
use Rattle.edd_syntax.specs.Statement.{body_from, slots_in}
use Rattle.edd_syntax.specs.TreeView.{numbered_part, numbered_stmt}
use Rattle.edd_methods.proofs.slots.+slots.Given as goal

abbrev pub decreases-slots_of : goal.decreases-slots_of
decreases-slots_of l = 3 * statement_nodes (numbered_stmt l.x.now)

abbrev pub decreases-slots_of_part : goal.decreases-slots_of_part
decreases-slots_of_part l = 3 * body_nodes (body_from (numbered_part l.part.now ∷ [])) + 1

abbrev pub decreases-slots_in : goal.decreases-slots_in
decreases-slots_in l = 3 * body_nodes (body_from (map numbered_part l.body.now)) + 2

-- the slots so far and those of the other parts are those of all
abbrev pub invariant-slots_in-loop-part : goal.invariant-slots_in-loop-part
invariant-slots_in-loop-part l = l.slots
    + slots_in (body_from (map numbered_part (drop l.part-index l.body)))
    ≡ slots_in (body_from (map numbered_part l.body))
