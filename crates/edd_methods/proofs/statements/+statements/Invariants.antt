use Rattle.std.proofs.Common.{◌+◌, ◌*◌, ◌∷◌, [], map}
use Rattle.edd_syntax.specs.Size.{body_nodes, statement_nodes}
use Rattle.edd_syntax.specs.Statement.{body_from}
use Rattle.edd_syntax.specs.TreeView.{numbered_part, numbered_stmt}
use Rattle.edd_methods.proofs.NumberedParts.{Front}
use Rattle.edd_methods.proofs.WrittenBodies.{body_left, body_split, parts_texts, switch_left}
use Rattle.edd_methods.proofs.statements.+statements.Given as goal

abbrev pub decreases-write_statement : goal.decreases-write_statement
decreases-write_statement l = 4 * statement_nodes (numbered_stmt l.x.now)

abbrev pub decreases-write_if : goal.decreases-write_if
decreases-write_if l = 4 * statement_nodes (numbered_stmt l.first.now) + 1

abbrev pub decreases-write_if_else : goal.decreases-write_if_else
decreases-write_if_else l =
    4 * (statement_nodes (numbered_stmt l.first.now)
    + statement_nodes (numbered_stmt l.otherwise.now)) + 1

abbrev pub decreases-write_loop : goal.decreases-write_loop
decreases-write_loop l = 4 * statement_nodes (numbered_stmt l.body.now) + 1

abbrev pub decreases-write_part : goal.decreases-write_part
decreases-write_part l = 4 * body_nodes (body_from (numbered_part l.part.now ∷ [])) + 1

abbrev pub decreases-write_parts : goal.decreases-write_parts
decreases-write_parts l = 4 * body_nodes (body_from (map numbered_part l.body.now)) + 2

abbrev pub decreases-write_arms : goal.decreases-write_arms
decreases-write_arms l = 4 * body_nodes (body_from (map numbered_part l.parts.now)) + 2

abbrev pub decreases-write_switch : goal.decreases-write_switch
decreases-write_switch l = 4 * body_nodes (body_from (map numbered_part l.parts.now)) + 3

-- the parts so far are written
abbrev pub invariant-write_parts-loop-part : goal.invariant-write_parts-loop-part
invariant-write_parts-loop-part l =
    Front numbered_part parts_texts body_split (body_left l.leads.out l.leads.back)
    l.part-index l.body l.initial.table l.initial.code l.table l.code

-- so are they, and their labels are noted
abbrev pub invariant-write_arms-loop-part : goal.invariant-write_arms-loop-part
invariant-write_arms-loop-part l =
    Front numbered_part parts_texts body_split (switch_left l.leads.out l.leads.back)
    l.part-index l.parts l.initial.table (
      l.initial.code,
      l.initial.labels.cases.items,
      l.initial.labels.default,
    ) l.table (l.code, l.labels.cases.items, l.labels.default)
