use Rattle.std.proofs.Common.{◌≡◌, ◌+◌, map, drop}
use Rattle.edd_syntax.specs.Statement.{body_from, slots_in}
use Rattle.edd_syntax.specs.TreeView.{path_of, part_of, numbered_part}
use Rattle.edd_name_meanings.specs.Directory.{description_of, read_by}
use Rattle.edd_name_meanings.specs.PathsIn.{paths_in_parts}
use Rattle.edd_name_meanings.specs.Meanings.{scope_of}
use Rattle.edd_statement_names.specs.ResolvedParts.{paths_in_part}
use Rattle.edd_expression_names.proofs.CopyingIn.{Copied}
use Rattle.edd_statement_names.proofs.StatementSteps.{behind, uses_here, uses_from, uses_split, paths_split, meant_here, meant_from, parts_joined, stmt_depth, parts_depth, part_depth}
use Rattle.edd_expression_names.proofs.TokenSteps.{Kept}
use Rattle.edd_name_meanings.specs.TokensIn.{tokens_in_part}
use Rattle.edd_statement_names.proofs.statements.+statements.Given as goal

-- the parts so far are copied, with their tokens, and their locals took as many slots as they have
abbrev pub invariant-copy_body-loop-part : goal.invariant-copy_body-loop-part
invariant-copy_body-loop-part l =
    Copied (description_of l.fn.names) (part_of path_of) numbered_part behind uses_here uses_from
    uses_split paths_in_part paths_in_parts paths_split (meant_here (read_by l.fn.names))
    (meant_from (read_by l.fn.names))
    body_from
    (parts_joined (read_by l.fn.names)) (scope_of l.fn.scope, l.fn.next) l.fn.told.items
    (scope_of l.inner.items, l.next) l.part-index l.parts l.copies.items l.told.items
    × (l.next + slots_in (body_from (map (part_of path_of) (drop l.part-index l.parts))) ≡ l.fn.next
    + slots_in (body_from (map (part_of path_of) l.parts)))
    × Kept tokens_in_part tokens_in_part l.part-index l.parts l.copies.items

abbrev pub decreases-copy_stmt : goal.decreases-copy_stmt
decreases-copy_stmt l = stmt_depth l.s.now

abbrev pub decreases-copy_body : goal.decreases-copy_body
decreases-copy_body l = parts_depth l.parts.now + 3

abbrev pub decreases-copy_part : goal.decreases-copy_part
decreases-copy_part l = part_depth l.part.now + 1

abbrev pub decreases-copy_boxed : goal.decreases-copy_boxed
decreases-copy_boxed l = stmt_depth l.s.now + 1

abbrev pub decreases-copy_guarded : goal.decreases-copy_guarded
decreases-copy_guarded l = stmt_depth l.body.now + 2

abbrev pub decreases-copy_choice : goal.decreases-copy_choice
decreases-copy_choice l = stmt_depth l.first.now + stmt_depth l.otherwise.now + 3

abbrev pub decreases-copy_repeated : goal.decreases-copy_repeated
decreases-copy_repeated l = stmt_depth l.body.now + 2

abbrev pub decreases-copy_looped : goal.decreases-copy_looped
decreases-copy_looped l = stmt_depth l.body.now + 2

abbrev pub decreases-copy_switched : goal.decreases-copy_switched
decreases-copy_switched l = parts_depth l.parts.now + 4
