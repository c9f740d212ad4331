use Rattle.std.proofs.Common.{◌≡◌, ◌+◌, map, drop}
use Rattle.edd_syntax.specs.Resolution.{all_declared}
use Rattle.edd_syntax.specs.TreeView.{path_of, declarator_of, numbered_declarator}
use Rattle.edd_name_meanings.specs.Directory.{description_of, read_by}
use Rattle.edd_name_meanings.specs.PathsIn.{paths_in_declarators}
use Rattle.edd_name_meanings.specs.Meanings.{scope_of}
use Rattle.edd_expression_names.proofs.CopyingIn.{Copied}
use Rattle.edd_statement_names.proofs.DeclaratorSteps.{behind, uses_here, uses_from, uses_split, paths_here, paths_split, meant_here, meant_from, declarators_joined}
use Rattle.edd_expression_names.proofs.TokenSteps.{Kept}
use Rattle.edd_name_meanings.specs.TokensIn.{tokens_in_declarator}
use Rattle.edd_statement_names.proofs.declarators.copy_declarators.Given as goal

-- the declarators so far are copied, with their tokens, and their locals are in the scope
abbrev pub invariant-loop-declarator : goal.invariant-loop-declarator
invariant-loop-declarator l =
    Copied (description_of l.fn.names) (declarator_of path_of) numbered_declarator behind uses_here
    uses_from uses_split paths_here paths_in_declarators paths_split
    (meant_here (read_by l.fn.names))
    (meant_from (read_by l.fn.names))
    (λ ws. ws) (declarators_joined (read_by l.fn.names)) (
      scope_of l.fn.scope.items,
      l.fn.next,
    ) l.fn.told.items
    (scope_of l.scope.items, l.next) l.declarator-index l.declarators l.copies.items l.told.items
    × (all_declared (scope_of l.scope.items) l.next
    (map (declarator_of path_of) (drop l.declarator-index l.declarators))
    ≡ all_declared (scope_of l.fn.scope.items) l.fn.next
    (map (declarator_of path_of) l.declarators))
    × (l.next ≡ l.fn.next + l.declarator-index)
    × Kept tokens_in_declarator tokens_in_declarator l.declarator-index l.declarators l.copies.items
