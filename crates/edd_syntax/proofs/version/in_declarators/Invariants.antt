use Rattle.std.proofs.Common.{◌≡◌}
use Rattle.edd_syntax.specs.TreeView.{numbered_declarator}
use Rattle.edd_syntax.proofs.VersionLaws.{holds_from, in_declarators, in_declarator, declarators_split}
use Rattle.edd_syntax.proofs.version.in_declarators.Given as goal

-- no declarator so far names it
abbrev pub invariant-loop-d : goal.invariant-loop-d
invariant-loop-d l =
    holds_from in_declarators in_declarator numbered_declarator declarators_split l.d-index
    l.declarators
    ≡ holds_from in_declarators in_declarator numbered_declarator declarators_split 0 l.declarators
