use Rattle.std.proofs.Common.{◌≡◌}
use Rattle.edd_syntax.specs.TreeView.{numbered_argument}
use Rattle.edd_syntax.proofs.VersionLaws.{holds_from, in_arguments, in_argument, arguments_split}
use Rattle.edd_syntax.proofs.version.+version_exprs.Given as goal

-- no argument so far names it
abbrev pub invariant-in_arguments-loop-argument : goal.invariant-in_arguments-loop-argument
invariant-in_arguments-loop-argument l =
    holds_from in_arguments in_argument numbered_argument arguments_split l.argument-index
    l.arguments
    ≡ holds_from in_arguments in_argument numbered_argument arguments_split 0 l.arguments
