use Rattle.std.proofs.Common.{[], ◌∷◌, ◌+◌, ◌*◌, map, take}
use Rattle.edd_syntax.specs.Expression.{arguments_from}
use Rattle.edd_syntax.specs.Size.{nodes, argument_nodes}
use Rattle.edd_syntax.specs.TreeView.{numbered_argument, numbered_expr}
use Rattle.edd_code.specs.Tables.{Grows}
use Rattle.edd_code.specs.Written.{HoldsTexts}
use Rattle.edd_code.proofs.TextsHeld.{texts_of}
use Rattle.edd_code.proofs.texts.+texts.Given as goal

abbrev pub decreases-add_texts : goal.decreases-add_texts
decreases-add_texts l = 4 * nodes (numbered_expr l.e.now)

abbrev pub decreases-add_both : goal.decreases-add_both
decreases-add_both l = 4 * (nodes (numbered_expr l.left.now) + nodes (numbered_expr l.right.now))
    + 1

abbrev pub decreases-add_argument_texts : goal.decreases-add_argument_texts
decreases-add_argument_texts l =
    4 * argument_nodes (arguments_from (map numbered_argument l.arguments.now)) + 2

abbrev pub decreases-add_argument : goal.decreases-add_argument
decreases-add_argument l =
    4 * argument_nodes (arguments_from (numbered_argument l.argument.now ∷ [])) + 1

-- the texts of the arguments so far are in the table
abbrev pub invariant-add_argument_texts-loop-argument :
    goal.invariant-add_argument_texts-loop-argument
invariant-add_argument_texts-loop-argument l = record {
  held : HoldsTexts l.initial.table
      (texts_of (take l.argument-index (map numbered_argument l.arguments))) l.table;
  grows : Grows l.initial.table l.table;
}
