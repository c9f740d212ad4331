use Rattle.std.proofs.Common.{◌≡◌, ◌+◌, ◌*◌, length}
use Rattle.edd_expression_parser.proofs.CondLoops.{with_conds, elements_here, with_arms, arms_here}
use Rattle.edd_expression_parser.proofs.cond.+cond.Given as goal

abbrev pub decreases-cond : goal.decreases-cond
decreases-cond g l = 8 * l.height_left

abbrev pub decreases-layer : goal.decreases-layer
decreases-layer g l = 8 * l.height_left + 7

abbrev pub decreases-after_if : goal.decreases-after_if
decreases-after_if g l = 8 * l.height_left + 6

abbrev pub decreases-after_select : goal.decreases-after_select
decreases-after_select g l = 8 * l.height_left + 6

abbrev pub decreases-otherwise : goal.decreases-otherwise
decreases-otherwise g l = 8 * l.height_left + 5

abbrev pub decreases-arms : goal.decreases-arms
decreases-arms g l = 8 * l.height_left + 5

abbrev pub decreases-arm : goal.decreases-arm
decreases-arm g l = 8 * l.height_left + 4

abbrev pub decreases-braces : goal.decreases-braces
decreases-braces g l = 8 * l.height_left + 4

abbrev pub decreases-branch : goal.decreases-branch
decreases-branch g l = 8 * l.height_left + 3

abbrev pub decreases-elements : goal.decreases-elements
decreases-elements g l = 8 * l.height_left + 1

abbrev pub invariant-elements-loop-all : goal.invariant-elements-loop-all
invariant-elements-loop-all g l =
    let view = g.V.ParseValue.view in
    let read = elements_here view g.V.ParseValue.read l.height_left in
    with_conds view l.all.items (read l.cursor) ≡ read l.fn.cursor

abbrev pub decreases-elements-loop-all : goal.decreases-elements-loop-all
decreases-elements-loop-all g l = length l.cursor

abbrev pub invariant-arms-loop-form : goal.invariant-arms-loop-form
invariant-arms-loop-form g l =
    let view = g.V.ParseValue.view in
    let read = arms_here view l.form g.V.ParseValue.read l.height_left in
    with_arms view l.all.items (read l.cursor) ≡ read l.fn.cursor

abbrev pub decreases-arms-loop-form : goal.decreases-arms-loop-form
decreases-arms-loop-form g l = length l.cursor
