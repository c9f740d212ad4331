use Rattle.edd_expression_parser.proofs.CondLoops.{element_left}
use Rattle.edd_expression_parser.proofs.cond.+cond.Goals as goal

pub elements-loop-all-smaller : goal.elements-loop-all-smaller
elements-loop-all-smaller g t c =
    element_left g.V.ParseValue.read g.met.V.ParseValue.shortens c.args.height_left
    c.loop-all.cursor _ c.cond.new.cursor c.skip_comma.new.cursor c.in_ok-cond.ensures
    c.skip_comma.ensures
