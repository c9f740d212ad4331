use Rattle.edd_lexer.proofs.LineCounts.{few_ended}
use Rattle.edd_lexer.proofs.gaps.behind_close.Goals as goal

pub lines_after-lines-requires : goal.lines_after-lines-requires
lines_after-lines-requires c = few_ended c.args.body.now c.loop-rest.lines c.loop-rest.rest.now
    c.loop-rest.invariant.lines c.requires
