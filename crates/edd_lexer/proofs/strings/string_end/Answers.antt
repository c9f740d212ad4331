use Rattle.edd_lexer.proofs.LineCounts.{few_ended}
use Rattle.edd_lexer.proofs.strings.string_end.Goals as goal

pub lines_after-lines-requires : goal.lines_after-lines-requires
lines_after-lines-requires c = few_ended c.args.inside.now c.loop-rest.lines c.loop-rest.rest.now
    c.loop-rest.invariant.lines c.requires

pub lines_after-lines-requires-else-first-eq34 : goal.lines_after-lines-requires-else-first-eq34
lines_after-lines-requires-else-first-eq34 c = few_ended c.args.inside.now c.loop-rest.lines
    c.loop-rest.rest.now c.loop-rest.invariant.lines c.requires
