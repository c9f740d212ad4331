use Rattle.edd_lexer.proofs.LineCounts.{mark_ends, tail_is}
use Rattle.edd_lexer.proofs.lexer.hash_at.Goals as goal

pub returns-then-makes_mark-clause-counts : goal.returns-then-makes_mark-clause-counts
returns-then-makes_mark-clause-counts c =
    let text = c.args.text.now in
    mark_ends text _ c.behind_line.result.now c.requires.no_blank (tail_is text)
    c.behind_line.ensures.rest
