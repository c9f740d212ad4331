use Rattle.std.proofs.Common.{ℕ, ◌-◌, List, drop, length, sym, take, ◌∙◌}
use Rattle.edd_lexer.proofs.LineCounts.{line_comment_ends, tail_is}
use Rattle.edd_lexer.proofs.lexer.slash_at.Goals as goal

pub returns-then-next_is-clause-counts : goal.returns-then-next_is-clause-counts
returns-then-next_is-clause-counts c =
    let text = c.args.text.now in
    let tail : List ℕ = take (length text - 1) (drop 1 text) in
    line_comment_ends text tail _ c.behind_line.result.now c.requires.no_blank (tail_is text)
    (sym c.next_is.ensures ∙ c.if-next_is.true) (tail_is tail) c.behind_line.ensures.rest
