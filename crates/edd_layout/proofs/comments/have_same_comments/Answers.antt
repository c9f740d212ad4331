use Rattle.std.proofs.Common.{ℕ, List, drop, sym, ap, subst, ◌∙◌}
use Rattle.edd_layout.specs.Comments.{SameComments, comment, without_returns}
use Rattle.edd_layout.proofs.comments.have_same_comments.Goals as goal

pub loop-count-preserved : goal.loop-count-preserved
loop-count-preserved c = λ same.
    let behind : SameComments c.split_at.result.1.now c.split_at-in-Some.result.1.now =
    c.behind_blanks-left-in-Some.ensures.here _ (c.behind_blanks-right-in-Some.ensures.there _ same)
    in
    c.loop-count.invariant
    (comment c.in-Some.count c.in-Some-comment_length.other_count c.in-Some.ensures.sound
    c.in-Some-comment_length.ensures.sound
    (ap without_returns (sym c.split_at.ensures.front)
    ∙ c.are_same_texts.ensures c.if-not-are_same_texts.false
    ∙ ap without_returns c.split_at-in-Some.ensures.front)
    (subst (λ (l : List ℕ). SameComments l
    (drop c.in-Some-comment_length.other_count c.loop-count.right.now)) c.split_at.ensures.back
    (subst (λ (l : List ℕ). SameComments c.split_at.result.1.now l) c.split_at-in-Some.ensures.back
    behind)))
