use Rattle.std.proofs.Common.{ℕ, List, sym, subst, ◌∙◌}
use Rattle.std.proofs.lemmas.List.{drop_more}
use Rattle.edd_layout.specs.Comments.{SameComments}
use Rattle.edd_layout.proofs.CommentEnds.{one_blank, one_other_blank}
use Rattle.edd_layout.proofs.comments.count_blanks.Goals as goal

pub loop-place-preserved : goal.loop-place-preserved
loop-place-preserved c =
    let text = c.args.text.now in
    let at = c.loop-place.place in
    let more = drop_more text at 0 c.loop-place-test.true in
    let blank = sym c.is_blank.ensures ∙ c.if-not-is_blank.false in (
      λ there same. c.loop-place.invariant.0 there
          (subst (λ (l : List ℕ). SameComments l there) (sym more) (one_blank _ _ there blank same)),
      λ here same. c.loop-place.invariant.1 here
          (subst (λ (l : List ℕ). SameComments here l) (sym more)
          (one_other_blank _ here _ blank same)),
    )
