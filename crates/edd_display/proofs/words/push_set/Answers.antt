use Rattle.std.proofs.Common.{◌<◌, string_bytes, take, ◌∙◌}
use Rattle.std.proofs.lemmas.List.{take_all}
use Rattle.std.specs.Char.{encode_utf8}
use Rattle.edd_display.specs.Words.{words_set}
use Rattle.edd_display.proofs.Marking.{Marked, worded, sign_small, marked_none, set_at, unset_at, marked_some, marked_nothing}
use Rattle.edd_display.proofs.words.push_set.Goals as goal
use Rattle.edd_display.proofs.words.push_set.Goals.{then-bits-bit-ne0+in_ok-push+in_ok-push_str, else-bits-bit-ne0}

pub loop-bit-init : goal.loop-bit-init
loop-bit-init c = marked_none c.args.bits (string_bytes c.args.line.now)

pub loop-bit-preserved : goal.loop-bit-preserved
loop-bit-preserved c = elim c.if-bits-bit-ne0.branch [
  | then-bits-bit-ne0+in_ok-push+in_ok-push_str w ↦
      let done = set_at c.args.bits c.args.words.now c.loop-bit.bit-index _ c.loop-bit.before _ _ c.loop-bit-test.true w.if-bits-bit-ne0.true c.loop-bit.invariant in
      let small : c.loop-bit.before < 128 = rw c.loop-bit.invariant.next (sign_small (words_set c.args.bits (worded (take c.loop-bit.bit-index c.args.words.now)))) in
      rw (w.before-is, w.line-is, w.in_ok-push_str.ensures.bytes, w.in_ok-push.ensures.bytes, w.in_ok-push.ensures.ascii small) done
  | else-bits-bit-ne0 w ↦
      rw (w.before-is, w.line-is) (unset_at c.args.bits c.args.words.now c.loop-bit.bit-index _ c.loop-bit.before _ _ c.loop-bit-test.true w.if-bits-bit-ne0.false c.loop-bit.invariant)
]

pub returns-in_ok-push-2 : goal.returns-in_ok-push-2
unfolding encode_utf8
returns-in_ok-push-2 c =
    let all : Marked c.args.bits (worded c.args.words.now) 32 (string_bytes c.args.line.now) (string_bytes c.loop-bit.line) = rw (take_all c.loop-bit.bit-index c.args.words.now c.loop-bit-test.false, c.if-before-eq32.true) at c.loop-bit.invariant in
    c.in_ok-push-2.ensures.bytes ∙ marked_some c.args.bits (worded c.args.words.now) _ _ all

pub returns-else-before-eq32 : goal.returns-else-before-eq32
returns-else-before-eq32 c =
    marked_nothing c.args.bits (worded c.args.words.now) c.loop-bit.before _ _ c.if-before-eq32.false (rw (take_all c.loop-bit.bit-index c.args.words.now c.loop-bit-test.false) at c.loop-bit.invariant)
