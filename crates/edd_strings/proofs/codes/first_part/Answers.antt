-- Each turn goes on behind a mark, which is a backslash or a bar that opens no code, to the next one.
use Rattle.std.proofs.Common.{◌≡◌, ◌<◌, ◌≤◌, IsTrue, get_or, length, subst, sym, take, ap, ◌∙◌, arith}
use Rattle.std.proofs.lemmas.Bool.{false≢true}
use Rattle.edd_syntax.specs.Words.{unescape}
use Rattle.edd_strings.proofs.Marks.{IsPlainTo, marked_backslash, plain_next, to_mark, unescape-all, unescape-front}
use Rattle.edd_strings.proofs.Pieces.{IsReadTo, read_all, read_bar, read_escape, read_start}
use Rattle.edd_strings.proofs.codes.first_part.Goals as goal
use Rattle.edd_strings.proofs.codes.first_part.Goals.{then-bytes-at-eq124+in_default, else-bytes-at-eq124}

pub loop-at-init : goal.loop-at-init
loop-at-init c =
    let same = c.as_bytes-bytes.ensures.value in
    let found = c.mark_from-at.ensures in
    let (read, plain, mark) = to_mark c.args.raw.now c.as_bytes-bytes.result.now 0
    c.mark_from-at.result same found.ahead found.unmarked found.mark (read_start c.args.raw.now) in
    (same, read, (λ _. plain (λ i below. absurd (omega (arith, below)))), mark)

pub invariant_of-result : goal.invariant_of-result
invariant_of-result c =
    let (same, read, plain, mark) = c.loop-at.invariant in
    let inside : c.loop-at.at < length c.args.raw.now =
    omega (arith, c.loop-at-test.true, ap length same) in
    let front : c.range.result.now ≡ take c.loop-at.at c.args.raw.now = c.range.ensures.value
    ∙ ap (λ n. take n c.args.raw.now) (omega arith) in
    record {
      plain = λ is. subst (λ t. unescape t ≡ t) (sym front)
          (unescape-front c.args.raw.now c.loop-at.at inside (plain is));
    }

pub loop-at-preserved : goal.loop-at-preserved
loop-at-preserved c =
    let raw = c.args.raw.now in
    let at = c.loop-at.at in
    let (same, read, plain, mark) = c.loop-at.invariant in
    let inside : at < length raw = omega (arith, c.loop-at-test.true, ap length same) in
    let byte : get_or c.as_bytes-bytes.result.now at 0 ≡ get_or raw at 0 = ap (λ t. get_or t at 0)
    same in
    let behind : IsReadTo raw c.if-bytes-at-eq124.behind
    × (IsTrue c.if-bytes-at-eq124.is_plain → IsPlainTo raw c.if-bytes-at-eq124.behind) =
    elim c.if-bytes-at-eq124.branch [
      | then-bytes-at-eq124+in_default w ↦
          let is_bar : get_or raw at 0 ≡ 124 = sym byte ∙ w.if-bytes-at-eq124.true in
          rw (w.behind-is, w.is_plain-is) (
            read_bar raw at inside is_bar w.in_default.ensures.none read,
            (λ is. plain_next raw at (λ e. absurd (omega (arith, is_bar, e))) (plain is)),
          )
      | else-bytes-at-eq124 w ↦
          let backslash : get_or raw at 0 ≡ 92 = marked_backslash (get_or raw at 0) (mark inside)
          (λ e. w.if-bytes-at-eq124.false (byte ∙ e)) in
          rw (w.behind-is, w.is_plain-is) (
            read_escape raw at inside backslash read,
            (λ is. absurd (false≢true is)),
          )
    ] in
    let found = c.mark_from-at-in-loop-at.ensures in
    let (read_on, plain_on, mark_on) = to_mark raw c.as_bytes-bytes.result.now
    c.if-bytes-at-eq124.behind c.mark_from-at-in-loop-at.result same found.ahead found.unmarked
    found.mark behind.0 in
    (same, read_on, (λ is. plain_on (behind.1 is)), mark_on)

pub invariant_of-result-2 : goal.invariant_of-result-2
invariant_of-result-2 c =
    let (same, read, plain, mark) = c.loop-at.invariant in
    let over : length c.args.raw.now ≤ c.loop-at.at =
    omega (arith, c.loop-at-test.false, ap length same) in
    record { plain = λ is. unescape-all c.args.raw.now c.loop-at.at over (plain is) }

pub returns-clause-pieces : goal.returns-clause-pieces
returns-clause-pieces c =
    let (same, read, plain, mark) = c.loop-at.invariant in
    let over : length c.args.raw.now ≤ c.loop-at.at =
    omega (arith, c.loop-at-test.false, ap length same) in
    read_all c.args.raw.now c.loop-at.at over read
