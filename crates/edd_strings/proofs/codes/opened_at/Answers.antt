-- The code that a bar opens: a bar is ASCII, so the text may be cut after it.
use Rattle.std.proofs.Common.{◌≡◌, ◌<◌, drop, take, length, get_or, arith, sym, ap, ◌∙◌}
use Rattle.std.proofs.lemmas.Str.{IsCharBoundary-after_ascii}
use Rattle.edd_strings.proofs.Pieces.{IsCharBoundary-after_bar, read_code}
use Rattle.edd_strings.proofs.codes.opened_at.Goals as goal

pub range_from-here-requires : goal.range_from-here-requires
range_from-here-requires c = λ _. IsCharBoundary-after_ascii c.args.raw.now c.args.at c.utf8.raw
    c.requires.inside (omega (arith, c.requires.bar))

pub range_from-requires : goal.range_from-requires
range_from-requires c =
    let here = c.range_from-here.result.now in
    let same : c.as_bytes.result.now ≡ here = c.as_bytes.ensures.value in
    let closed : c.in_ok-len.len < length here =
    omega (arith, ap length same, c.in_ok-len.ensures.closed) in
    let is_bar : get_or here c.in_ok-len.len 0 ≡ 124 = ap (λ t. get_or t c.in_ok-len.len 0)
    (sym same) ∙ c.in_ok-len.ensures.bar in
    λ _. IsCharBoundary-after_bar here c.split_at.result.1.now c.in_ok-len.len
    c.range_from-here.utf8 closed is_bar c.split_at.ensures.back

pub returns-clause-some : goal.returns-clause-some
returns-clause-some c =
    let here = c.as_bytes.result.now in
    let same : here ≡ c.range_from-here.result.now = c.as_bytes.ensures.value in
    let code : c.split_at.result.0.now ≡ take c.in_ok-len.len here = c.split_at.ensures.front
    ∙ ap (take c.in_ok-len.len) (sym same) in
    let behind : c.range_from.result.now ≡ drop 1 (drop c.in_ok-len.len here) =
    c.range_from.ensures.value
    ∙ ap (drop 1) (c.split_at.ensures.back ∙ ap (drop c.in_ok-len.len) (sym same)) in
    read_code c.args.raw.now c.args.at c.in_ok-len.len here _ _ c.requires.inside c.requires.bar
    (same ∙ c.range_from-here.ensures.value) c.in_ok-len.ensures.opened
    c.in_ok-len.ensures.closed code behind
