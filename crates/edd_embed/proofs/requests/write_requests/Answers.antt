use Rattle.std.proofs.Common.{◌≡◌, ◌≤◌, List, length, map, take, min, arith, sym, ap, ◌∙◌}
use Rattle.std.proofs.lemmas.List.{take-map, take_min}
use Rattle.edd_embed.specs.Playing.{plain_request}
use Rattle.edd_embed.specs.Records.{written_over}
use Rattle.edd_embed.specs.declared.requests.PlainRequest.{PlainRequest}
use Rattle.edd_embed.proofs.Writing.{all_written}
use Rattle.edd_embed.proofs.requests.write_requests.Goals as goal

pub returns : goal.returns
returns c =
    let room = c.args.room.now in
    let requests = c.args.requests.now in
    let count : c.loop-index.index ≡ min (length room) (length requests) =
    omega (arith, c.loop-index-test.false, c.loop-index.auto.index-end, c.min-count.ensures) in
    let within : c.loop-index.index ≤ length room = omega (arith, count) in
    all_written plain_request requests room c.loop-index.room c.loop-index.index within
    c.loop-index.invariant
    ∙ ap (λ (xs : List PlainRequest). written_over xs room)
    (ap (λ k. map plain_request (take k requests)) count
    ∙ ap (map plain_request) (take_min (length room) requests)
    ∙ sym (take-map plain_request (length room) requests))
