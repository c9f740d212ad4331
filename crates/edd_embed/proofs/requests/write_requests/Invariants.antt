use Rattle.edd_embed.specs.Playing.{plain_request}
use Rattle.edd_embed.proofs.Writing.{Written}
use Rattle.edd_embed.proofs.requests.write_requests.Given as goal

abbrev pub invariant-loop-index : goal.invariant-loop-index
invariant-loop-index l = Written plain_request l.requests l.initial.room l.room l.index
