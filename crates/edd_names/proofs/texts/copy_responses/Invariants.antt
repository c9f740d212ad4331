use Rattle.std.proofs.Common.{◌≡◌, map, take}
use Rattle.edd_syntax.specs.ItemView.{response_code_of}
use Rattle.edd_names.proofs.texts.copy_responses.Given as goal

-- those so far are copied
abbrev pub invariant-loop-response : goal.invariant-loop-response
invariant-loop-response l = map response_code_of l.copies.items
    ≡ map response_code_of (take l.response-index l.responses)
