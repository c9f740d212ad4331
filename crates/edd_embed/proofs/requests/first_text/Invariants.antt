use Rattle.std.proofs.Common.{◌≡◌, drop}
use Rattle.edd_embed.specs.Playing.{first_text}
use Rattle.edd_embed.proofs.requests.first_text.Given as goal

-- no text is among the arguments so far
abbrev pub invariant-loop-argument : goal.invariant-loop-argument
invariant-loop-argument l = first_text (drop l.argument-index l.arguments)
    ≡ first_text l.arguments
