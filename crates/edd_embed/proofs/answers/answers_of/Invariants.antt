use Rattle.std.proofs.Common.{◌≡◌, ◌++◌, map, drop}
use Rattle.edd_syntax.specs.Answers.{answer_of}
use Rattle.edd_embed.specs.Playing.{answers_of}
use Rattle.edd_embed.proofs.answers.answers_of.Given as goal

abbrev pub invariant-loop-given : goal.invariant-loop-given
invariant-loop-given l = map answer_of l.answers.items ++ answers_of (drop l.given-index l.givens) l.rest
    ≡ answers_of l.givens l.settings
