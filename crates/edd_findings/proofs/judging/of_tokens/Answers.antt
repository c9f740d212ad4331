use Rattle.std.proofs.Common.{rules}
use Rattle.std.specs.Prelude.{string_bytes}
use Rattle.edd_findings.proofs.VerdictLaws.{none_before, refusal_among}
use Rattle.edd_findings.proofs.judging.of_tokens.Goals as goal

-- the tokens spell no unit
pub returns : goal.returns
returns c = record {
  sound =
      c.refused_alone.ensures c.args.text.now c.in-Err.ensures.refused (λ same. search rules)
      (refusal_among c.args.text.now (string_bytes c.in_ok-refusal-in-Err.refusal)
      c.in-Err.fault c.deref-in-Err.result.now c.args.tokens.items
      c.in_ok-refusal-in-Err.ensures.sound c.deref-in-Err.ensures.value c.requires)
      (none_before c.args.text.now c.in-Err.fault (λ same. search rules)
      c.in-Err.ensures.refused c.in-Err.ensures.complete);
}
