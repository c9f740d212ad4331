use Rattle.std.proofs.Common.{rules}
use Rattle.std.specs.Prelude.{string_bytes}
use Rattle.edd_findings.proofs.VerdictLaws.{none_behind, refusal_among}
use Rattle.edd_findings.proofs.judging.of_description.Goals as goal

-- there are more strings than a table holds
pub returns : goal.returns
returns c = record {
  sound =
      c.refused_alone.ensures c.args.text.now
      (c.in-Err.ensures.refused c.args.text.now c.requires.description) (λ same. search rules)
      (refusal_among c.args.text.now (string_bytes c.in_ok-refusal-in-Err.refusal)
      c.in-Err.fault c.deref.result.now c.args.tokens.items
      c.in_ok-refusal-in-Err.ensures.sound c.deref.ensures.value c.requires.tokens)
      (none_behind c.args.text.now _ c.in-Err.fault c.in-Err.ensures.over);
}
