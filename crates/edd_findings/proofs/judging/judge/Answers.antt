use Rattle.std.proofs.Common.{rules}
use Rattle.edd_findings.proofs.VerdictLaws.{none_before}
use Rattle.edd_findings.proofs.judging.judge.Goals as goal

-- the text has no tokens
pub returns-in_ok-refusal-in-Err : goal.returns-in_ok-refusal-in-Err
returns-in_ok-refusal-in-Err c = record {
  sound =
      c.refused_alone.ensures c.args.text.now c.in-Err.ensures.refused (λ same. search rules)
      c.in_ok-refusal-in-Err.ensures.sound
      (none_before c.args.text.now c.in-Err.fault (λ same. search rules)
      c.in-Err.ensures.refused c.in-Err.ensures.complete);
}
