use Rattle.std.proofs.Common.{rules}
use Rattle.std.specs.Prelude.{string_bytes}
use Rattle.edd_findings.proofs.VerdictLaws.{refusal_among}
use Rattle.edd_findings.proofs.judging.of_unit.Goals as goal

-- a rule is broken
pub returns : goal.returns
returns c = record {
  sound = (
    (λ same. search rules),
    c.in-Err.ensures.refused c.args.text.now c.requires.unit,
    refusal_among c.args.text.now (string_bytes c.in_ok-refusal-in-Err.refusal) c.in-Err.fault
        c.deref.result.now c.args.tokens.items c.in_ok-refusal-in-Err.ensures.sound
        c.deref.ensures.value c.requires.tokens,
    c.in_ok-breaches-in-Err.ensures.sound,
  );
}
