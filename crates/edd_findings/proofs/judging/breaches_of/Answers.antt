use Rattle.edd_findings.proofs.VerdictLaws.{all_rules}
use Rattle.edd_findings.proofs.judging.breaches_of.Goals as goal

pub returns : goal.returns
returns c = record {
  sound =
      all_rules c.args.text.now (λ v. v.items) c.args.fault.now c.in-Rule.field-0
      c.args.unit.now c.args.tokens.now c.deref.result.now c.in_ok-told.told.items
      c.all_found.result c.in-Rule.is c.requires.unit c.requires.tokens c.deref.ensures.value
      c.in_ok-told.ensures c.all_found.ensures.sound;
}
