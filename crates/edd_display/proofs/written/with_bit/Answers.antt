use Rattle.edd_display.proofs.Masks.{set_kept, set_same}
use Rattle.edd_display.proofs.written.with_bit.Goals as goal

pub returns-clause-set : goal.returns-clause-set
returns-clause-set c = set_same c.args.bits c.args.number

pub returns-clause-kept : goal.returns-clause-kept
returns-clause-kept c other h = set_kept c.args.bits c.args.number other h
