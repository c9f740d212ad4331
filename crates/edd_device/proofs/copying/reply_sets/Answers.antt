use Rattle.std.proofs.Common.{map}
use Rattle.std.proofs.lemmas.Result.{IfOk-weaker}
use Rattle.edd_port.specs.Refusals.{change_of}
use Rattle.edd_device.proofs.Replies.{replied_valid}
use Rattle.edd_device.proofs.copying.reply_sets.Goals as goal

pub returns-clause-valid : goal.returns-clause-valid
returns-clause-valid c = IfOk-weaker c.collect_sets.result _ _ (λ sets h. replied_valid
    c.args.instrument.now c.args.device.now c.args.reply.now c.args.numbers.now
    (map change_of sets.items) h) c.collect_sets.ensures.sound
