use Rattle.std.proofs.Common.{Ok, Err}
use Rattle.std.proofs.lemmas.Result.{IfOk-weaker, IfErr-weaker}
use Rattle.edd_device.specs.Taken.{message_of, reading_of}
use Rattle.edd_device.proofs.Finding.{carried_as}
use Rattle.edd_device.proofs.messages.carried.Goals as goal

pub returns-clause-sound : goal.returns-clause-sound
returns-clause-sound c = IfOk-weaker c.join.result _ _ (λ m h. carried_as c.args.image.now
    c.args.values.now.numbers.items c.args.command c.args.position c.of_command.result
    c.of_command-2.result (reading_of c.in_ok-request.request) (reading_of c.in_ok-reply.reply)
    _ _ (Ok (message_of m)) c.of_command.ensures c.of_command-2.ensures c.in_ok-request.ensures
    c.in_ok-reply.ensures c.entries.ensures c.entries-2.ensures h) c.join.ensures.sound

pub returns-clause-refused : goal.returns-clause-refused
returns-clause-refused c = IfErr-weaker c.join.result _ _ (λ fault h ne. carried_as
    c.args.image.now c.args.values.now.numbers.items c.args.command c.args.position
    c.of_command.result c.of_command-2.result (reading_of c.in_ok-request.request)
    (reading_of c.in_ok-reply.reply) _ _ (Err fault) c.of_command.ensures c.of_command-2.ensures
    c.in_ok-request.ensures c.in_ok-reply.ensures c.entries.ensures c.entries-2.ensures h)
    c.join.ensures.refused
