use Rattle.edd_syntax.specs.Answers.{answer_of}
use Rattle.edd_device.proofs.Trialling.{takes}
use Rattle.edd_device.proofs.playing.give.Goals as goal

pub returns-clause-taken : goal.returns-clause-taken
returns-clause-taken c = takes c.args.session.now c.answer.new.self c.args.request
    (answer_of c.args.answer.now) c.requires.asks c.requires.valid c.in-Ok.ensures.fits
    c.in-Ok.ensures.image c.in-Ok.ensures.taken c.in-Ok.ensures.sound
