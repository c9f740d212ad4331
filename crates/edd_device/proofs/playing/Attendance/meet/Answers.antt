use Rattle.std.proofs.Common.{◌+◌, ◌∷◌, drop, get_or, map, ap, ◌∙◌}
use Rattle.edd_syntax.specs.declared.answer.Answer.{Answer}
use Rattle.edd_syntax.specs.Answers.{answer_of}
use Rattle.edd_port.proofs.ShownTurns.{one_mapped}
use Rattle.edd_device.proofs.Trialling.{takes_unrefused}
use Rattle.edd_device.proofs.playing.Attendance.meet.Goals as goal

pub returns-in-Ok-clause-taken : goal.returns-in-Ok-clause-taken
returns-in-Ok-clause-taken c = λ e.
    let next : Answer =
    get_or c.args.self.now.script.now c.args.self.now.next c.index-self-self.result in (
      answer_of next,
      one_mapped answer_of c.args.self.now.script.now c.args.self.now.next
          c.index-self-self.result c.if-self.false c.index-self-self.is
          ∙ ap (λ (a : Answer). answer_of a ∷ drop (c.args.self.now.next + 1)
          (map answer_of c.args.self.now.script.now)) c.index-self-self.is,
      takes_unrefused c.args.session.now c.answer.new.self c.args.request (answer_of next)
          c.requires c.in-Ok.ensures.refused c.in-Ok.ensures.fits c.in-Ok.ensures.image
          c.in-Ok.ensures.taken c.in-Ok.ensures.sound,
    )
