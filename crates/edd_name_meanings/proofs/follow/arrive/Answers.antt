use Rattle.std.proofs.Common.{sym, ap, ◌∙◌, Some}
use Rattle.edd_name_meanings.specs.Directory.{description_of}
use Rattle.edd_name_meanings.proofs.PathLaws.{arrives, unknown}
use Rattle.edd_name_meanings.proofs.follow.arrive.Goals as goal

pub returns-in-Some-clause-sound : goal.returns-in-Some-clause-sound
returns-in-Some-clause-sound c = λ all at meant r. arrives (description_of c.args.names.now)
    c.args.allowed.now all at meant c.args.here c.in-Some.item c.in-Some.is (sym c.is_among.ensures
    ∙ c.if-not-is_among.false) r

pub returns-in-None-clause-sound : goal.returns-in-None-clause-sound
returns-in-None-clause-sound c = λ all at meant r.
    let u = unknown (description_of c.args.names.now) c.args.allowed.now all at meant c.args.here
    c.in-None.is (sym c.is_among.ensures ∙ c.if-not-is_among.false) r in
    (u.0, u.1 ∙ ap (λ t. Some t) (sym c.stand_in.ensures))
