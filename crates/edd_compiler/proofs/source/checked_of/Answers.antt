use Rattle.edd_compiler.proofs.source.checked_of.Goals as goal

pub returns-clause-sound : goal.returns-clause-sound
returns-clause-sound c =
    c.checked_from.ensures.sound c.args.text.now c.in_ok-unit.ensures.sound

pub returns-clause-refused : goal.returns-clause-refused
returns-clause-refused c =
    c.checked_from.ensures.refused c.args.text.now c.in_ok-unit.ensures.sound
