use Rattle.std.proofs.Common.{◌∙◌, ◌+◌, List, sym, subst}
use Rattle.edd_octets.specs.declared.messages.Message.{Message}
use Rattle.edd_octets.proofs.Carrying.{SoFar, ended, one_more, past_last}
use Rattle.edd_octets.proofs.carriers.add_of_command.Goals as goal

pub loop-position-preserved : goal.loop-position-preserved
loop-position-preserved c =
    let read = c.in_ok-found.ensures in
    subst (λ (ms : List Message). SoFar c.args.image.now c.args.values.now.numbers.items
    c.args.variable c.args.side c.args.command c.args.all.now.items (c.loop-position.position + 1) ms)
    (sym c.in_ok-add_if-in-Some.ensures)
    (one_more c.args.image.now c.args.values.now.numbers.items c.args.variable c.args.side
    c.args.command c.args.all.now.items c.loop-position.all.items c.loop-position.position
    c.in-Some.so c.loop-position.invariant c.loop-position-test.true
    (read.0, read.1, sym c.in-Some.is ∙ read.2))

pub returns-in-None : goal.returns-in-None
returns-in-None c =
    let read = c.in_ok-found.ensures in
    ended c.args.image.now c.args.values.now.numbers.items c.args.variable c.args.side
    c.args.command c.args.all.now.items c.loop-position.all.items c.loop-position.position
    c.loop-position.invariant c.loop-position-test.true
    (read.0, read.1, sym c.in-None.is ∙ read.2)

pub returns : goal.returns
returns c = past_last c.args.image.now c.args.values.now.numbers.items c.args.variable
    c.args.side c.args.command c.args.all.now.items c.loop-position.all.items
    c.loop-position.position c.loop-position.invariant c.loop-position-test.false
