use Rattle.std.proofs.Common.{◌∙◌, sym}
use Rattle.edd_octets.proofs.Carrying.{of_operation}
use Rattle.edd_octets.proofs.carriers.add_if_operation.Goals as goal

pub returns-in_ok-add_of_command : goal.returns-in_ok-add_of_command
returns-in_ok-add_of_command c =
    let read = c.in_ok-has_operation.ensures in
    of_operation c.args.image.now c.args.values.now.numbers.items c.args.variable c.args.side
    c.args.operation c.args.command.0 read.0 c.args.all.now.items c.add_of_command.new.all.items
    read.1 (sym c.if-branch.true ∙ read.2) c.in_ok-add_of_command.ensures
