use Rattle.edd_name_meanings.proofs.UseCases.{tells_fault}
use Rattle.edd_name_meanings.proofs.telling.tell.Goals as goal

pub returns-clause-told : goal.returns-clause-told
returns-clause-told c = λ unit u p fault.
    tells_fault unit c.args.fault u p c.args.told.now.items c.push.new.self.items fault
    c.in_ok-push.ensures.items
