use Rattle.edd_breaches.proofs.TellLaws.{tells_one}
use Rattle.edd_breaches.proofs.telling.tell_clash.Goals as goal

pub returns : goal.returns
returns c = record { told = tells_one _ c.args.told.now.items c.push.new.self.items c.in_ok-push.ensures.items }
