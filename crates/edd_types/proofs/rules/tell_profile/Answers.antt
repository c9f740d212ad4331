use Rattle.edd_types.proofs.AllPlaces.{all_are}
use Rattle.edd_types.proofs.rules.tell_profile.Goals as goal

pub returns-clause-rules : goal.returns-clause-rules
returns-clause-rules c i = all_are i c.args.items.now
