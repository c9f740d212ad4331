use Rattle.std.proofs.Common.{refl}
use Rattle.edd_loader.proofs.RuleOrder.{has_header}
use Rattle.edd_loader.proofs.image.Image.counts.Goals as goal

pub counts-requires : goal.counts-requires
counts-requires c = has_header _ _ refl c.self.invariant.0
