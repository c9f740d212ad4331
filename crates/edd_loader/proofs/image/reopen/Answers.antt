use Rattle.edd_loader.proofs.RuleOrder.{valid_sections}
use Rattle.edd_loader.proofs.image.reopen.Goals as goal

pub starts_in-requires : goal.starts_in-requires
starts_in-requires c = valid_sections _ c.requires
