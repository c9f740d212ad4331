use Rattle.edd_instructions.specs.Validity.{IsValid}
use Rattle.std.proofs.Common.{rules}
use Rattle.edd_loader.proofs.RuleOrder.{valid_sections}
use Rattle.edd_loader.proofs.image.load.Goals as goal

pub starts_in-requires : goal.starts_in-requires
starts_in-requires c =
    let valid : IsValid c.args.bytes.now = search rules in
    valid_sections _ valid
