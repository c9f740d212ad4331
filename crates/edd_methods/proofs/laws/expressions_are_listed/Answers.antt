use Rattle.std.proofs.Common.{◌^◌}
use Rattle.edd_syntax.specs.Statement.{slots_in}
use Rattle.edd_methods.specs.StatementCode.{IsSpelled, Means}
use Rattle.edd_methods.proofs.ResolvedSlots.{each_slot}
use Rattle.edd_methods.proofs.TreeParts.{each_in_listed}
use Rattle.edd_methods.proofs.laws.expressions_are_listed.Goals as goal

pub returns-clause-means : goal.returns-clause-means
returns-clause-means c text machine env block_of body slots few all =
    each_in_listed (Means block_of text machine env) body
    (each_slot (slots_in body) (2 ^ 8) few body slots) all

pub returns-clause-spelled : goal.returns-clause-spelled
returns-clause-spelled c block_of body slots few all = each_in_listed (IsSpelled block_of) body
    (each_slot (slots_in body) (2 ^ 8) few body slots) all
