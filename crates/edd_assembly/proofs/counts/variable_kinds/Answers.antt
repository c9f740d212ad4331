use Rattle.std.proofs.Common.{arith}
use Rattle.edd_syntax.specs.ItemView.{numbered_item}
use Rattle.edd_syntax.proofs.NumberedLoops.{all_at}
use Rattle.edd_assembly.specs.Assembly.{is_small_variable}
use Rattle.edd_assembly.proofs.counts.variable_kinds.Goals as goal

pub push_variable-requires : goal.push_variable-requires
push_variable-requires c = all_at is_small_variable numbered_item c.args.items.now
    c.loop-item.item-index c.item-item.result (omega arith) c.item-item.is c.requires
