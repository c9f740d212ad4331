use Rattle.std.proofs.Common.{nat_le, arith}
use Rattle.std.proofs.lemmas.Bool.{leb-true}
use Rattle.edd_syntax.specs.ItemView.{numbered_item}
use Rattle.edd_syntax.specs.NameRules.{transaction_count}
use Rattle.edd_syntax.proofs.NumberedLoops.{all_at}
use Rattle.edd_syntax.proofs.rows.push_items.Goals as goal

pub push_item-requires : goal.push_item-requires
push_item-requires c =
    leb-true (transaction_count (numbered_item c.one-item.result.item.now)) 4096
    (all_at (λ i. nat_le (transaction_count i) 4096) (λ m. numbered_item m.item.now)
    c.args.marked.now c.loop-one.one-index c.one-item.result (omega arith) c.one-item.is
    c.requires.transactions)
