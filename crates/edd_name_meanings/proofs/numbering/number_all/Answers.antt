use Rattle.std.proofs.Common.{ap, ◌∙◌, ◌+◌, map, arith}
use Rattle.std.specs.Prelude.{if◌then◌else◌}
use Rattle.std.specs.Option.{option_or}
use Rattle.edd_syntax.specs.Item.{kind_of_item}
use Rattle.edd_syntax.specs.ItemView.{item_of}
use Rattle.edd_syntax.specs.Numbers.{item_number, same_kind}
use Rattle.edd_syntax.specs.Resolution.{count_of}
use Rattle.edd_syntax.specs.TreeView.{path_of}
use Rattle.edd_name_meanings.specs.Numbering.{if_named, count_in}
use Rattle.edd_name_meanings.proofs.MapLaws.{few_of, fewer, counted_more, numbered_more}
use Rattle.edd_name_meanings.proofs.numbering.number_all.Goals as goal

pub number_item-requires : goal.number_item-requires
number_item-requires c =
    let k = kind_of_item (item_of path_of c.item-item.result).sort in
    let e = c.loop-item.invariant.0 k in
    let f = fewer (item_of path_of) k c.loop-item.item-index c.args.items.now in
    let h = few_of (λ k. count_of k (map (item_of path_of) c.args.items.now)) c.requires.few k in
    omega (arith, e, f, h)

pub loop-item-preserved : goal.loop-item-preserved
loop-item-preserved c = (
  λ k. c.in_ok-number_item.ensures.counted k
      ∙ ap (λ n. n + (if same_kind (kind_of_item (item_of path_of c.item-item.result).sort) k then 1
      else 0)) (c.loop-item.invariant.0 k) ∙ counted_more (item_of path_of) k c.loop-item.item-index
      c.args.items.now c.item-item.result (omega arith) c.item-item.is,
  λ q. c.in_ok-number_item.ensures.sound q
      ∙ ap (λ o. option_or o (if_named (item_of path_of c.item-item.result).name q
      (item_number (kind_of_item (item_of path_of c.item-item.result).sort)
      (count_in c.loop-item.counts (kind_of_item (item_of path_of c.item-item.result).sort)))))
      (c.loop-item.invariant.1 q)
      ∙ numbered_more (item_of path_of) c.loop-item.item-index c.args.items.now c.item-item.result q
      _ (omega arith) c.item-item.is
      (c.loop-item.invariant.0 (kind_of_item (item_of path_of c.item-item.result).sort)),
)
