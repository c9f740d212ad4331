use Rattle.std.proofs.Common.{refl, length, arith}
use Rattle.edd_syntax.specs.ItemView.{numbered_item}
use Rattle.edd_assembly.specs.Assembly.{names_of_kind}
use Rattle.edd_assembly.proofs.NameLoops.{names_appended, bytes_appended, names_done, bytes_done, kind_split}
use Rattle.edd_assembly.proofs.names.NameSection.push_kind.Goals as goal

pub loop-item-preserved : goal.loop-item-preserved
loop-item-preserved c = (
  names_appended (names_of_kind c.args.kind) numbered_item refl (kind_split c.args.kind)
      c.loop-item.self.rows.items _ c.loop-item.self.bytes.items c.loop-item.item-index
      c.args.items.now (omega arith) c.item-item.is c.in_ok-push_if.ensures.rows
      c.in_ok-push_if.ensures.bytes c.loop-item.invariant.0,
  bytes_appended (names_of_kind c.args.kind) numbered_item refl (kind_split c.args.kind)
      c.loop-item.self.bytes.items _ c.loop-item.item-index c.args.items.now (omega arith)
      c.item-item.is c.in_ok-push_if.ensures.bytes c.loop-item.invariant.1,
)

pub returns-clause-rows : goal.returns-clause-rows
returns-clause-rows c = names_done (names_of_kind c.args.kind) numbered_item refl
    (kind_split c.args.kind) c.loop-item.self.rows.items _ (length c.loop-item.self.bytes.items)
    c.loop-item.item-index c.args.items.now (omega arith) c.loop-item.invariant.0

pub returns-clause-bytes : goal.returns-clause-bytes
returns-clause-bytes c = bytes_done (names_of_kind c.args.kind) numbered_item refl
    (kind_split c.args.kind) c.loop-item.self.bytes.items _ c.loop-item.item-index c.args.items.now
    (omega arith) c.loop-item.invariant.1
