use Rattle.std.proofs.Common.{sym, subst, None, Option, Some}
use Rattle.std.specs.Prelude.{option_map}
use Rattle.edd_attrs.specs.declared.trees.Tree.{Tree}
use Rattle.edd_attrs.specs.Lowered.{LowersTree}
use Rattle.edd_attrs.specs.Views as views
use Rattle.edd_attrs.proofs.Written.{no_block, unit_lowered}
use Rattle.edd_attrs.proofs.lowering.lower_tree.Goals as goal
use Rattle.edd_attrs.proofs.lowering.lower_tree.Goals.{in-Some+in_ok-write_tree, in_default}

pub returns-clause-sound : goal.returns-clause-sound
returns-clause-sound c =
    let lowered : LowersTree c.args.table.now (option_map views.tree_of c.args.tree)
    c.match-tree.table c.put.new.code = elim c.match-tree.branch [
      | in-Some+in_ok-write_tree w ↦ subst (λ (t : Option Tree). LowersTree c.args.table.now
          (option_map views.tree_of t) c.match-tree.table c.put.new.code) (sym w.in-Some.is)
          (unit_lowered (Some (views.tree_of w.in-Some.tree)) c.in_ok-code.ensures w.table-is
          w.code-is w.in_ok-write_tree.ensures.sound c.in_ok-put.ensures.code)
      | in_default w ↦ subst (λ (t : Option Tree). LowersTree c.args.table.now
          (option_map views.tree_of t) c.match-tree.table c.put.new.code) (sym w.in_default.is)
          (unit_lowered None c.in_ok-code.ensures w.table-is w.code-is
          (no_block c.args.table.now c.in_ok-code.code) c.in_ok-put.ensures.code)
    ] in
    subst (LowersTree c.args.table.now (option_map views.tree_of c.args.tree) c.match-tree.table)
    (sym c.finish.ensures) lowered
